use Rattle.std.proofs.Common.{◌≡◌, length, ap, ◌∙◌, rules}
use Rattle.sparse_tensor.proofs.Parts.{entries_are}
use Rattle.sparse_tensor.proofs.sparse.Sparse.len.Goals as goal

pub returns : goal.returns
returns c =
    let same = ap length (entries_are c.self.inside.rank c.self.inside.entries.items c.args.self.now c.self.invariant c.self.view_is) in
    let whole : c.len.result ≡ length c.self.inside.entries.items = search rules in
    whole ∙ same
