use Rattle.std.proofs.Common.{sym, ◌∙◌}
use Rattle.sparse_tensor.specs.Tensor.{rank_of, entries_of}
use Rattle.derive_core.proofs.ConstantParts.{value_elsewhere}
use Rattle.derive_core.proofs.outcomes.value_at.Goals as goal

pub returns-then-key-rank : goal.returns-then-key-rank
returns-then-key-rank g =
    let t = g.args.tensor.now in
    g.zero.ensures ∙ sym (value_elsewhere (rank_of t) (entries_of t) g.args.key.now t.1.keys (λ same. g.if-key-rank.true (same ∙ sym g.rank.ensures.value)))
