use Rattle.sparse_tensor.proofs.Parts.{ranks_are}
use Rattle.sparse_tensor.proofs.sparse.Sparse.rank.Goals as goal

pub returns-clause-value : goal.returns-clause-value
returns-clause-value c = ranks_are c.self.inside.rank c.self.inside.entries.items c.args.self.now c.self.invariant c.self.view_is
