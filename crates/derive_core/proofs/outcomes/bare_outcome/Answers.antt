use Rattle.sparse_tensor.specs.Tensor.{rank_of}
use Rattle.derive_core.proofs.outcomes.bare_outcome.Goals as goal

pub outcome_of-requires-clause-block : goal.outcome_of-requires-clause-block
outcome_of-requires-clause-block g c κs within = c.bare-block.ensures.rank (rank_of c.args.tensor.now)
