use Rattle.std.proofs.Common.{length}
use Rattle.model_reader.proofs.term_checks.+checked_joins.Given as goal

abbrev pub decreases-checked_joins : goal.decreases-checked_joins
decreases-checked_joins l = length l.sum.now
