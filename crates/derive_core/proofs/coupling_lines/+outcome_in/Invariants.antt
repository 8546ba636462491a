use Rattle.std.proofs.Common.{length}
use Rattle.derive_core.proofs.coupling_lines.+outcome_in.Given as goal

abbrev pub decreases-outcome_in : goal.decreases-outcome_in
decreases-outcome_in l = length l.told.now
