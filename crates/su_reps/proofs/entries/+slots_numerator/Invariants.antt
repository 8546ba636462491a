use Rattle.std.proofs.Common.{length}
use Rattle.su_reps.proofs.entries.+slots_numerator.Given as goal

abbrev pub decreases-slots_numerator : goal.decreases-slots_numerator
decreases-slots_numerator l = length l.sides.now
