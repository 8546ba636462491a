use Rattle.std.proofs.Common.{length}
use Rattle.model_core.proofs.factors.+stands_times.Given as goal

abbrev pub decreases-stands_times : goal.decreases-stands_times
decreases-stands_times l = length l.factors.now
