use Rattle.std.proofs.Common.{length}
use Rattle.model_core.proofs.factors.+slot_count.Given as goal

abbrev pub decreases-slot_count : goal.decreases-slot_count
decreases-slot_count l = length l.reps.now
