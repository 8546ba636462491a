use Rattle.std.proofs.Common.{length}
use Rattle.model_core.proofs.factors.+push_rep_slots.Given as goal

abbrev pub decreases-push_rep_slots : goal.decreases-push_rep_slots
decreases-push_rep_slots l = length l.reps.now
