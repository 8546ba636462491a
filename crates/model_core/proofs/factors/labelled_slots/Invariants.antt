use Rattle.std.proofs.Common.{◌≡◌, take}
use Rattle.model_core.specs.Factors.{labelled_slots}
use Rattle.model_core.proofs.factors.labelled_slots.Given as goal

abbrev pub invariant-loop-factor : goal.invariant-loop-factor
invariant-loop-factor l = l.slots ≡ labelled_slots l.model (take l.factor-index l.factors)
