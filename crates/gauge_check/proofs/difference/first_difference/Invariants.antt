use Rattle.std.proofs.Common.{List, take}
use Rattle.model_core.specs.TermTensor.{Numbers}
use Rattle.gauge_check.specs.Steps.{AreWhole, any_differs_at, IsFirstKey}
use Rattle.gauge_check.proofs.difference.first_difference.Given as goal

abbrev pub invariant-loop-direction : goal.invariant-loop-direction
invariant-loop-direction l = (fs : List Numbers) → AreWhole l.model fs l.directions → IsFirstKey l.model (any_differs_at l.model (take l.direction-index fs)) l.first
