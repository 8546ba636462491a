use Rattle.std.proofs.Common.{◌≡◌, take}
use Rattle.gauge_check.proofs.Components.{legs_from}
use Rattle.gauge_check.proofs.component.component_at.Given as goal

abbrev pub invariant-loop-leg : goal.invariant-loop-leg
invariant-loop-leg l = l.component ≡ take l.leg (legs_from l.model l.kind l.side 0 l.key)
