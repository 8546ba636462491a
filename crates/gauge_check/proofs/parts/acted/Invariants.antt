use Rattle.gauge_check.specs.Actions.{leg_links}
use Rattle.gauge_check.proofs.Gathers.{AreActed}
use Rattle.gauge_check.proofs.parts.acted.Given as goal

abbrev pub invariant-loop-leg : goal.invariant-loop-leg
invariant-loop-leg l = AreActed (leg_links l.action l.kind l.side) l.part l.leg l.values
