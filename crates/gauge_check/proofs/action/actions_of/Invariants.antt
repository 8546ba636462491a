use Rattle.gauge_check.specs.Actions.{AreActions}
use Rattle.gauge_check.proofs.ActionRuns.{first_generators}
use Rattle.gauge_check.proofs.action.actions_of.Given as goal

-- the generators of the first groups
abbrev pub invariant-loop-place : goal.invariant-loop-place
invariant-loop-place l = AreActions l.model (first_generators l.model l.place) l.actions
