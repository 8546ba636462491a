use Rattle.gauge_check.specs.Actions.{Extends}
use Rattle.gauge_check.proofs.ActionRuns.{special_rows}
use Rattle.gauge_check.proofs.action.push_special.Given as goal

-- the first rows
abbrev pub invariant-loop-i : goal.invariant-loop-i
invariant-loop-i l = Extends l.model (special_rows l.place l.group.n l.i) l.initial.actions l.actions
