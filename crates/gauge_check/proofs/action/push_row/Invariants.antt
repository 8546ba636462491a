use Rattle.gauge_check.specs.Actions.{special_row, Extends}
use Rattle.gauge_check.proofs.action.push_row.Given as goal

-- the first of the row
abbrev pub invariant-loop-j : goal.invariant-loop-j
invariant-loop-j l = Extends l.model (special_row l.place l.i l.j) l.initial.actions l.actions
