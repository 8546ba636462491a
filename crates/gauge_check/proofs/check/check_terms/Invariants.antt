use Rattle.gauge_check.proofs.TermRuns.{RestAt}
use Rattle.gauge_check.proofs.check.check_terms.Given as goal

abbrev pub invariant-loop-place : goal.invariant-loop-place
invariant-loop-place l = RestAt l.model l.place l.rest
