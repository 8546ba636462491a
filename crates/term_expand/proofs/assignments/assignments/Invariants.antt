use Rattle.std.proofs.Common.{◌≡◌, drop}
use Rattle.term_expand.specs.Assignments.{assigned, assignments}
use Rattle.term_expand.proofs.assignments.assignments.Given as goal

abbrev pub invariant-loop-factor : goal.invariant-loop-factor
invariant-loop-factor l =
    assigned l.model l.row l.column (drop l.factor-index l.factors) l.found ≡ assignments l.model l.row l.column l.factors
