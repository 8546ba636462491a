use Rattle.std.proofs.Common.{◌≡◌, ◌++◌, drop}
use Rattle.term_expand.specs.Assignments.{extended}
use Rattle.term_expand.proofs.assignments.push_extended.Given as goal

abbrev pub invariant-loop-candidate : goal.invariant-loop-candidate
invariant-loop-candidate l =
    l.found ++ extended l.kind l.labels (drop l.candidate-index l.candidates) l.assignment
    ≡ l.initial.found ++ extended l.kind l.labels l.candidates l.assignment
