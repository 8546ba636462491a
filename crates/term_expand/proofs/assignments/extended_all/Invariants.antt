use Rattle.std.proofs.Common.{◌≡◌, take}
use Rattle.std.specs.List.{flat_map}
use Rattle.term_expand.specs.Assignments.{extended}
use Rattle.term_expand.proofs.assignments.extended_all.Given as goal

abbrev pub invariant-loop-assignment : goal.invariant-loop-assignment
invariant-loop-assignment l = l.found ≡ flat_map (extended l.kind l.labels l.candidates) (take l.assignment-index l.assignments)
