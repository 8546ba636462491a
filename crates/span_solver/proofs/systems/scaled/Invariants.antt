use Rattle.std.proofs.Common.{◌≡◌, take}
use Rattle.span_solver.specs.Algebra.{polynomials}
use Rattle.span_solver.specs.Combine.{scaled}
use Rattle.span_solver.proofs.systems.scaled.Given as goal

abbrev pub invariant-loop-x : goal.invariant-loop-x
invariant-loop-x l = l.out.items ≡ scaled polynomials l.p (take l.x-index l.values)
