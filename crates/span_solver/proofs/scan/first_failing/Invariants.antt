use Rattle.std.proofs.Common.{take}
use Rattle.frac128.specs.Rational.{reciprocal}
use Rattle.sparse_tensor.specs.Tensor.{value}
use Rattle.span_solver.specs.Algebra.{polynomials}
use Rattle.span_solver.specs.Combine.{scaled}
use Rattle.span_solver.specs.Systems.{Solves}
use Rattle.span_solver.specs.Scanned.{valued}
use Rattle.span_solver.proofs.scan.first_failing.Given as goal

abbrev pub invariant-loop-i : goal.invariant-loop-i
invariant-loop-i l = Solves polynomials (scaled polynomials (reciprocal l.solution.number) l.solution.multiples) (take l.i (valued (value l.tensor) l.keys l.rows))
