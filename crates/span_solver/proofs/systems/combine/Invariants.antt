use Rattle.std.proofs.Common.{◌≡◌, drop}
use Rattle.beta_poly.specs.Polynomial.{add_poly}
use Rattle.span_solver.specs.Algebra.{polynomials}
use Rattle.span_solver.specs.Combine.{combine}
use Rattle.span_solver.proofs.systems.combine.Given as goal

abbrev pub invariant-loop-i : goal.invariant-loop-i
invariant-loop-i l = add_poly l.total (combine polynomials (drop l.i l.entries) (drop l.i l.values)) ≡ combine polynomials l.entries l.values
