use Rattle.std.proofs.Common.{◌≡◌}
use Rattle.std.specs.Prelude.{replicate}
use Rattle.beta_poly.specs.Polynomial.{zero_poly}
use Rattle.span_solver.proofs.solve.nothings.Given as goal

abbrev pub invariant-loop-i : goal.invariant-loop-i
invariant-loop-i l = l.out ≡ replicate l._i zero_poly
