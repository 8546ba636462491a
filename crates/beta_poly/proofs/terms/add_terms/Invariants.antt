use Rattle.std.proofs.Common.{length, ◌-◌, ◌+◌, ◌≡◌, ◌++◌, drop, ◌≤◌}
use Rattle.frac128.specs.RationalLaws.{ring_ℚ}
use Rattle.frac128.specs.Frac.{SumFits}
use Rattle.exact_algebra.specs.Merge.{merge}
use Rattle.beta_poly.specs.Monomial.{monomial_keys}
use Rattle.beta_poly.specs.Polynomial.{zero_test}
use Rattle.beta_poly.proofs.Refused.{Checked}
use Rattle.beta_poly.proofs.terms.add_terms.Given as goal

abbrev pub invariant-loop-i : goal.invariant-loop-i
invariant-loop-i l = record {
  in_a : l.i ≤ length l.a;
  in_b : l.j ≤ length l.b;
  merged : l.out.items ++ merge monomial_keys ring_ℚ.semiring zero_test (drop l.i l.a) (drop l.j l.b) ≡ merge monomial_keys ring_ℚ.semiring zero_test l.a l.b;
  checked : Checked monomial_keys ring_ℚ.semiring zero_test SumFits l.a l.b l.i l.j;
}

abbrev pub decreases-loop-i : goal.decreases-loop-i
decreases-loop-i l = (length l.a - l.i) + (length l.b - l.j)
