use Rattle.std.proofs.Common.{◌≡◌, ◌++◌, drop}
use Rattle.frac128.specs.RationalLaws.{ring_ℚ}
use Rattle.frac128.specs.Rational.{◌*ℚ◌}
use Rattle.frac128.specs.Frac.{IsSmall}
use Rattle.exact_algebra.specs.Formal.{scaled}
use Rattle.beta_poly.specs.Monomial.{monomial_keys}
use Rattle.beta_poly.specs.Polynomial.{zero_test}
use Rattle.beta_poly.proofs.Refused.{Checked}
use Rattle.beta_poly.proofs.terms.scale_terms.Given as goal

abbrev pub invariant-loop-term : goal.invariant-loop-term
invariant-loop-term l = record {
  multiplied : l.out.items ++ scaled monomial_keys ring_ℚ.semiring zero_test l.by (drop l.term-index l.terms) ≡ scaled monomial_keys ring_ℚ.semiring zero_test l.by l.terms;
  checked : Checked monomial_keys ring_ℚ.semiring zero_test (λ x y. IsSmall (x *ℚ l.by)) l.terms l.terms l.term-index l.term-index;
}
