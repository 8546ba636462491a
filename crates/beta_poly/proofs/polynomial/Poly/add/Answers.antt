use Rattle.std.proofs.Common.{◌≡◌, subst, ap, ap₂, sym, ◌∙◌}
use Rattle.exact_algebra.specs.Merge.{IsCanonical-merge}
use Rattle.frac128.specs.RationalLaws.{ring_ℚ}
use Rattle.beta_poly.specs.Monomial.{monomial_keys}
use Rattle.beta_poly.specs.Polynomial.{IsPolynomial, polynomial, add_poly, zero_test}
use Rattle.beta_poly.proofs.Steps.{of-merge}
use Rattle.beta_poly.proofs.polynomial.Poly.add.Goals as goal

pub invariant_of-result : goal.invariant_of-result
invariant_of-result c =
    let a_ok : IsPolynomial c.as_slice.result.now = subst IsPolynomial (sym c.as_slice.ensures.value) c.self.invariant in
    let b_ok : IsPolynomial c.as_slice-2.result.now = subst IsPolynomial (sym c.as_slice-2.ensures.value) c.other.invariant in
    subst IsPolynomial (sym c.in_ok-terms.ensures.value) (IsCanonical-merge monomial_keys ring_ℚ.semiring zero_test c.as_slice.result.now c.as_slice-2.result.now a_ok b_ok)

pub returns-clause-value : goal.returns-clause-value
unfolding polynomial
returns-clause-value c =
    let a_is : polynomial c.as_slice.result.now ≡ c.args.self.now = ap polynomial c.as_slice.ensures.value ∙ c.self.view_is in
    let b_is : polynomial c.as_slice-2.result.now ≡ c.args.other.now = ap polynomial c.as_slice-2.ensures.value ∙ c.other.view_is in
    ap polynomial c.in_ok-terms.ensures.value ∙ of-merge monomial_keys ring_ℚ.semiring zero_test c.as_slice.result.now c.as_slice-2.result.now ∙ ap₂ add_poly a_is b_is
