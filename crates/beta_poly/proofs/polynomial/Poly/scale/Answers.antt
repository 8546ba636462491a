use Rattle.std.proofs.Common.{subst, ap, sym, ◌∙◌}
use Rattle.exact_algebra.specs.Formal.{IsCanonical-scaled}
use Rattle.frac128.specs.RationalLaws.{ring_ℚ}
use Rattle.beta_poly.specs.Monomial.{monomial_keys}
use Rattle.beta_poly.specs.Polynomial.{IsPolynomial, polynomial, scale_poly, zero_test}
use Rattle.beta_poly.proofs.Views.{polynomial-scaled}
use Rattle.beta_poly.proofs.polynomial.Poly.scale.Goals as goal

pub invariant_of-result : goal.invariant_of-result
invariant_of-result c =
    let ok : IsPolynomial c.as_slice.result.now = subst IsPolynomial (sym c.as_slice.ensures.value) c.self.invariant in
    subst IsPolynomial (sym c.in_ok-terms.ensures.value) (IsCanonical-scaled monomial_keys ring_ℚ.semiring zero_test c.args.by c.as_slice.result.now ok.ascending)

pub returns-clause-value : goal.returns-clause-value
returns-clause-value c =
    ap polynomial c.in_ok-terms.ensures.value ∙ polynomial-scaled c.args.by c.as_slice.result.now ∙ ap (scale_poly c.args.by) (ap polynomial c.as_slice.ensures.value ∙ c.self.view_is)
