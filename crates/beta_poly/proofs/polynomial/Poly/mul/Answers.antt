use Rattle.std.proofs.Common.{◌≡◌, subst, ap, ap₂, sym, ◌∙◌}
use Rattle.exact_algebra.specs.Canon.{of-products}
use Rattle.frac128.specs.RationalLaws.{ring_ℚ}
use Rattle.beta_poly.specs.Monomial.{monomials, monomial_keys}
use Rattle.beta_poly.specs.Polynomial.{polynomial, mul_poly, zero_test, TermsFit}
use Rattle.exact_algebra.specs.Maps.{of-permuted}
use Rattle.beta_poly.proofs.Views.{terms_are}
use Rattle.beta_poly.proofs.polynomial.Poly.mul.Goals as goal

pub products-requires : goal.products-requires
products-requires c =
    let a_is = c.as_slice.ensures.value ∙ terms_are c.self.inside.terms.items c.args.self.now c.self.invariant c.self.view_is in
    let b_is = c.as_slice-2.ensures.value ∙ terms_are c.other.inside.terms.items c.args.other.now c.other.invariant c.other.view_is in
    subst (λ a. TermsFit a c.as_slice-2.result.now) (sym a_is) (subst (TermsFit c.args.self.now.0) (sym b_is) c.requires)

pub returns-clause-value : goal.returns-clause-value
unfolding polynomial
returns-clause-value c =
    let a_is : polynomial c.as_slice.result.now ≡ c.args.self.now = ap polynomial c.as_slice.ensures.value ∙ c.self.view_is in
    let b_is : polynomial c.as_slice-2.result.now ≡ c.args.other.now = ap polynomial c.as_slice-2.ensures.value ∙ c.other.view_is in
    c.in_ok-terms.ensures.value ∙ of-permuted monomial_keys ring_ℚ.semiring zero_test c.in_ok-all.all.items c.sort_terms.new.terms.items c.in_ok-sort_terms.ensures.permutation ∙ ap polynomial c.in_ok-all.ensures.value ∙ of-products monomials ring_ℚ.semiring zero_test c.as_slice.result.now c.as_slice-2.result.now ∙ ap₂ mul_poly a_is b_is
