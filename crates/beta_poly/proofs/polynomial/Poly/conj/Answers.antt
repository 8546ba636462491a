use Rattle.std.proofs.Common.{subst, ap, sym, ◌∙◌}
use Rattle.std.specs.Prelude.{map, IsPermutation}
use Rattle.frac128.specs.Rational.{ℚ}
use Rattle.frac128.specs.RationalLaws.{ring_ℚ}
use Rattle.beta_poly.specs.Monomial.{monomial_keys, conj_monomial, conj_monomial-conj_monomial}
use Rattle.beta_poly.specs.Polynomial.{IsPolynomial, polynomial, zero_test}
use Rattle.exact_algebra.specs.Maps.{of-permuted}
use Rattle.beta_poly.proofs.Gathered.{rising}
use Rattle.beta_poly.proofs.Distinct.{canonical_renamed}
use Rattle.beta_poly.proofs.Views.{terms_are, polynomial-conjugate}
use Rattle.beta_poly.proofs.polynomial.Poly.conj.Goals as goal

pub invariant_of-result : goal.invariant_of-result
invariant_of-result c =
    let ok : IsPolynomial c.as_slice.result.now = subst IsPolynomial (sym c.as_slice.ensures.value) c.self.invariant in
    let moved = subst (λ l. IsPermutation l c.sort_terms.new.terms.items) c.in_ok-terms.ensures c.in_ok-sort_terms.ensures.permutation in
    canonical_renamed monomial_keys ring_ℚ.semiring zero_test conj_monomial conj_monomial-conj_monomial c.as_slice.result.now c.sort_terms.new.terms.items ok moved (rising monomial_keys ℚ c.sort_terms.new.terms.items c.in_ok-sort_terms.ensures.sorted)

pub returns : goal.returns
unfolding polynomial
returns c =
    let same = c.as_slice.ensures.value ∙ terms_are c.self.inside.terms.items c.args.self.now c.self.invariant c.self.view_is in
    of-permuted monomial_keys ring_ℚ.semiring zero_test c.in_ok-terms.terms.items c.sort_terms.new.terms.items c.in_ok-sort_terms.ensures.permutation ∙ ap polynomial (c.in_ok-terms.ensures ∙ ap (map (λ e. (conj_monomial e.0, e.1))) same) ∙ polynomial-conjugate c.args.self.now
