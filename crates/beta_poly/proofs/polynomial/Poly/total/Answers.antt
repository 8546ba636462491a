use Rattle.std.proofs.Common.{◌∙◌}
use Rattle.exact_algebra.specs.Maps.{of-permuted}
use Rattle.frac128.specs.RationalLaws.{ring_ℚ}
use Rattle.beta_poly.specs.Monomial.{monomial_keys}
use Rattle.beta_poly.specs.Polynomial.{polynomial, zero_test}
use Rattle.beta_poly.proofs.polynomial.Poly.total.Goals as goal

pub returns-clause-value : goal.returns-clause-value
unfolding polynomial
returns-clause-value c =
    c.in_ok-terms.ensures.value
    ∙ of-permuted monomial_keys ring_ℚ.semiring zero_test c.in_ok-all.all.items c.sort_terms.new.terms.items c.in_ok-sort_terms.ensures.permutation
    ∙ c.in_ok-all.ensures
