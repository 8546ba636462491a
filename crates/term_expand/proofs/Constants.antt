-- Numbers as polynomials.
use Rattle.std.specs.Prelude.{◌≡◌, [], ◌∷◌}
use Rattle.std.proofs.Common.{refl, sym, ◌∙◌}
use Rattle.exact_algebra.specs.Naturals.{nat_semiring, nat_zero}
use Rattle.exact_algebra.specs.Canon.{of-zero, nought-of, value-of, same_values, eval-single}
use Rattle.exact_algebra.specs.Maps.{value-const}
use Rattle.frac128.specs.Rational.{ℚ}
use Rattle.frac128.specs.RationalLaws.{ring_ℚ}
use Rattle.beta_poly.specs.declared.symbol.Symbol.{Symbol}
use Rattle.beta_poly.specs.Symbol.{symbol_keys}
use Rattle.beta_poly.specs.Monomial.{one_monomial, monomial_keys, monomials, monomial, power}
use Rattle.beta_poly.specs.Polynomial.{zero_test, polynomial, term, constant}

-- a power with the exponent 0 is the monomial 1
pub no_power : (s : Symbol) → power s 0 ≡ one_monomial
unfolding monomial
no_power s = of-zero symbol_keys nat_semiring nat_zero s 0 refl ∙ sym (nought-of symbol_keys nat_semiring nat_zero)

-- a number is the term with the monomial 1
pub constant_term : (c : ℚ) → term one_monomial c ≡ constant c
unfolding polynomial
constant_term c =
    same_values monomial_keys ring_ℚ.semiring zero_test (term one_monomial c) (constant c) (λ F. value-of monomial_keys ring_ℚ.semiring zero_test ((one_monomial, c) ∷ []) F ∙ eval-single monomial_keys ring_ℚ.semiring zero_test one_monomial c F ∙ sym (value-const monomials ring_ℚ.semiring zero_test c F))
