-- Multiples of polynomials by a fraction.
use Rattle.std.proofs.Common.{◌≡◌, ◌∙◌, ap}
use Rattle.exact_algebra.specs.Ring.{one_mul}
use Rattle.exact_algebra.specs.Maps.{const-one}
use Rattle.frac128.specs.Rational.{one_ℚ}
use Rattle.frac128.specs.RationalLaws.{ring_ℚ}
use Rattle.beta_poly.specs.Monomial.{monomials}
use Rattle.beta_poly.specs.Polynomial.{Polynomial, poly_ring, mul_poly, scale_poly, zero_test}

pub scale_one : (p : Polynomial) → scale_poly one_ℚ p ≡ p
scale_one p = ap (λ c. mul_poly c p) (const-one monomials ring_ℚ.semiring zero_test) ∙ one_mul poly_ring.semiring p
