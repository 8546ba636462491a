-- The laws of polynomials, each from the laws of finite maps.
use Rattle.std.specs.Prelude.{◌≡◌}
use Rattle.std.proofs.Common.{sym, ap, ap₂, ◌∙◌}
use mathlib.Core.Path.{fun_ext}
use Rattle.exact_algebra.specs.Formal.{coefficient-eval, unit_at}
use Rattle.exact_algebra.specs.Canon.{same_coefficients, value, value-plus, value-nought, value-mult, same_values}
use Rattle.exact_algebra.specs.Maps.{const-one, const-zero, const-add, const-mul, value-const, rename-plus, rename-mult, value-rename}
use Rattle.frac128.specs.Rational.{ℚ, ◌+ℚ◌, ◌*ℚ◌}
use Rattle.frac128.specs.RationalLaws.{ring_ℚ}
use Rattle.beta_poly.specs.Monomial.{Monomial, monomial_keys, monomials, one_monomial, times_monomial, conj_monomial, conj_monomial-times}
use Rattle.beta_poly.specs.Polynomial.{Polynomial, poly_ring, zero_test, mul_poly, constant, scale_poly, conj_poly, conj_poly-conj_poly}
use Rattle.beta_poly.specs.Laws.{PolynomialRingLaws, ConstantLaws, ConjugateLaws, CoefficientLaws}

pub polynomial_ring_laws : PolynomialRingLaws
polynomial_ring_laws = record {
  add_assoc = poly_ring.semiring.add_assoc;
  add_comm = poly_ring.semiring.add_comm;
  add_zero = poly_ring.semiring.add_zero;
  add_neg = poly_ring.add_neg;
  mul_assoc = poly_ring.semiring.mul_assoc;
  mul_comm = poly_ring.semiring.mul_comm;
  mul_one = λ p. ap (mul_poly p) (const-one monomials ring_ℚ.semiring zero_test) ∙ poly_ring.semiring.mul_one p;
  mul_add = poly_ring.semiring.mul_add;
}

pub constant_laws : ConstantLaws
constant_laws = record {
  zero = const-zero monomials ring_ℚ.semiring zero_test;
  add = const-add monomials ring_ℚ.semiring zero_test;
  mul = const-mul monomials ring_ℚ.semiring zero_test;
}

-- a multiple has the multiple of each value
pub value-scale : (c : ℚ) (p : Polynomial) (F : Monomial → ℚ) → value monomial_keys ring_ℚ.semiring zero_test (scale_poly c p) F ≡ c *ℚ value monomial_keys ring_ℚ.semiring zero_test p F
value-scale c p F =
    value-mult monomials ring_ℚ.semiring zero_test (constant c) p F ∙ value-const monomials ring_ℚ.semiring zero_test c (λ j. value monomial_keys ring_ℚ.semiring zero_test p (λ k. F (times_monomial j k))) ∙ ap (λ G. c *ℚ value monomial_keys ring_ℚ.semiring zero_test p G) (fun_ext (λ k. ap F (monomials.times_comm one_monomial k ∙ monomials.times_unit k)))

conj-scale : (c : ℚ) (p : Polynomial) → conj_poly (scale_poly c p) ≡ scale_poly c (conj_poly p)
conj-scale c p =
    same_values monomial_keys ring_ℚ.semiring zero_test (conj_poly (scale_poly c p)) (scale_poly c (conj_poly p)) (λ F. value-rename monomials ring_ℚ.semiring zero_test conj_monomial (scale_poly c p) F ∙ value-scale c p (λ k. F (conj_monomial k)) ∙ ap (λ s. c *ℚ s) (sym (value-rename monomials ring_ℚ.semiring zero_test conj_monomial p F)) ∙ sym (value-scale c (conj_poly p) F))

pub conjugate_laws : ConjugateLaws
conjugate_laws = record {
  twice = conj_poly-conj_poly;
  add = rename-plus monomials ring_ℚ.semiring zero_test conj_monomial;
  mul = rename-mult monomials ring_ℚ.semiring zero_test conj_monomial conj_monomial-times;
  scale = conj-scale;
}

pub coefficient_laws : CoefficientLaws
coefficient_laws = record {
  same = same_coefficients monomial_keys ring_ℚ.semiring zero_test;
  zero = λ m. coefficient-eval monomial_keys ring_ℚ.semiring _ m ∙ value-nought monomial_keys ring_ℚ.semiring zero_test (unit_at monomial_keys ring_ℚ.semiring m);
  add = λ p q m. coefficient-eval monomial_keys ring_ℚ.semiring _ m ∙ value-plus monomial_keys ring_ℚ.semiring zero_test p q (unit_at monomial_keys ring_ℚ.semiring m) ∙ ap₂ ◌+ℚ◌ (sym (coefficient-eval monomial_keys ring_ℚ.semiring p.0 m)) (sym (coefficient-eval monomial_keys ring_ℚ.semiring q.0 m));
  scale = λ c p m. coefficient-eval monomial_keys ring_ℚ.semiring _ m ∙ value-scale c p (unit_at monomial_keys ring_ℚ.semiring m) ∙ ap (λ s. c *ℚ s) (sym (coefficient-eval monomial_keys ring_ℚ.semiring p.0 m));
}
