-- Lemmas on the fractions and polynomials of the steps.
use Rattle.std.specs.Prelude.{◌≡◌, ◌≢◌, ℕ, suc, ◌<◌, ◌*◌, ℤ, pos, ◌*ℤ◌, Bool, true, false, List, [], ◌∷◌, length, ◌==◌}
use Rattle.std.proofs.Common.{refl, sym, ap, ap₂, ◌∙◌, arith, true≢false}
use Rattle.std.proofs.lemmas.Int.{ints}
use Rattle.exact_algebra.specs.Canon.{value-nought}
use Rattle.exact_algebra.specs.Formal.{coefficient-eval, unit_at}
use Rattle.exact_algebra.specs.Maps.{map_is_zero, is_nil}
use Rattle.exact_algebra.specs.Solver.{identity}
use Rattle.exact_algebra.specs.Solver.Term.{var, ◌⊗◌, opposite}
use Rattle.frac128.specs.Rational.{ℚ, zero_ℚ, ◌*ℚ◌, ◌/ℚ◌, neg_ℚ, whole, ratio, reciprocal, ratio_self, ratio-same}
use Rattle.frac128.specs.RationalLaws.{ring_ℚ, mul-ratio, whole-ratio, *ℚ-reciprocal, reciprocal-*ℚ, *ℚ-one}
use Rattle.beta_poly.specs.Monomial.{Monomial, monomials, monomial_keys}
use Rattle.beta_poly.specs.Polynomial.{Polynomial, poly_ring, zero_poly, zero_test, constant, coefficient_of, scale_poly, mul_poly}
use Rattle.sparse_tensor.specs.Tensor.{poly_zero_test}
use Rattle.span_solver.specs.Algebra.{polynomials, constant_neg}

-- ---- the reciprocal
once : (z : ℤ) → z *ℤ pos 1 ≡ z
once z = omega (arith, ints)

numerator : (x : ℚ) → x *ℚ whole (pos x.den) ≡ whole x.num
numerator x =
    let same : x.den * 1 ≡ x.den = omega arith in
    ap₂ ◌*ℚ◌ (sym (ratio_self x)) (whole-ratio (pos x.den)) ∙ mul-ratio x.num (pos x.den) x.den 1 x.lowest.positive (omega arith)
    ∙ ap (ratio (x.num *ℤ pos x.den)) same
    ∙ ratio-same (x.num *ℤ pos x.den) x.num x.den 1 x.lowest.positive (omega arith) (once (x.num *ℤ pos x.den)) ∙ sym (whole-ratio x.num)

other : (d : ℕ) → 0 < d → whole (pos d) ≢ zero_ℚ
other d l e = let same : pos d ≡ pos 0 = ap (λ (q : ℚ). q.num) e in let none : d ≡ 0 = omega (arith, ints, same) in absurd (omega (arith, l, none))

-- the denominator over the numerator
pub turned_over : (x : ℚ) → x ≢ zero_ℚ → whole (pos x.den) /ℚ whole x.num ≡ reciprocal x
turned_over x n =
    let d = whole (pos x.den) in
    let m = other x.den x.lowest.positive in
    ap (λ y. d *ℚ reciprocal y) (sym (numerator x)) ∙ ap (λ y. d *ℚ y) (reciprocal-*ℚ x d n m)
    ∙ identity ring_ℚ (d ∷ reciprocal x ∷ reciprocal d ∷ []) (var 0 ⊗ (var 1 ⊗ var 2)) (var 1 ⊗ (var 0 ⊗ var 2)) refl
    ∙ ap (λ y. reciprocal x *ℚ y) (*ℚ-reciprocal d m) ∙ *ℚ-one (reciprocal x)

-- ---- polynomials
pub no_coefficient : (m : Monomial) → coefficient_of zero_poly m ≡ zero_ℚ
no_coefficient m =
    coefficient-eval monomial_keys ring_ℚ.semiring zero_poly.0 m ∙ value-nought monomial_keys ring_ℚ.semiring zero_test (unit_at monomial_keys ring_ℚ.semiring m)

no_item : {A : Type 0} (xs : List A) → (length xs == 0) ≡ is_nil monomials ring_ℚ.semiring zero_test xs
unfolding is_nil
no_item [] = refl
no_item (x ∷ xs) = positive (length xs)
  where
    positive : (n : ℕ) → (suc n == 0) ≡ false
    positive n = grind arith

zero_by_length : (p : Polynomial) → (length p.0 == 0) ≡ poly_zero_test.is_zero p
unfolding map_is_zero
zero_by_length p = no_item p.0

pub not_zero : (p : Polynomial) → poly_zero_test.is_zero p ≡ false → p ≢ zero_poly
not_zero p h e = absurd (true≢false (sym poly_zero_test.at_zero ∙ ap poly_zero_test.is_zero (sym e) ∙ h))

pub nothing_is : (p : Polynomial) (b : Bool) → b ≡ (length p.0 == 0) → (b ≡ true → p ≡ zero_poly) × (p ≡ zero_poly → b ≡ true)
nothing_is p b e = (
  λ t. poly_zero_test.yes p (sym (zero_by_length p) ∙ sym e ∙ t),
  λ z. e ∙ zero_by_length p ∙ ap poly_zero_test.is_zero z ∙ poly_zero_test.at_zero,
)

pub negated_multiple : (a : ℚ) (w : Polynomial) → scale_poly (neg_ℚ a) w ≡ poly_ring.neg (scale_poly a w)
negated_multiple a w =
    ap (λ c. mul_poly c w) (constant_neg polynomials a) ∙ identity poly_ring (constant a ∷ w ∷ []) (opposite (var 0) ⊗ var 1) (opposite (var 0 ⊗ var 1)) refl
