-- Commutative rings with the rational numbers as constants: the rational numbers themselves, and polynomials.
use Rattle.std.proofs.Common.{◌≡◌, refl, sym, ◌∙◌, ap}
use Rattle.std.specs.Prelude.{◌≢◌}
use Rattle.exact_algebra.specs.Ring.{CommutativeRing}
use Rattle.frac128.specs.Rational.{ℚ, zero_ℚ, one_ℚ, ◌+ℚ◌, ◌*ℚ◌, neg_ℚ, ◌-ℚ◌, reciprocal}
use Rattle.frac128.specs.RationalLaws.{ring_ℚ, +ℚ-neg, zero-+ℚ, *ℚ-reciprocal, *ℚ_comm}
use Rattle.exact_algebra.specs.Maps.{const-one, const-add, const-mul}
use Rattle.beta_poly.specs.Monomial.{monomials}
use Rattle.beta_poly.specs.Polynomial.{poly_ring, zero_test, constant}

pub record Algebra : Type 1 where
  pub ring : CommutativeRing
  pub constant : ℚ → ring.semiring.carrier
  pub constant_one : constant one_ℚ ≡ ring.semiring.one
  pub constant_add : (x y : ℚ) → constant (x +ℚ y) ≡ ring.semiring.add (constant x) (constant y)
  pub constant_mul : (x y : ℚ) → constant (x *ℚ y) ≡ ring.semiring.mul (constant x) (constant y)

-- the rational numbers as constants of themselves
abbrev pub rationals : Algebra
rationals = record {
  ring = ring_ℚ;
  constant = λ x. x;
  constant_one = refl;
  constant_add = λ x y. refl;
  constant_mul = λ x y. refl;
}

-- the rational numbers as polynomials of degree 0
abbrev pub polynomials : Algebra
polynomials = record {
  ring = poly_ring;
  constant = constant;
  constant_one = const-one monomials ring_ℚ.semiring zero_test;
  constant_add = const-add monomials ring_ℚ.semiring zero_test;
  constant_mul = const-mul monomials ring_ℚ.semiring zero_test;
}

module _ (A : Algebra) where
  open A.ring.semiring use {carrier, zero as none, add as ◌⊞◌, mul as ◌⊠◌}

  infixl 6 ◌⊞◌
  infixl 7 ◌⊠◌
  pub constant_zero : A.constant zero_ℚ ≡ none
  constant_zero =
      A.ring.semiring.add_cancel (A.constant zero_ℚ) (A.constant zero_ℚ) none
      (sym (A.constant_add zero_ℚ zero_ℚ) ∙ ap A.constant (zero-+ℚ zero_ℚ) ∙ sym (A.ring.semiring.add_zero (A.constant zero_ℚ)))

  pub constant_neg : (x : ℚ) → A.constant (neg_ℚ x) ≡ A.ring.neg (A.constant x)
  constant_neg x =
      A.ring.semiring.add_cancel (A.constant x) (A.constant (neg_ℚ x)) (A.ring.neg (A.constant x))
      (sym (A.constant_add x (neg_ℚ x)) ∙ ap A.constant (+ℚ-neg x) ∙ constant_zero ∙ sym (A.ring.add_neg (A.constant x)))

  -- p * b - a * q
  pub constant-step : (p b a q : ℚ) → A.constant (p *ℚ b -ℚ a *ℚ q) ≡ (A.constant p ⊠ A.constant b) ⊞ A.ring.neg (A.constant a ⊠ A.constant q)
  constant-step p b a q =
      A.constant_add (p *ℚ b) (neg_ℚ (a *ℚ q)) ∙ ap (λ x. x ⊞ A.constant (neg_ℚ (a *ℚ q))) (A.constant_mul p b)
      ∙ ap (λ x. (A.constant p ⊠ A.constant b) ⊞ x) (constant_neg (a *ℚ q) ∙ ap A.ring.neg (A.constant_mul a q))

  pub inverse-left : (p : ℚ) → p ≢ zero_ℚ → A.constant (reciprocal p) ⊠ A.constant p ≡ A.ring.semiring.one
  inverse-left p h = sym (A.constant_mul (reciprocal p) p) ∙ ap A.constant (*ℚ_comm (reciprocal p) p ∙ *ℚ-reciprocal p h) ∙ A.constant_one

  -- a constant other than 0 on both sides
  pub cancel_constant : (p : ℚ) (x y : carrier) → p ≢ zero_ℚ → A.constant p ⊠ x ≡ A.constant p ⊠ y → x ≡ y
  cancel_constant p x y h e =
      sym (undo x) ∙ ap (λ z. A.constant (reciprocal p) ⊠ z) e ∙ undo y
    where
      undo : (z : carrier) → A.constant (reciprocal p) ⊠ (A.constant p ⊠ z) ≡ z
      undo z =
          sym (A.ring.semiring.mul_assoc (A.constant (reciprocal p)) (A.constant p) z) ∙ ap (λ w. w ⊠ z) (inverse-left p h)
          ∙ A.ring.semiring.mul_comm A.ring.semiring.one z ∙ A.ring.semiring.mul_one z

  pub zero-constant : (p : ℚ) (x : carrier) → p ≢ zero_ℚ → A.constant p ⊠ x ≡ none → x ≡ none
  zero-constant p x h e = cancel_constant p x none h (e ∙ sym (A.ring.semiring.mul_zero (A.constant p)))
