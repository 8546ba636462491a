-- What is kept of an entry.
use Rattle.std.specs.Prelude.{◌≡◌, ◌==◌, ℕ, suc, true, false, List, [], ◌∷◌, length}
use Rattle.std.proofs.Common.{refl, sym, ap, ◌∙◌, true≢false, arith}
use Rattle.frac128.specs.RationalLaws.{ring_ℚ}
use Rattle.exact_algebra.specs.Formal.{strip_at}
use Rattle.exact_algebra.specs.Maps.{map_is_zero, is_nil}
use Rattle.exact_algebra.specs.TensorContraction.{places_keys}
use Rattle.beta_poly.specs.Monomial.{monomials}
use Rattle.beta_poly.specs.Polynomial.{Polynomial, poly_ring, zero_poly, zero_test}
use Rattle.sparse_tensor.specs.Tensor.{poly_zero_test, kept}

no_item : {A : Type 0} (xs : List A) → (length xs == 0) ≡ is_nil monomials ring_ℚ.semiring zero_test xs
unfolding is_nil
no_item [] = refl
no_item (x ∷ xs) = positive (length xs)
  where
    positive : (n : ℕ) → (suc n == 0) ≡ false
    positive n = grind arith

-- a polynomial is 0 where it has no term
pub zero_by_length : (p : Polynomial) → (length p.0 == 0) ≡ poly_zero_test.is_zero p
unfolding map_is_zero
zero_by_length p = no_item p.0

pub kept_none : (key : List ℕ) (p : Polynomial) → poly_zero_test.is_zero p ≡ true → kept key p ≡ []
unfolding kept strip_at
kept_none key p h = ap (λ b. strip_at places_keys poly_ring.semiring poly_zero_test b (key, p) []) h

pub kept_one : (key : List ℕ) (p : Polynomial) → poly_zero_test.is_zero p ≡ false → kept key p ≡ (key, p) ∷ []
unfolding kept strip_at
kept_one key p h = ap (λ b. strip_at places_keys poly_ring.semiring poly_zero_test b (key, p) []) h

pub not_zero : (p : Polynomial) → poly_zero_test.is_zero p ≡ false → p ≡ zero_poly → ⊥
not_zero p h e = true≢false (sym poly_zero_test.at_zero ∙ ap poly_zero_test.is_zero (sym e) ∙ h)

pub kept_is : (key : List ℕ) (p : Polynomial) → kept key p ≡ strip_at places_keys poly_ring.semiring poly_zero_test (poly_zero_test.is_zero p) (key, p) []
unfolding kept
kept_is key p = refl
