-- Regroupings in a commutative ring that the proof of `contracted` cites, each by the solver.
use Rattle.std.proofs.Common.{◌≡◌, refl, ◌∙◌, ap, [], ◌∷◌}
use Rattle.exact_algebra.specs.Ring.{CommutativeRing}
use Rattle.exact_algebra.specs.Solver.{identity}
use Rattle.exact_algebra.specs.Solver.Term.{var, nought, single, ◌⊕◌, ◌⊗◌, opposite}

module _ (C : CommutativeRing) where
  open C.semiring use {carrier, zero as 𝟘, one as 𝟙, add as ◌⊞◌, mul as ◌⊠◌}

  infixl 6 ◌⊞◌
  infixl 7 ◌⊠◌
  pub pairs_across : (a b c d : carrier) → (a ⊠ b) ⊠ (c ⊠ d) ≡ (a ⊠ c) ⊠ (b ⊠ d)
  pairs_across a b c d = identity C (a ∷ b ∷ c ∷ d ∷ []) ((var 0 ⊗ var 1) ⊗ (var 2 ⊗ var 3)) ((var 0 ⊗ var 2) ⊗ (var 1 ⊗ var 3)) refl

  pub product_of_parts : (s t a b c d v w x y : carrier) → (s ⊠ t) ⊠ ((((a ⊠ b) ⊠ (c ⊠ d)) ⊠ (v ⊠ w)) ⊠ (x ⊠ y)) ≡ (s ⊠ (((a ⊠ c) ⊠ v) ⊠ x)) ⊠ (t ⊠ (((b ⊠ d) ⊠ w) ⊠ y))
  product_of_parts s t a b c d v w x y =
      identity C (s ∷ t ∷ a ∷ b ∷ c ∷ d ∷ v ∷ w ∷ x ∷ y ∷ [])
      ((var 0 ⊗ var 1) ⊗ ((((var 2 ⊗ var 3) ⊗ (var 4 ⊗ var 5)) ⊗ (var 6 ⊗ var 7)) ⊗ (var 8 ⊗ var 9)))
      ((var 0 ⊗ (((var 2 ⊗ var 4) ⊗ var 6) ⊗ var 8)) ⊗ (var 1 ⊗ (((var 3 ⊗ var 5) ⊗ var 7) ⊗ var 9))) refl

  pub signs_agree : (k : carrier) → 𝟙 ⊠ k ⊞ C.neg 𝟙 ⊠ k ≡ 𝟘
  signs_agree k = identity C (k ∷ []) (single ⊗ var 0 ⊕ opposite single ⊗ var 0) nought refl

  pub signs_other : (k : carrier) → C.neg 𝟙 ⊠ k ⊞ 𝟙 ⊠ k ≡ 𝟘
  signs_other k = identity C (k ∷ []) (opposite single ⊗ var 0 ⊕ single ⊗ var 0) nought refl

  pub sign_out : (s k : carrier) → C.neg s ⊠ k ≡ C.neg (s ⊠ k)
  sign_out s k = identity C (s ∷ k ∷ []) (opposite (var 0) ⊗ var 1) (opposite (var 0 ⊗ var 1)) refl

  pub neg_neg : (a : carrier) → C.neg (C.neg a) ≡ a
  neg_neg a = identity C (a ∷ []) (opposite (opposite (var 0))) (var 0) refl

  pub neg_neg_one : C.neg 𝟙 ⊠ C.neg 𝟙 ≡ 𝟙
  neg_neg_one = identity C [] (opposite single ⊗ opposite single) single refl

  pub neg_zero : C.neg 𝟘 ≡ 𝟘
  neg_zero = identity C [] (opposite nought) nought refl

  pub neg_add : (a b : carrier) → C.neg (a ⊞ b) ≡ C.neg a ⊞ C.neg b
  neg_add a b = identity C (a ∷ b ∷ []) (opposite (var 0 ⊕ var 1)) (opposite (var 0) ⊕ opposite (var 1)) refl

  pub only_var : (a : carrier) → 𝟙 ⊠ (((𝟙 ⊠ 𝟙) ⊠ (a ⊠ 𝟙)) ⊠ 𝟙) ⊞ 𝟘 ≡ a
  only_var a = identity C (a ∷ []) (single ⊗ (((single ⊗ single) ⊗ (var 0 ⊗ single)) ⊗ single) ⊕ nought) (var 0) refl

  pub only_up : (a : carrier) → 𝟙 ⊠ ((((a ⊠ 𝟙) ⊠ 𝟙) ⊠ 𝟙) ⊠ 𝟙) ⊞ 𝟘 ≡ a
  only_up a = identity C (a ∷ []) (single ⊗ ((((var 0 ⊗ single) ⊗ single) ⊗ single) ⊗ single) ⊕ nought) (var 0) refl

  pub only_down : (a : carrier) → 𝟙 ⊠ (((𝟙 ⊠ (a ⊠ 𝟙)) ⊠ 𝟙) ⊠ 𝟙) ⊞ 𝟘 ≡ a
  only_down a = identity C (a ∷ []) (single ⊗ (((single ⊗ (var 0 ⊗ single)) ⊗ single) ⊗ single) ⊕ nought) (var 0) refl

  pub only_delta : (a : carrier) → 𝟙 ⊠ (((𝟙 ⊠ 𝟙) ⊠ 𝟙) ⊠ (a ⊠ 𝟙)) ≡ a
  only_delta a = identity C (a ∷ []) (single ⊗ (((single ⊗ single) ⊗ single) ⊗ (var 0 ⊗ single))) (var 0) refl

  pub only_one : 𝟙 ⊠ (((𝟙 ⊠ 𝟙) ⊠ 𝟙) ⊠ 𝟙) ⊞ 𝟘 ≡ 𝟙
  only_one = identity C [] (single ⊗ (((single ⊗ single) ⊗ single) ⊗ single) ⊕ nought) single refl

  -- a factor that a sum gives
  pub factor_in : (s k v c x : carrier) → s ⊠ ((k ⊠ v) ⊠ (c ⊠ x)) ≡ s ⊠ (((c ⊠ k) ⊠ v) ⊠ x)
  factor_in s k v c x = identity C (s ∷ k ∷ v ∷ c ∷ x ∷ []) (var 0 ⊗ ((var 1 ⊗ var 2) ⊗ (var 3 ⊗ var 4))) (var 0 ⊗ (((var 3 ⊗ var 1) ⊗ var 2) ⊗ var 4)) refl

  pub part_zero : (s k : carrier) → s ⊠ (k ⊠ 𝟘) ≡ 𝟘
  part_zero s k = identity C (s ∷ k ∷ []) (var 0 ⊗ (var 1 ⊗ nought)) nought refl

  -- equal where the difference is 0
  pub equal_from_difference : (a b : carrier) → a ⊞ C.neg b ≡ 𝟘 → a ≡ b
  equal_from_difference a b e =
      identity C (a ∷ b ∷ []) (var 0) ((var 0 ⊕ opposite (var 1)) ⊕ var 1) refl ∙ ap (λ k. k ⊞ b) e ∙ identity C (b ∷ []) (nought ⊕ var 0) (var 0) refl
