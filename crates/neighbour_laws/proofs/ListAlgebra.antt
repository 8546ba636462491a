-- Matrices on the elements of a list that obey the Lie algebra of SU(n): on a list of one part after another, where they are
-- 0 between different parts, they do so if they do on each part.
use Rattle.std.proofs.Common.{◌≡◌, ℕ, suc, ◌≤◌, List, [], ◌∷◌, ◌++◌, map, sym, subst, ap, ap₂, ◌∙◌, refl, arith, inl, inr}
use Rattle.std.specs.Prelude.{◌⊎◌, ⊤}
use Rattle.std.specs.List.{flat_map}
use mathlib.Core.Path.{fun_ext}
use Rattle.exact_algebra.specs.Regroup.{neg_zero}
use Rattle.exact_algebra.specs.Solver.{identity}
use Rattle.exact_algebra.specs.Solver.Term.{var, ◌⊕◌, ◌⊗◌, opposite}
use Rattle.exact_algebra.specs.Sums.{below, below-neg, below-none, below-same, sum, sum-append, sum-map}
use Rattle.frac128.specs.Rational.{ℚ, zero_ℚ, ◌+ℚ◌, ◌*ℚ◌, neg_ℚ}
use Rattle.frac128.specs.RationalLaws.{ring_ℚ, *ℚ-zero, zero-*ℚ, zero-+ℚ, +ℚ-zero}
use Rattle.su_reps.specs.Tuples.{AreValues, delta}
use Rattle.neighbour_laws.proofs.ActionSums.{nothing_times}
use Rattle.neighbour_laws.proofs.Members.{IsIn, in-append, in-map, sum-in_zero}

-- a matrix for each X_ij
abbrev pub Family : Type 0 → Type 0
Family A = ℕ → ℕ → A → A → ℚ

-- the right side of the Lie algebra: δ_jl X_im - δ_im X_lj
abbrev pub structure : {A : Type 0} → Family A → ℕ → ℕ → ℕ → ℕ → A → A → ℚ
structure X i j l m c d = delta j l *ℚ X i m c d +ℚ neg_ℚ (delta i m) *ℚ X l j c d

-- X_ij X_lm is X_lm X_ij and that, with the elements of a list between them
abbrev pub HasBracket : {A : Type 0} → Family A → List A → ℕ → ℕ → ℕ → ℕ → A → A → Type 0
HasBracket X xs i j l m c d = sum ring_ℚ.semiring xs (λ e. X i j c e *ℚ X l m e d) ≡ sum ring_ℚ.semiring xs (λ e. X l m c e *ℚ X i j e d) +ℚ structure X i j l m c d

-- this holds, and the X_ii add up to 0
pub record IsAlgebra {A : Type 0} (n : ℕ) (X : Family A) (xs : List A) : Type 0 where
  pub bracket : (i j l m : ℕ) → AreValues n (i ∷ j ∷ l ∷ m ∷ []) → (c d : A) → IsIn c xs → IsIn d xs → HasBracket X xs i j l m c d
  pub diagonal : (c d : A) → IsIn c xs → IsIn d xs → below ring_ℚ.semiring n (λ i. X (suc i) (suc i) c d) ≡ zero_ℚ

-- all matrices are 0 between two elements
abbrev pub AreApart : {A : Type 0} → Family A → A → A → Type 0
AreApart X c d = (i j : ℕ) → (X i j c d ≡ zero_ℚ) × (X i j d c ≡ zero_ℚ)

-- ---- one part after another

module _ {A : Type 0} (n : ℕ) (X : Family A) where
  -- in a list of two parts
  module _ (xs ys : List A) (apart : (c d : A) → IsIn c xs → IsIn d ys → AreApart X c d) where
    -- the sum from an element of a part is that over the part
    sum-left : (i j : ℕ) (c : A) (h : A → ℚ) → IsIn c xs → sum ring_ℚ.semiring (xs ++ ys) (λ e. X i j c e *ℚ h e) ≡ sum ring_ℚ.semiring xs (λ e. X i j c e *ℚ h e)
    sum-left i j c h inside =
        sum-append ring_ℚ.semiring xs ys (λ e. X i j c e *ℚ h e)
        ∙ ap (λ s. sum ring_ℚ.semiring xs (λ e. X i j c e *ℚ h e) +ℚ s) (sum-in_zero ys (λ e. X i j c e *ℚ h e) (λ e there. ap (λ k. k *ℚ h e) (apart c e inside there i j).0 ∙ zero-*ℚ (h e)))
        ∙ +ℚ-zero (sum ring_ℚ.semiring xs (λ e. X i j c e *ℚ h e))

    sum-right : (i j : ℕ) (c : A) (h : A → ℚ) → IsIn c ys → sum ring_ℚ.semiring (xs ++ ys) (λ e. X i j c e *ℚ h e) ≡ sum ring_ℚ.semiring ys (λ e. X i j c e *ℚ h e)
    sum-right i j c h inside =
        sum-append ring_ℚ.semiring xs ys (λ e. X i j c e *ℚ h e)
        ∙ ap (λ s. s +ℚ sum ring_ℚ.semiring ys (λ e. X i j c e *ℚ h e)) (sum-in_zero xs (λ e. X i j c e *ℚ h e) (λ e there. ap (λ k. k *ℚ h e) (apart e c there inside i j).1 ∙ zero-*ℚ (h e)))
        ∙ zero-+ℚ (sum ring_ℚ.semiring ys (λ e. X i j c e *ℚ h e))

    -- between the two parts the product is 0
    product-left : (i j l m : ℕ) (c d : A) → IsIn c xs → IsIn d ys → sum ring_ℚ.semiring (xs ++ ys) (λ e. X i j c e *ℚ X l m e d) ≡ zero_ℚ
    product-left i j l m c d inside there =
        sum-left i j c (λ e. X l m e d) inside
        ∙ sum-in_zero xs (λ e. X i j c e *ℚ X l m e d) (λ e here. ap (λ k. X i j c e *ℚ k) (apart e d here there l m).0 ∙ *ℚ-zero (X i j c e))

    product-right : (i j l m : ℕ) (c d : A) → IsIn c ys → IsIn d xs → sum ring_ℚ.semiring (xs ++ ys) (λ e. X i j c e *ℚ X l m e d) ≡ zero_ℚ
    product-right i j l m c d inside there =
        sum-right i j c (λ e. X l m e d) inside
        ∙ sum-in_zero ys (λ e. X i j c e *ℚ X l m e d) (λ e here. ap (λ k. X i j c e *ℚ k) (apart d e there here l m).1 ∙ *ℚ-zero (X i j c e))

    -- both sides are 0
    no_bracket : (i j l m : ℕ) (c d : A) (s t : ℚ) → s ≡ zero_ℚ → t ≡ zero_ℚ → X i m c d ≡ zero_ℚ → X l j c d ≡ zero_ℚ → s ≡ t +ℚ structure X i j l m c d
    no_bracket i j l m c d s t first second third fourth =
        first ∙ nothing_times (delta j l) (neg_ℚ (delta i m)) ∙ sym (ap₂ ◌+ℚ◌ second (ap₂ (λ x y. delta j l *ℚ x +ℚ neg_ℚ (delta i m) *ℚ y) third fourth))

    bracket-append : IsAlgebra n X xs → IsAlgebra n X ys → (i j l m : ℕ) → AreValues n (i ∷ j ∷ l ∷ m ∷ []) → (c d : A) → IsIn c xs ⊎ IsIn c ys → IsIn d xs ⊎ IsIn d ys
        → HasBracket X (xs ++ ys) i j l m c d
    bracket-append first second i j l m values c d (inl a) (inl b) =
        sum-left i j c (λ e. X l m e d) a ∙ first.bracket i j l m values c d a b ∙ ap (λ s. s +ℚ structure X i j l m c d) (sym (sum-left l m c (λ e. X i j e d) a))
    bracket-append first second i j l m values c d (inl a) (inr b) =
        no_bracket i j l m c d _ _ (product-left i j l m c d a b) (product-left l m i j c d a b) (apart c d a b i m).0 (apart c d a b l j).0
    bracket-append first second i j l m values c d (inr a) (inl b) =
        no_bracket i j l m c d _ _ (product-right i j l m c d a b) (product-right l m i j c d a b) (apart d c b a i m).1 (apart d c b a l j).1
    bracket-append first second i j l m values c d (inr a) (inr b) =
        sum-right i j c (λ e. X l m e d) a ∙ second.bracket i j l m values c d a b ∙ ap (λ s. s +ℚ structure X i j l m c d) (sym (sum-right l m c (λ e. X i j e d) a))

    diagonal-append : IsAlgebra n X xs → IsAlgebra n X ys → (c d : A) → IsIn c xs ⊎ IsIn c ys → IsIn d xs ⊎ IsIn d ys → below ring_ℚ.semiring n (λ i. X (suc i) (suc i) c d) ≡ zero_ℚ
    diagonal-append first second c d (inl a) (inl b) = first.diagonal c d a b
    diagonal-append first second c d (inl a) (inr b) = below-none ring_ℚ.semiring n (λ i. X (suc i) (suc i) c d) (λ i l. (apart c d a b (suc i) (suc i)).0)
    diagonal-append first second c d (inr a) (inl b) = below-none ring_ℚ.semiring n (λ i. X (suc i) (suc i) c d) (λ i l. (apart d c b a (suc i) (suc i)).1)
    diagonal-append first second c d (inr a) (inr b) = second.diagonal c d a b

    pub algebra-append : IsAlgebra n X xs → IsAlgebra n X ys → IsAlgebra n X (xs ++ ys)
    algebra-append first second = record {
      bracket = λ i j l m values c d here there. bracket-append first second i j l m values c d (in-append c xs ys here) (in-append d xs ys there);
      diagonal = λ c d here there. diagonal-append first second c d (in-append c xs ys here) (in-append d xs ys there);
    }

  pub algebra-nil : IsAlgebra n X []
  algebra-nil = record { bracket = λ i j l m values c d here there. absurd here; diagonal = λ c d here there. absurd here }

  -- parts of which each is apart from all later ones
  abbrev pub ArePartsApart : {B : Type 0} → (B → List A) → List B → Type 0
  ArePartsApart f [] = ⊤
  ArePartsApart f (x ∷ xs) = ((c d : A) → IsIn c (f x) → IsIn d (flat_map f xs) → AreApart X c d) × ArePartsApart f xs

  pub algebra-flat_map : {B : Type 0} (f : B → List A) (xs : List B) → ((x : B) → IsIn x xs → IsAlgebra n X (f x)) → ArePartsApart f xs → IsAlgebra n X (flat_map f xs)
  algebra-flat_map f [] each apart = algebra-nil
  algebra-flat_map f (x ∷ xs) each apart =
      algebra-append (f x) (flat_map f xs) apart.0 (each x (inl refl)) (algebra-flat_map f xs (λ y there. each y (inr there)) apart.1)

  -- one element, where all matrices are 0
  pub algebra-single : (x : A) → ((i j : ℕ) → X i j x x ≡ zero_ℚ) → IsAlgebra n X (x ∷ [])
  algebra-single x none = record {
    bracket = λ i j l m values c d here there. elim here [
      | inl e ↦ elim there [ inl f ↦ subst (λ c. HasBracket X (x ∷ []) i j l m c d) (sym e) (subst (λ d. HasBracket X (x ∷ []) i j l m x d) (sym f) (at_it i j l m)) | inr h ↦ absurd h ]
      | inr h ↦ absurd h
    ];
    diagonal = λ c d here there. elim here [
      | inl e ↦ elim there [ inl f ↦ below-none ring_ℚ.semiring n (λ i. X (suc i) (suc i) c d) (λ i l. ap₂ (X (suc i) (suc i)) e f ∙ none (suc i) (suc i)) | inr h ↦ absurd h ]
      | inr h ↦ absurd h
    ];
  }
    where
      no_product : (i j l m : ℕ) → sum ring_ℚ.semiring (x ∷ []) (λ e. X i j x e *ℚ X l m e x) ≡ zero_ℚ
      no_product i j l m = sum-in_zero (x ∷ []) (λ e. X i j x e *ℚ X l m e x) (λ e there. elim there [
        | inl same ↦ ap₂ (λ a b. X i j x a *ℚ X l m b x) same same ∙ ap₂ ◌*ℚ◌ (none i j) (none l m) ∙ zero-*ℚ zero_ℚ
        | inr h ↦ absurd h
      ])

      at_it : (i j l m : ℕ) → HasBracket X (x ∷ []) i j l m x x
      at_it i j l m =
          no_product i j l m ∙ nothing_times (delta j l) (neg_ℚ (delta i m))
          ∙ sym (ap₂ ◌+ℚ◌ (no_product l m i j) (ap₂ (λ a b. delta j l *ℚ a +ℚ neg_ℚ (delta i m) *ℚ b) (none i m) (none l j)))

-- ---- other matrices

-- on an image
pub algebra-map : {A B : Type 0} (n : ℕ) (X : Family A) (f : B → A) (xs : List B) → IsAlgebra n (λ i j p q. X i j (f p) (f q)) xs → IsAlgebra n X (map f xs)
algebra-map n X f xs given = record {
  bracket = λ i j l m values c d here there.
      let first = in-map f c xs here in
      let second = in-map f d xs there in
      subst (λ c. HasBracket X (map f xs) i j l m c d) (sym first.2) (subst (λ d. HasBracket X (map f xs) i j l m (f first.0) d) (sym second.2)
      (sum-map ring_ℚ.semiring f xs (λ e. X i j (f first.0) e *ℚ X l m e (f second.0))
      ∙ given.bracket i j l m values first.0 second.0 first.1 second.1
      ∙ ap (λ s. s +ℚ structure X i j l m (f first.0) (f second.0)) (sym (sum-map ring_ℚ.semiring f xs (λ e. X l m (f first.0) e *ℚ X i j e (f second.0))))));
  diagonal = λ c d here there.
      let first = in-map f c xs here in
      let second = in-map f d xs there in
      below-same ring_ℚ.semiring n (λ i. X (suc i) (suc i) c d) (λ i. X (suc i) (suc i) (f first.0) (f second.0)) (λ i l. ap₂ (X (suc i) (suc i)) first.2 second.2)
      ∙ given.diagonal first.0 second.0 first.1 second.1;
}

-- the same matrices for i from 1 on
pub algebra-same : {A : Type 0} (n : ℕ) (X Y : Family A) (xs : List A) → ((i j : ℕ) → 1 ≤ i → (c d : A) → Y i j c d ≡ X i j c d) → IsAlgebra n X xs → IsAlgebra n Y xs
algebra-same n X Y xs same given = record {
  bracket = λ i j l m values c d here there.
      let low = values.0.0 in
      let middle = values.1.1.0.0 in
      ap (sum ring_ℚ.semiring xs) (fun_ext (λ e. ap₂ ◌*ℚ◌ (same i j low c e) (same l m middle e d)))
      ∙ given.bracket i j l m values c d here there
      ∙ sym (ap₂ ◌+ℚ◌ (ap (sum ring_ℚ.semiring xs) (fun_ext (λ e. ap₂ ◌*ℚ◌ (same l m middle c e) (same i j low e d)))) (ap₂ (λ x y. delta j l *ℚ x +ℚ neg_ℚ (delta i m) *ℚ y) (same i m low c d) (same l j middle c d)));
  diagonal = λ c d here there. ap (below ring_ℚ.semiring n) (fun_ext (λ i. same (suc i) (suc i) (omega arith) c d)) ∙ given.diagonal c d here there;
}

-- minus the transposes
turned_product : (x y : ℚ) → neg_ℚ x *ℚ neg_ℚ y ≡ y *ℚ x
turned_product x y = identity ring_ℚ (x ∷ y ∷ []) (opposite (var 0) ⊗ opposite (var 1)) (var 1 ⊗ var 0) refl

turned_bracket : (u v c x d y : ℚ) → v ≡ u +ℚ (c *ℚ x +ℚ d *ℚ y) → u ≡ v +ℚ (c *ℚ neg_ℚ x +ℚ d *ℚ neg_ℚ y)
turned_bracket u v c x d y e =
    identity ring_ℚ (u ∷ c ∷ x ∷ d ∷ y ∷ []) (var 0) ((var 0 ⊕ (var 1 ⊗ var 2 ⊕ var 3 ⊗ var 4)) ⊕ (var 1 ⊗ opposite (var 2) ⊕ var 3 ⊗ opposite (var 4))) refl
    ∙ ap (λ k. k +ℚ (c *ℚ neg_ℚ x +ℚ d *ℚ neg_ℚ y)) (sym e)

pub algebra-turned : {A : Type 0} (n : ℕ) (X : Family A) (xs : List A) → IsAlgebra n X xs → IsAlgebra n (λ i j c d. neg_ℚ (X i j d c)) xs
algebra-turned n X xs given = record {
  bracket = λ i j l m values c d here there.
      let first = sum ring_ℚ.semiring xs (λ e. X l m d e *ℚ X i j e c) in
      let second = sum ring_ℚ.semiring xs (λ e. X i j d e *ℚ X l m e c) in
      ap (sum ring_ℚ.semiring xs) (fun_ext (λ e. turned_product (X i j e c) (X l m d e)))
      ∙ turned_bracket first second (delta j l) (X i m d c) (neg_ℚ (delta i m)) (X l j d c) (given.bracket i j l m values d c there here)
      ∙ ap (λ s. s +ℚ (delta j l *ℚ neg_ℚ (X i m d c) +ℚ neg_ℚ (delta i m) *ℚ neg_ℚ (X l j d c))) (sym (ap (sum ring_ℚ.semiring xs) (fun_ext (λ e. turned_product (X l m e c) (X i j d e)))));
  diagonal = λ c d here there. below-neg ring_ℚ n (λ i. X (suc i) (suc i) d c) ∙ ap neg_ℚ (given.diagonal d c there here) ∙ neg_zero ring_ℚ;
}
