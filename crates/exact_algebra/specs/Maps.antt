-- Finite maps as a ring: renaming of their keys, the constants among them, their negatives (`canon_ring`), and their test for 0.
use Rattle.std.specs.Prelude.{◌≡◌, List, [], ◌∷◌, map, Bool, true, false}
use Rattle.std.specs.List.Sorted.{IsPermutation}
use Rattle.std.proofs.Common.{refl, sym, ap, ap₂, ◌∙◌, Less}
use mathlib.Core.Path.{fun_ext}
use Rattle.exact_algebra.specs.Ring.{additive, along, times_times_comm, IsMonoidMap, Semiring, IsSemiringMap, ZeroTest, CommutativeRing, multiplicative, unit_times, add_mul, one_mul, zero_mul}
use Rattle.exact_algebra.specs.Regroup.{sign_out, neg_neg, neg_zero}
use Rattle.exact_algebra.specs.Sums.{sum, sum-map, sum-pairs, sum_mul_sum, sum-neg}
use Rattle.exact_algebra.specs.Permuted.{sum-permuted}
use Rattle.exact_algebra.specs.Formal.{worth, worth-nil, worth-cons, Keys, Formal, eval, AllKeys, Ascending, NonZero, IsCanonical, canonical_fixed, scaled, eval-scaled, IsCanonical-scaled}
use Rattle.exact_algebra.specs.Merge.{merge, eval-merge, IsCanonical-merge}
use Rattle.exact_algebra.specs.Canon.{canon_monoid, worth-of, worth-IsMonoidMap, products, mult-of, unity-of, of_same, Monomials, key_monoid, Canon, of, value, value-of, same_values, plus, value-plus, nought, value-nought, mult, value-mult, unity, value-unity, canon_semiring, eval-single, nought-of, of_entries, of_whole}

-- ---- the keys replaced by others

module _ (K : Keys) (R : Semiring) (Z : ZeroTest R) where
  open R use {carrier as C, mul as ◌⊗◌}

  infixl 7 ◌⊗◌
  -- each key replaced by another, and coefficients that come to one key added up
  pub rename_keys : (K.carrier → K.carrier) → Canon K R Z → Canon K R Z
  rename_keys f x = of K R Z (map (λ e. (f e.0, e.1)) x.0)

  eval-map : (f : K.carrier → K.carrier) (p : Formal K R) (F : K.carrier → C) → eval K R (map (λ e. (f e.0, e.1)) p) F ≡ eval K R p (λ k. F (f k))
  unfolding eval
  eval-map f p F = sum-map R (λ (e : K.carrier × C). (f e.0, e.1)) p (λ e. e.1 ⊗ F e.0)

  pub value-rename_keys : (f : K.carrier → K.carrier) (x : Canon K R Z) (F : K.carrier → C) → value K R Z (rename_keys f x) F ≡ value K R Z x (λ k. F (f k))
  unfolding rename_keys
  value-rename_keys f x F = value-of K R Z (map (λ e. (f e.0, e.1)) x.0) F ∙ eval-map f x.0 F

  -- it respects 0 and sums
  pub rename_keys-IsMonoidMap : (f : K.carrier → K.carrier) → IsMonoidMap (canon_monoid K R Z) (canon_monoid K R Z) (rename_keys f)
  rename_keys-IsMonoidMap f = record { at_unit = at_nought; at_times = at_plus }
    where
      at_nought : rename_keys f (nought K R Z) ≡ nought K R Z
      at_nought =
          same_values K R Z (rename_keys f (nought K R Z)) (nought K R Z) (λ F. value-rename_keys f (nought K R Z) F ∙ value-nought K R Z (λ k. F (f k)) ∙ sym (value-nought K R Z F))

      at_plus : (x y : Canon K R Z) → rename_keys f (plus K R Z x y) ≡ plus K R Z (rename_keys f x) (rename_keys f y)
      at_plus x y =
          same_values K R Z (rename_keys f (plus K R Z x y)) (plus K R Z (rename_keys f x) (rename_keys f y)) (λ F. simp (value-rename_keys, value-plus))

  -- an involution of the keys gives one of the maps
  pub rename_keys-rename_keys : (f : K.carrier → K.carrier) → ((k : K.carrier) → f (f k) ≡ k) → (x : Canon K R Z) → rename_keys f (rename_keys f x) ≡ x
  rename_keys-rename_keys f h x =
      same_values K R Z (rename_keys f (rename_keys f x)) x (λ F. simp (value-rename_keys, h))

module _ (M : Monomials) (R : Semiring) (Z : ZeroTest R) where
  open R use {carrier as C, zero as 𝟘, one, add as ◌⊕◌, mul as ◌⊗◌}

  infixl 6 ◌⊕◌
  infixl 7 ◌⊗◌
  -- the finite maps
  abbrev P : Type 0
  P = Canon M.keys R Z

  -- each monomial replaced by another
  pub rename : (M.keys.carrier → M.keys.carrier) → P → P
  rename f x = rename_keys M.keys R Z f x

  pub value-rename : (f : M.keys.carrier → M.keys.carrier) (x : P) (F : M.keys.carrier → C) → value M.keys R Z (rename f x) F ≡ value M.keys R Z x (λ k. F (f k))
  unfolding rename
  value-rename f x F = value-rename_keys M.keys R Z f x F

  pub rename-plus : (f : M.keys.carrier → M.keys.carrier) (x y : P) → rename f (plus M.keys R Z x y) ≡ plus M.keys R Z (rename f x) (rename f y)
  unfolding rename
  rename-plus f x y = (rename_keys-IsMonoidMap M.keys R Z f).at_times x y

  pub rename-nought : (f : M.keys.carrier → M.keys.carrier) → rename f (nought M.keys R Z) ≡ nought M.keys R Z
  unfolding rename
  rename-nought f = (rename_keys-IsMonoidMap M.keys R Z f).at_unit

  pub rename-unity : (f : M.keys.carrier → M.keys.carrier) → f M.unit ≡ M.unit → rename f (unity M R Z) ≡ unity M R Z
  rename-unity f h =
      same_values M.keys R Z (rename f (unity M R Z)) (unity M R Z) (λ F. value-rename f (unity M R Z) F ∙ value-unity M R Z (λ k. F (f k)) ∙ ap F h ∙ sym (value-unity M R Z F))

  pub rename-mult : (f : M.keys.carrier → M.keys.carrier) → ((j k : M.keys.carrier) → f (M.times j k) ≡ M.times (f j) (f k)) → (x y : P) → rename f (mult M R Z x y) ≡ mult M R Z (rename f x) (rename f y)
  rename-mult f h x y =
      same_values M.keys R Z (rename f (mult M R Z x y)) (mult M R Z (rename f x) (rename f y)) (λ F. simp (value-rename, value-mult, h))

  -- an involution of the keys gives one of the maps
  pub rename-rename : (f : M.keys.carrier → M.keys.carrier) → ((k : M.keys.carrier) → f (f k) ≡ k) → (x : P) → rename f (rename f x) ≡ x
  unfolding rename
  rename-rename f h x = rename_keys-rename_keys M.keys R Z f h x

  -- ---- constants

  -- the map that is c at the unit key, and 0 elsewhere
  pub const : C → P
  const c = of M.keys R Z ((M.unit, c) ∷ [])

  pub value-const : (c : C) (F : M.keys.carrier → C) → value M.keys R Z (const c) F ≡ c ⊗ F M.unit
  unfolding const
  value-const c F = value-of M.keys R Z ((M.unit, c) ∷ []) F ∙ eval-single M.keys R Z M.unit c F

  pub const-add : (c d : C) → const (c ⊕ d) ≡ plus M.keys R Z (const c) (const d)
  const-add c d =
      same_values M.keys R Z (const (c ⊕ d)) (plus M.keys R Z (const c) (const d)) (λ F. value-const (c ⊕ d) F ∙ add_mul R c d (F M.unit) ∙ sym (value-plus M.keys R Z (const c) (const d) F ∙ ap₂ ◌⊕◌ (value-const c F) (value-const d F)))

  pub const-mul : (c d : C) → const (c ⊗ d) ≡ mult M R Z (const c) (const d)
  const-mul c d =
      same_values M.keys R Z (const (c ⊗ d)) (mult M R Z (const c) (const d)) (λ F. value-const (c ⊗ d) F ∙ R.mul_assoc c d (F M.unit) ∙ sym (value-mult M R Z (const c) (const d) F ∙ value-const c (λ j. value M.keys R Z (const d) (λ k. F (M.times j k))) ∙ ap (λ s. c ⊗ s) (value-const d (λ k. F (M.times M.unit k)) ∙ ap (λ j. d ⊗ F j) (M.times_unit M.unit))))

  pub const-one : const one ≡ unity M R Z
  const-one =
      same_values M.keys R Z (const one) (unity M R Z) (λ F. value-const one F ∙ one_mul R (F M.unit) ∙ sym (value-unity M R Z F))

  pub const-zero : const 𝟘 ≡ nought M.keys R Z
  const-zero =
      same_values M.keys R Z (const 𝟘) (nought M.keys R Z) (λ F. value-const 𝟘 F ∙ zero_mul R (F M.unit) ∙ sym (value-nought M.keys R Z F))

  -- a renaming that respects the product of keys is a map of semirings
  pub rename-IsSemiringMap : (f : M.keys.carrier → M.keys.carrier) → IsMonoidMap (key_monoid M) (key_monoid M) f → IsSemiringMap (canon_semiring M R Z) (canon_semiring M R Z) (rename f)
  rename-IsSemiringMap f h = record {
    at_zero = rename-nought f;
    at_one = rename-unity f h.at_unit;
    at_add = rename-plus f;
    at_mul = rename-mult f h.at_times;
  }

  -- the constants are an image of the coefficients
  pub const-IsSemiringMap : IsSemiringMap R (canon_semiring M R Z) const
  const-IsSemiringMap = record { at_zero = const-zero; at_one = const-one; at_add = const-add; at_mul = const-mul }

-- ---- the ring, where the coefficients have negatives

module _ (M : Monomials) (A : CommutativeRing) (Z : ZeroTest A.semiring) where
  open A.semiring use {carrier as C, zero as 𝟘, add as ◌⊕◌, mul as ◌⊗◌}

  infixl 6 ◌⊕◌
  infixl 7 ◌⊗◌
  -- each coefficient with its sign turned
  abbrev pub turned : Formal M.keys A.semiring → Formal M.keys A.semiring
  turned p = map (λ e. (e.0, A.neg e.1)) p

  -- the map with each coefficient's sign turned
  pub negated : Canon M.keys A.semiring Z → Canon M.keys A.semiring Z
  negated x = of M.keys A.semiring Z (turned x.0)

  eval-turned : (p : Formal M.keys A.semiring) (F : M.keys.carrier → C) → eval M.keys A.semiring (turned p) F ≡ A.neg (eval M.keys A.semiring p F)
  unfolding eval
  eval-turned p F =
      sum-map A.semiring (λ (e : M.keys.carrier × C). (e.0, A.neg e.1)) p (λ e. e.1 ⊗ F e.0)
      ∙ ap (sum A.semiring p) (fun_ext (λ e. sign_out A e.1 (F e.0))) ∙ sum-neg A p (λ e. e.1 ⊗ F e.0)

  pub value-negated : (x : Canon M.keys A.semiring Z) (F : M.keys.carrier → C) → value M.keys A.semiring Z (negated x) F ≡ A.neg (value M.keys A.semiring Z x F)
  unfolding negated
  value-negated x F = value-of M.keys A.semiring Z (turned x.0) F ∙ eval-turned x.0 F

  pub plus-negated : (x : Canon M.keys A.semiring Z) → plus M.keys A.semiring Z x (negated x) ≡ nought M.keys A.semiring Z
  plus-negated x =
      same_values M.keys A.semiring Z (plus M.keys A.semiring Z x (negated x)) (nought M.keys A.semiring Z)
      (λ F. value-plus M.keys A.semiring Z x (negated x) F ∙ ap (λ s. value M.keys A.semiring Z x F ⊕ s) (value-negated x F) ∙ A.add_neg (value M.keys A.semiring Z x F) ∙ sym (value-nought M.keys A.semiring Z F))

  -- the finite maps are a commutative ring: the polynomials
  abbrev pub canon_ring : CommutativeRing
  canon_ring = record { semiring = canon_semiring M A.semiring Z; neg = negated; add_neg = plus-negated }

  -- ---- the list of a negative

  is_zero-neg : (c : C) (b : Bool) → Z.is_zero c ≡ false → Z.is_zero (A.neg c) ≡ b → b ≡ false
  is_zero-neg c false h e = refl
  is_zero-neg c true h e =
      let none : c ≡ 𝟘 = sym (neg_neg A c) ∙ ap A.neg (Z.yes (A.neg c) e) ∙ neg_zero A in
      sym Z.at_zero ∙ ap Z.is_zero (sym none) ∙ h

  AllKeys-turned : (P : M.keys.carrier → Type 0) (p : Formal M.keys A.semiring) → AllKeys M.keys C P p → AllKeys M.keys C P (turned p)
  AllKeys-turned P [] h = tt
  AllKeys-turned P (e ∷ es) h = (h.0, AllKeys-turned P es h.1)

  Ascending-turned : (p : Formal M.keys A.semiring) → Ascending M.keys C p → Ascending M.keys C (turned p)
  Ascending-turned [] h = tt
  Ascending-turned (e ∷ es) h = (AllKeys-turned (λ j. M.keys.cmp e.0 j ≡ Less) es h.0, Ascending-turned es h.1)

  NonZero-turned : (p : Formal M.keys A.semiring) → NonZero M.keys A.semiring Z p → NonZero M.keys A.semiring Z (turned p)
  NonZero-turned [] h = tt
  NonZero-turned (e ∷ es) h = (is_zero-neg e.1 (Z.is_zero (A.neg e.1)) h.0 refl, NonZero-turned es h.1)

  pub IsCanonical-turned : (p : Formal M.keys A.semiring) → IsCanonical M.keys A.semiring Z p → IsCanonical M.keys A.semiring Z (turned p)
  IsCanonical-turned p c = record { ascending = Ascending-turned p c.ascending; nonzero = NonZero-turned p c.nonzero }

  -- its keys are those of the map, in the same order
  pub negated_entries : (x : Canon M.keys A.semiring Z) → (negated x).0 ≡ turned x.0
  unfolding negated
  negated_entries x =
      of_entries M.keys A.semiring Z (turned x.0) ∙ canonical_fixed M.keys A.semiring Z (turned x.0) (IsCanonical-turned x.0 x.1)

-- ---- the test for the map 0

module _ (M : Monomials) (R : Semiring) (Z : ZeroTest R) where
  -- whether a list has no element
  unfoldable pub is_nil : {A : Type 0} → List A → Bool
  is_nil [] = true
  is_nil (x ∷ xs) = false

  nil_from : {A : Type 0} (xs : List A) → is_nil xs ≡ true → xs ≡ []
  unfolding is_nil
  nil_from [] h = refl
  nil_from (x ∷ xs) h = cc

  -- whether a finite map has no entry
  unfoldable pub map_is_zero : Canon M.keys R Z → Bool
  map_is_zero x = is_nil x.0

  pub zero_entries : (nought M.keys R Z).0 ≡ []
  zero_entries =
      ap (λ x. x.0) (nought-of M.keys R Z) ∙ of_entries M.keys R Z [] ∙ canonical_fixed M.keys R Z [] (record { ascending = tt; nonzero = tt })

  pub zero_yes : (x : Canon M.keys R Z) → map_is_zero x ≡ true → x ≡ nought M.keys R Z
  unfolding map_is_zero
  zero_yes x h =
      sym (of_whole M.keys R Z x) ∙ ap (of M.keys R Z) (nil_from x.0 h) ∙ sym (nought-of M.keys R Z)

  pub zero_at : map_is_zero (nought M.keys R Z) ≡ true
  unfolding map_is_zero is_nil
  zero_at = ap is_nil zero_entries

  -- polynomials have a test for 0 too: so tensors of them have canonical lists
  abbrev pub canon_zero : ZeroTest (canon_semiring M R Z)
  canon_zero = record { is_zero = map_is_zero; yes = zero_yes; at_zero = zero_at }

-- ---- evaluation, where the weight respects the product of keys

module _ (M : Monomials) (R : Semiring) (Z : ZeroTest R) (S : Semiring) (h : R.carrier → S.carrier) (m : IsSemiringMap R S h) where
  open S use {carrier as C, mul as ◌⊗◌}

  infixl 7 ◌⊗◌
  -- the value in S at a weight of the keys, where h takes the coefficients to S
  abbrev pub evaluated : (M.keys.carrier → C) → Canon M.keys R Z → C
  evaluated F x = worth M.keys R (additive S) (along R S h m) x.0 F

  worth-products : (F : M.keys.carrier → C) → IsMonoidMap (key_monoid M) (multiplicative S) F → (p q : Formal M.keys R) → worth M.keys R (additive S) (along R S h m) (products M R Z p q) F ≡ worth M.keys R (additive S) (along R S h m) p F ⊗ worth M.keys R (additive S) (along R S h m) q F
  unfolding products worth sum
  worth-products F respects p q =
      sum-pairs S (λ (d e : M.keys.carrier × R.carrier). (M.times d.0 e.0, R.mul d.1 e.1)) p q (λ e. h e.1 ⊗ F e.0)
      ∙ ap (sum S p) (fun_ext (λ d. ap (sum S q) (fun_ext (λ e. ap₂ ◌⊗◌ (m.at_mul d.1 e.1) (respects.at_times d.0 e.0) ∙ times_times_comm (multiplicative S) (h d.1) (h e.1) (F d.0) (F e.0)))))
      ∙ sym (sum_mul_sum S p q (λ d. h d.1 ⊗ F d.0) (λ e. h e.1 ⊗ F e.0))

  -- evaluation is a map of semirings
  pub evaluated-IsSemiringMap : (F : M.keys.carrier → C) → IsMonoidMap (key_monoid M) (multiplicative S) F → IsSemiringMap (canon_semiring M R Z) S (evaluated F)
  evaluated-IsSemiringMap F respects = record {
    at_zero = (worth-IsMonoidMap M.keys R Z (additive S) (along R S h m) F).at_unit;
    at_one = at_unity;
    at_add = (worth-IsMonoidMap M.keys R Z (additive S) (along R S h m) F).at_times;
    at_mul = λ x y. ap (evaluated F) (mult-of M R Z x y) ∙ worth-of M.keys R Z (additive S) (along R S h m) (products M R Z x.0 y.0) F ∙ worth-products F respects x.0 y.0;
  }
    where
      at_unity : evaluated F (unity M R Z) ≡ S.one
      at_unity =
          ap (evaluated F) (unity-of M R Z) ∙ worth-of M.keys R Z (additive S) (along R S h m) ((M.unit, R.one) ∷ []) F
          ∙ worth-cons M.keys R (additive S) (along R S h m) (M.unit, R.one) [] F
          ∙ ap (λ s. S.add (h R.one ⊗ F M.unit) s) (worth-nil M.keys R (additive S) (along R S h m) F)
          ∙ S.add_zero (h R.one ⊗ F M.unit) ∙ ap₂ ◌⊗◌ m.at_one respects.at_unit ∙ S.mul_one S.one

module _ (M : Monomials) (R : Semiring) (Z : ZeroTest R) where
  -- at values in the coefficients' own semiring
  pub value-IsSemiringMap : (F : M.keys.carrier → R.carrier) → IsMonoidMap (key_monoid M) (multiplicative R) F → IsSemiringMap (canon_semiring M R Z) R (λ x. value M.keys R Z x F)
  unfolding worth eval sum
  value-IsSemiringMap F respects = evaluated-IsSemiringMap M R Z R (λ c. c) itself F respects
    where
      itself : IsSemiringMap R R (λ c. c)
      itself = record { at_zero = refl; at_one = refl; at_add = λ a b. refl; at_mul = λ a b. refl }

-- ---- a formal sum in another order

pub of-permuted : (K : Keys) (R : Semiring) (Z : ZeroTest R) (p q : Formal K R) → IsPermutation p q → of K R Z q ≡ of K R Z p
unfolding eval
of-permuted K R Z p q h = of_same K R Z q p (λ F. sum-permuted R p q h (λ e. R.mul e.1 (F e.0)))

-- ---- the lists of a sum and of a multiple

module _ (K : Keys) (R : Semiring) (Z : ZeroTest R) where
  -- the list of a sum is the merge of the lists
  pub plus_entries : (x y : Canon K R Z) → (plus K R Z x y).0 ≡ merge K R Z x.0 y.0
  plus_entries x y =
      let merged : Canon K R Z = (merge K R Z x.0 y.0, IsCanonical-merge K R Z x.0 y.0 x.1 y.1) in
      ap (λ z. z.0) (same_values K R Z (plus K R Z x y) merged (λ F. value-plus K R Z x y F ∙ sym (eval-merge K R Z x.0 y.0 F)))

module _ (M : Monomials) (R : Semiring) (Z : ZeroTest R) where
  pub value-mult_const : (c : R.carrier) (x : Canon M.keys R Z) (F : M.keys.carrier → R.carrier) → value M.keys R Z (mult M R Z (const M R Z c) x) F ≡ R.mul c (value M.keys R Z x F)
  value-mult_const c x F =
      value-mult M R Z (const M R Z c) x F ∙ value-const M R Z c (λ j. value M.keys R Z x (λ k. F (M.times j k)))
      ∙ ap (λ G. R.mul c (value M.keys R Z x G)) (fun_ext (λ k. ap F (unit_times (key_monoid M) k)))

  -- the list of a multiple has each coefficient times c
  pub mult_const_entries : (c : R.carrier) (x : Canon M.keys R Z) → (mult M R Z (const M R Z c) x).0 ≡ scaled M.keys R Z c x.0
  mult_const_entries c x =
      let multiple : Canon M.keys R Z = (scaled M.keys R Z c x.0, IsCanonical-scaled M.keys R Z c x.0 x.1.ascending) in
      ap (λ z. z.0) (same_values M.keys R Z (mult M R Z (const M R Z c) x) multiple (λ F. value-mult_const c x F ∙ sym (eval-scaled M.keys R Z c x.0 F)))
