-- Lists that go through all keys of some legs: what stands first.
use Rattle.std.specs.Prelude.{◌≡◌, ◌<◌, ◌≤◌, ◌+◌, ℕ, zero, suc, List, [], ◌∷◌, ◌++◌, map, length, slice_get, Option, Some, None, ◌⊎◌}
use Rattle.std.specs.List.{flat_map, range_with_len}
use Rattle.std.specs.Ordering.{ordering_then}
use Rattle.std.proofs.Common.{refl, sym, ap, ap₂, subst, ◌∙◌, arith, inl, inr, Less}
use Rattle.std.proofs.lemmas.Cmp.{nat_cmp_total, tied_itself}
use Rattle.std.proofs.lemmas.List.Concat.{flat_map-append}
use Rattle.std.proofs.lemmas.List.Folds.{flat_map-map}
use Rattle.std.proofs.lemmas.Option.{slice_get_within}
use Rattle.exact_algebra.specs.Sums.{less_cmp}
use Rattle.exact_algebra.specs.TensorContraction.{places_cmp}
use Rattle.model_core.specs.Scalar.{Coordinate}
use Rattle.model_core.specs.TermTensor.{with_coordinate, coordinates_at}
use Rattle.model_core.specs.Invariance.{keys_of}

-- ---- places

same_or_more : (a y : ℕ) → a ≤ y → (a ≡ y) ⊎ (a < y)
same_or_more zero zero h = inl refl
same_or_more zero (suc y) h = inr (omega arith)
same_or_more (suc a) zero h = absurd (omega (arith, h))
same_or_more (suc a) (suc y) h = elim (same_or_more a y (omega (arith, h))) [ inl e ↦ inl (ap suc e) | inr l ↦ inr (omega (arith, l)) ]

less_first : (z y : ℕ) (k q : List ℕ) → z < y → places_cmp (z ∷ k) (y ∷ q) ≡ Less
less_first z y k q l = ap (λ o. ordering_then o (places_cmp k q)) (less_cmp z y l)

less_behind : (y : ℕ) (k q : List ℕ) → places_cmp k q ≡ Less → places_cmp (y ∷ k) (y ∷ q) ≡ Less
less_behind y k q l = ap (λ o. ordering_then o (places_cmp k q)) (tied_itself nat_cmp_total y) ∙ l

record Inside (leg : List Coordinate) (legs : List (List Coordinate)) (y : ℕ) (q : List ℕ) : Type 0 where
  within : y < length leg
  others : List Coordinate
  are : coordinates_at legs q ≡ Some others

inside : (leg : List Coordinate) (legs : List (List Coordinate)) (y : ℕ) (q : List ℕ) (cs : List Coordinate) (o : Option Coordinate) (rest : Option (List Coordinate)) → slice_get leg y ≡ o → coordinates_at legs q ≡ rest → with_coordinate o rest ≡ Some cs
    → Inside leg legs y q
inside leg legs y q cs None rest first behind at = let never : ⊥ = cc in absurd never
inside leg legs y q cs (Some c) None first behind at = let never : ⊥ = cc in absurd never
inside leg legs y q cs (Some c) (Some others) first behind at = record { within = slice_get_within leg y c first; others = others; are = behind }

-- ---- the first of a list

module _ {A : Type 0} where
  abbrev pub IsFirst : A → List A → Type 0
  IsFirst b [] = ⊥
  IsFirst b (x ∷ xs) = x ≡ b

  pub first_before : (b : A) (xs ys : List A) → IsFirst b xs → IsFirst b (xs ++ ys)
  first_before b [] ys first = absurd first
  first_before b (x ∷ xs) ys first = first

  pub first_after : (b : A) (xs ys : List A) → xs ≡ [] → IsFirst b ys → IsFirst b (xs ++ ys)
  first_after b xs ys none first = subst (λ zs. IsFirst b (zs ++ ys)) (sym none) first

  both_empty : (xs ys : List A) → xs ≡ [] → ys ≡ [] → xs ++ ys ≡ []
  both_empty xs ys e f = ap₂ (λ a b. a ++ b) e f

  nothing_in_range : (g : ℕ → List A) (n a : ℕ) → ((z : ℕ) → g z ≡ []) → flat_map g (range_with_len a n) ≡ []
  nothing_in_range g zero a none = refl
  nothing_in_range g (suc n) a none = both_empty (g a) (flat_map g (range_with_len (a + 1) n)) (none a) (nothing_in_range g n (a + 1) none)

  first_in_range : (g : ℕ → List A) (b : A) (n a y : ℕ) → a ≤ y → y < a + n → ((z : ℕ) → z < y → g z ≡ []) → IsFirst b (g y) → IsFirst b (flat_map g (range_with_len a n))
  first_in_range g b zero a y low high none here = absurd (omega (arith, low, high))
  first_in_range g b (suc n) a y low high none here = elim (same_or_more a y low) [
    | inl e ↦ first_before b (g a) (flat_map g (range_with_len (a + 1) n)) (subst (λ z. IsFirst b (g z)) (sym e) here)
    | inr l ↦ first_after b (g a) (flat_map g (range_with_len (a + 1) n)) (none a l) (first_in_range g b n (a + 1) y (omega (arith, l)) (omega (arith, high)) none here)
  ]

  -- ---- all keys

  over_keys : (f : List ℕ → List A) (keys : List (List ℕ)) (zs : List ℕ) → flat_map f (flat_map (λ z. map (λ key. z ∷ key) keys) zs) ≡ flat_map (λ z. flat_map (λ key. f (z ∷ key)) keys) zs
  over_keys f keys [] = refl
  over_keys f keys (z ∷ zs) =
      flat_map-append f (map (λ key. z ∷ key) keys) (flat_map (λ y. map (λ key. y ∷ key) keys) zs)
      ∙ ap₂ (λ xs ys. xs ++ ys) (flat_map-map f (λ key. z ∷ key) keys) (over_keys f keys zs)

  -- nothing at any key
  pub no_keys : (legs : List (List Coordinate)) (f : List ℕ → List A) → ((key : List ℕ) → length key ≡ length legs → f key ≡ []) → flat_map f (keys_of legs) ≡ []
  no_keys [] f none = both_empty (f []) [] (none [] refl) refl
  no_keys (leg ∷ legs) f none =
      over_keys f (keys_of legs) (range_with_len 0 (length leg))
      ∙ nothing_in_range (λ z. flat_map (λ key. f (z ∷ key)) (keys_of legs)) (length leg) 0 (λ z. no_keys legs (λ key. f (z ∷ key)) (λ key l. none (z ∷ key) (ap suc l)))

  -- what stands at the first key where something does
  pub first_key_of : (legs : List (List Coordinate)) (q : List ℕ) (cs : List Coordinate) (f : List ℕ → List A) (b : A) → coordinates_at legs q ≡ Some cs → ((key : List ℕ) → length key ≡ length legs → places_cmp key q ≡ Less → f key ≡ []) → IsFirst b (f q)
      → IsFirst b (flat_map f (keys_of legs))
  first_key_of [] [] cs f b at none here = first_before b (f []) [] here
  first_key_of [] (y ∷ q) cs f b at none here = let never : ⊥ = cc in absurd never
  first_key_of (leg ∷ legs) [] cs f b at none here = let never : ⊥ = cc in absurd never
  first_key_of (leg ∷ legs) (y ∷ q) cs f b at none here =
      let there = inside leg legs y q cs (slice_get leg y) (coordinates_at legs q) refl refl at in
      let within = there.within in
      subst (IsFirst b) (sym (over_keys f (keys_of legs) (range_with_len 0 (length leg))))
      (first_in_range (λ z. flat_map (λ key. f (z ∷ key)) (keys_of legs)) b (length leg) 0 y (omega arith) (omega (arith, within))
      (λ z l. no_keys legs (λ key. f (z ∷ key)) (λ key long. none (z ∷ key) (ap suc long) (less_first z y key q l)))
      (first_key_of legs q there.others (λ key. f (y ∷ key)) b there.are (λ key long less. none (y ∷ key) (ap suc long) (less_behind y key q less)) here))
