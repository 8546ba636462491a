-- The elements of a list, and sums over them.
use Rattle.std.proofs.Common.{◌≡◌, ℕ, zero, suc, ◌+◌, ◌<◌, ◌≤◌, List, [], ◌∷◌, ◌++◌, map, length, Some, sym, ap, ap₂, ◌∙◌, refl, arith, inl, inr}
use Rattle.std.specs.Prelude.{◌⊎◌, Option, slice_get}
use Rattle.std.specs.List.{flat_map, range_with_len}
use Rattle.exact_algebra.specs.Ranges.{below-first}
use Rattle.exact_algebra.specs.Sums.{below, below-same, below-zero, sum, sum-cons, sum-nil, sum-zero}
use Rattle.frac128.specs.Rational.{ℚ, zero_ℚ, ◌+ℚ◌}
use Rattle.frac128.specs.RationalLaws.{ring_ℚ}

-- an element of a list
abbrev pub IsIn : {A : Type 0} → A → List A → Type 0
IsIn x [] = ⊥
IsIn x (y ∷ ys) = (x ≡ y) ⊎ IsIn x ys

-- ---- where it comes from

pub in-append : {A : Type 0} (x : A) (xs ys : List A) → IsIn x (xs ++ ys) → IsIn x xs ⊎ IsIn x ys
in-append x [] ys h = inr h
in-append x (y ∷ xs) ys (inl e) = inl (inl e)
in-append x (y ∷ xs) ys (inr h) = elim (in-append x xs ys h) [ inl first ↦ inl (inr first) | inr second ↦ inr second ]

pub in-map : {A B : Type 0} (f : A → B) (y : B) (xs : List A) → IsIn y (map f xs) → (x : A) × IsIn x xs × (y ≡ f x)
in-map f y [] h = absurd h
in-map f y (x ∷ xs) (inl e) = (x, inl refl, e)
in-map f y (x ∷ xs) (inr h) = let more = in-map f y xs h in (more.0, inr more.1, more.2)

pub in-flat_map : {A B : Type 0} (f : A → List B) (y : B) (xs : List A) → IsIn y (flat_map f xs) → (x : A) × IsIn x xs × IsIn y (f x)
in-flat_map f y [] h = absurd h
in-flat_map f y (x ∷ xs) h = elim (in-append y (f x) (flat_map f xs) h) [
  | inl here ↦ (x, inl refl, here)
  | inr later ↦ let more = in-flat_map f y xs later in (more.0, inr more.1, more.2)
]

pub in-range : (a low n : ℕ) → IsIn a (range_with_len low n) → (low ≤ a) × (a < low + n)
in-range a low zero h = absurd h
in-range a low (suc n) (inl e) = (omega (arith, e), omega (arith, e))
in-range a low (suc n) (inr h) = let more = in-range a (low + 1) n h in (omega (arith, more.0), omega (arith, more.1))

pub in_at : {A : Type 0} (xs : List A) (i : ℕ) (x : A) → slice_get xs i ≡ Some x → IsIn x xs
in_at [] i x found = let never : ⊥ = cc in absurd never
in_at (y ∷ xs) zero x found = let same : x ≡ y = cc in inl same
in_at (y ∷ xs) (suc i) x found = inr (in_at xs i x found)

-- what stands at a place
pub at_place : {A : Type 0} (xs : List A) (i : ℕ) → i < length xs → (x : A) × (slice_get xs i ≡ Some x)
at_place [] i h = absurd (omega (arith, h))
at_place (x ∷ xs) zero h = (x, refl)
at_place (x ∷ xs) (suc i) h = at_place xs i (omega (arith, h))

-- ---- sums

-- equal summands
pub sum-in : {A : Type 0} (xs : List A) (f g : A → ℚ) → ((x : A) → IsIn x xs → f x ≡ g x) → sum ring_ℚ.semiring xs f ≡ sum ring_ℚ.semiring xs g
sum-in [] f g h = sum-nil ring_ℚ.semiring f ∙ sym (sum-nil ring_ℚ.semiring g)
sum-in (x ∷ xs) f g h =
    sum-cons ring_ℚ.semiring x xs f ∙ ap₂ ◌+ℚ◌ (h x (inl refl)) (sum-in xs f g (λ y there. h y (inr there))) ∙ sym (sum-cons ring_ℚ.semiring x xs g)

-- summands that are 0
pub sum-in_zero : {A : Type 0} (xs : List A) (f : A → ℚ) → ((x : A) → IsIn x xs → f x ≡ zero_ℚ) → sum ring_ℚ.semiring xs f ≡ zero_ℚ
sum-in_zero xs f h = sum-in xs f (λ _. zero_ℚ) h ∙ sum-zero ring_ℚ.semiring xs

-- over the places of a list
pub below-places : {A : Type 0} (h : Option A → ℚ) (xs : List A) → below ring_ℚ.semiring (length xs) (λ i. h (slice_get xs i)) ≡ sum ring_ℚ.semiring xs (λ x. h (Some x))
below-places h [] = below-zero ring_ℚ.semiring (λ i. h (slice_get [] i)) ∙ sym (sum-nil ring_ℚ.semiring (λ x. h (Some x)))
below-places h (x ∷ xs) =
    below-first ring_ℚ.semiring (length xs) (λ i. h (slice_get (x ∷ xs) i))
    ∙ ap (λ s. h (Some x) +ℚ s) (below-same ring_ℚ.semiring (length xs) (λ i. h (slice_get (x ∷ xs) (1 + i))) (λ i. h (slice_get xs i)) (λ i l.
    let next : 1 + i ≡ suc i = omega arith in
    ap (λ k. h (slice_get (x ∷ xs) k)) next) ∙ below-places h xs)
    ∙ sym (sum-cons ring_ℚ.semiring x xs (λ y. h (Some y)))
