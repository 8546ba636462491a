-- The elements of a list, and what a filter keeps of them.
use Rattle.std.proofs.Common.{◌≡◌, ℕ, zero, suc, ◌+◌, ◌<◌, ◌≤◌, Bool, true, false, List, [], ◌∷◌, ◌++◌, map, length, take, Some, refl, ap, ◌∙◌, arith, inl, inr}
use Rattle.std.specs.Prelude.{◌⊎◌, cond, slice_get}
use Rattle.std.specs.List.{filter, flat_map, list_all}
use Rattle.model_core.proofs.ValidLaws.{first_passes}

-- an element of a list
abbrev pub IsIn : {A : Type 0} → A → List A → Type 0
IsIn x [] = ⊥
IsIn x (y ∷ ys) = (x ≡ y) ⊎ IsIn x ys

pub in-append : {A : Type 0} (x : A) (xs ys : List A) → IsIn x (xs ++ ys) → IsIn x xs ⊎ IsIn x ys
in-append x [] ys h = inr h
in-append x (y ∷ xs) ys (inl e) = inl (inl e)
in-append x (y ∷ xs) ys (inr h) = elim (in-append x xs ys h) [ inl first ↦ inl (inr first) | inr second ↦ inr second ]

pub in_first : {A : Type 0} (x : A) (xs ys : List A) → IsIn x xs → IsIn x (xs ++ ys)
in_first x [] ys h = absurd h
in_first x (y ∷ xs) ys (inl e) = inl e
in_first x (y ∷ xs) ys (inr h) = inr (in_first x xs ys h)

pub in_second : {A : Type 0} (x : A) (xs ys : List A) → IsIn x ys → IsIn x (xs ++ ys)
in_second x [] ys h = h
in_second x (y ∷ xs) ys h = inr (in_second x xs ys h)

pub image_in : {A B : Type 0} (f : A → B) (x : A) (xs : List A) → IsIn x xs → IsIn (f x) (map f xs)
image_in f x [] h = absurd h
image_in f x (y ∷ xs) (inl e) = inl (ap f e)
image_in f x (y ∷ xs) (inr h) = inr (image_in f x xs h)

-- where an element of a joined list comes from
pub record IsPart {A B : Type 0} (f : A → List B) (y : B) (xs : List A) : Type 0 where
  pub whole : A
  pub there : IsIn whole xs
  pub in_part : IsIn y (f whole)

pub in-flat_map : {A B : Type 0} (f : A → List B) (y : B) (xs : List A) → IsIn y (flat_map f xs) → IsPart f y xs
in-flat_map f y [] h = absurd h
in-flat_map f y (x ∷ xs) h = elim (in-append y (f x) (flat_map f xs) h) [
  | inl here ↦ record { whole = x; there = inl refl; in_part = here }
  | inr later ↦ let more = in-flat_map f y xs later in record { whole = more.whole; there = inr more.there; in_part = more.in_part }
]

pub in_at : {A : Type 0} (xs : List A) (i : ℕ) (x : A) → slice_get xs i ≡ Some x → IsIn x xs
in_at [] i x found = let never : ⊥ = cc in absurd never
in_at (y ∷ xs) zero x found = let same : x ≡ y = cc in inl same
in_at (y ∷ xs) (suc i) x found = inr (in_at xs i x found)

pub in_front : {A : Type 0} (x : A) (k : ℕ) (xs : List A) → IsIn x (take k xs) → IsIn x xs
in_front x zero xs h = absurd h
in_front x (suc k) [] h = absurd h
in_front x (suc k) (y ∷ xs) (inl e) = inl e
in_front x (suc k) (y ∷ xs) (inr h) = inr (in_front x k xs h)

-- a place in a front of a list
pub at_front : {A : Type 0} (xs : List A) (i k : ℕ) → i < k → slice_get (take k xs) i ≡ slice_get xs i
at_front xs i zero h = absurd (omega (arith, h))
at_front [] i (suc k) h = refl
at_front (y ∷ xs) zero (suc k) h = refl
at_front (y ∷ xs) (suc i) (suc k) h = at_front xs i k (omega (arith, h))

-- behind a first part
pub at_rest : {A : Type 0} (xs ys : List A) (i : ℕ) → slice_get (xs ++ ys) (length xs + i) ≡ slice_get ys i
at_rest [] ys i = let same : 0 + i ≡ i = omega arith in ap (slice_get ys) same
at_rest (x ∷ xs) ys i = let next : length (x ∷ xs) + i ≡ suc (length xs + i) = omega arith in ap (slice_get (x ∷ xs ++ ys)) next ∙ at_rest xs ys i

-- what each passes
pub passes_in : {A : Type 0} (test : A → Bool) (x : A) (xs : List A) → list_all test xs ≡ true → IsIn x xs → test x ≡ true
passes_in test x [] all h = absurd h
passes_in test x (y ∷ xs) all (inl e) = ap test e ∙ (first_passes test y xs all).0
passes_in test x (y ∷ xs) all (inr h) = passes_in test x xs (first_passes test y xs all).1 h

-- ---- filters

filter_short : {A : Type 0} (test : A → Bool) (xs : List A) → length (filter test xs) ≤ length xs
filter_short test [] = omega arith
filter_short test (x ∷ xs) = by_test (test x) (filter_short test xs)
  where
    by_test : (b : Bool) → length (filter test xs) ≤ length xs → length (cond b (x ∷ filter test xs) (filter test xs)) ≤ length (x ∷ xs)
    by_test true h = omega (arith, h)
    by_test false h = omega (arith, h)

pub short_filter : {A : Type 0} (test : A → Bool) (xs : List A) (n : ℕ) → length xs ≤ n → length (filter test xs) ≤ n
short_filter test xs n h = omega (arith, h, filter_short test xs)

pub filter_none : {A : Type 0} (test : A → Bool) (xs : List A) → ((x : A) → IsIn x xs → test x ≡ true → ⊥) → filter test xs ≡ []
filter_none test [] none = refl
filter_none test (x ∷ xs) none = by_test (test x) (none x (inl refl)) (filter_none test xs (λ y h. none y (inr h)))
  where
    by_test : (b : Bool) → (b ≡ true → ⊥) → filter test xs ≡ [] → cond b (x ∷ filter test xs) (filter test xs) ≡ []
    by_test true never h = absurd (never refl)
    by_test false never h = h
