-- The charge and the neighbouring X_ij among all generators: where nothing fails under these, nothing fails.
use Rattle.std.specs.Prelude.{◌≡◌, ◌≢◌, ◌<◌, ◌≤◌, ◌+◌, ◌-◌, ◌==◌, ◌||◌, ◌⊎◌, ⊤, if◌then◌else◌, cond, ℕ, zero, suc, Bool, true, false, List, [], ◌∷◌, ◌++◌, map, Result, Ok, Err}
use Rattle.std.specs.List.{flat_map, range_with_len, enumerate_from}
use Rattle.std.proofs.Common.{drop, refl, sym, ap, subst, ◌∙◌, arith, inl, inr}
use Rattle.model_core.specs.declared.generator.Generator.{Generator}
use Rattle.model_core.specs.declared.model.Model.{Model}
use Rattle.model_core.specs.declared.term.Term.{Term}
use Rattle.model_core.specs.Directions.{Direction}
use Rattle.model_core.specs.Generators.{charge_generator, special_generators, generators_of, generators}
use Rattle.model_core.specs.Groups.{is_abelian}
use Rattle.model_core.specs.Invariance.{Failure, failures_under, direction_failures}
use Rattle.model_core.specs.Valid.{IsValid}
use Rattle.neighbour_laws.specs.Neighbours.{special_generator, neighbours_at, special_neighbours, neighbours_of, neighbours}
use Rattle.neighbour_laws.proofs.Members.{IsIn, in-flat_map, in-range}
use Rattle.neighbour_laws.proofs.Failures.{nothing_at, nothing_from, neighbours_tell}
use Rattle.gauge_check.specs.declared.fault.CheckError.{CheckError}
use Rattle.gauge_check.specs.declared.fault.CheckError.TheVariants as error
use Rattle.gauge_check.specs.declared.fault.TermFault.{TermFault}
use Rattle.gauge_check.specs.Faults.{IsFirstOf, Checks, Tells, found_none}
use Rattle.gauge_check.specs.Steps.{is_neighbour, near_failures}

-- ---- members

in_left : {A : Type 0} (x : A) (xs ys : List A) → IsIn x xs → IsIn x (xs ++ ys)
in_left x [] ys h = absurd h
in_left x (y ∷ xs) ys (inl e) = inl e
in_left x (y ∷ xs) ys (inr h) = inr (in_left x xs ys h)

in_right : {A : Type 0} (x : A) (xs ys : List A) → IsIn x ys → IsIn x (xs ++ ys)
in_right x [] ys h = h
in_right x (y ∷ xs) ys h = inr (in_right x xs ys h)

in_image : {A B : Type 0} (f : A → B) (x : A) (xs : List A) → IsIn x xs → IsIn (f x) (map f xs)
in_image f x [] h = absurd h
in_image f x (y ∷ xs) (inl e) = inl (ap f e)
in_image f x (y ∷ xs) (inr h) = inr (in_image f x xs h)

in_piece : {A B : Type 0} (f : A → List B) (x : A) (y : B) (xs : List A) → IsIn x xs → IsIn y (f x) → IsIn y (flat_map f xs)
in_piece f x y [] h there = absurd h
in_piece f x y (z ∷ xs) (inl e) there = in_left y (f z) (flat_map f xs) (subst (λ w. IsIn y (f w)) e there)
in_piece f x y (z ∷ xs) (inr h) there = in_right y (f z) (flat_map f xs) (in_piece f x y xs h there)

first_or_later : (a low : ℕ) → low ≤ a → (a ≡ low) ⊎ (low + 1 ≤ a)
first_or_later a low h = grind arith

in_values : (a low n : ℕ) → low ≤ a → a < low + n → IsIn a (range_with_len low n)
in_values a low zero h l = absurd (omega (arith, h, l))
in_values a low (suc n) h l = elim (first_or_later a low h) [
  | inl e ↦ inl e
  | inr more ↦ inr (in_values a (low + 1) n more (omega (arith, l)))
]

in_dropped : {A : Type 0} (xs rest : List A) (i : ℕ) (x : A) → drop i xs ≡ x ∷ rest → IsIn x xs
in_dropped [] rest zero x here = let never : ⊥ = cc in absurd never
in_dropped [] rest (suc i) x here = let never : ⊥ = cc in absurd never
in_dropped (y ∷ xs) rest zero x here = let same : x ≡ y = cc in inl same
in_dropped (y ∷ xs) rest (suc i) x here = inr (in_dropped xs rest i x here)

-- ---- neighbours

-- a generator that is tested
record IsTested (x : Generator) (xs : List Generator) : Type 0 where
  there : IsIn x xs
  near : is_neighbour x ≡ true

tested_same : (x y : Generator) (xs : List Generator) → x ≡ y → IsTested y xs → IsTested x xs
tested_same x y xs e is = subst (λ z. IsTested z xs) (sym e) is

in_special : (place n i j : ℕ) → 1 ≤ i → i ≤ n → 1 ≤ j → j ≤ n → IsIn (special_generator place i j) (special_generators place n)
in_special place n i j low high left right =
    in_piece (λ k. map (λ l. special_generator place k l) (range_with_len 1 n)) i (special_generator place i j) (range_with_len 1 n) (in_values i 1 n low (omega arith))
    (in_image (λ l. special_generator place i l) j (range_with_len 1 n) (in_values j 1 n left (omega arith)))

or_first : (a b c : Bool) → b ≡ true → ((a || b) || c) ≡ true
or_first true b c e = refl
or_first false b c e = ap (λ x. x || c) e

or_second : (a b c : Bool) → c ≡ true → ((a || b) || c) ≡ true
or_second true b c e = refl
or_second false true c e = refl
or_second false false c e = e

itself : (n : ℕ) → (n == n) ≡ true
itself n = grind arith

near_up : (place i : ℕ) → is_neighbour (special_generator place i (i + 1)) ≡ true
near_up place i = or_first (i == 0) (i + 1 == i + 1) (i + 1 + 1 == i) (itself (i + 1))

near_down : (place i : ℕ) → is_neighbour (special_generator place (i + 1) i) ≡ true
near_down place i = or_second (i + 1 == 0) (i + 1 + 1 == i) (i + 1 == i + 1) (itself (i + 1))

special_tested : (place n : ℕ) (x : Generator) → IsIn x (special_neighbours place n) → IsTested x (special_generators place n)
special_tested place n x there =
    let pair = in-flat_map (neighbours_at place) x (range_with_len 1 (n - 1)) there in
    let bounds = in-range pair.0 1 (n - 1) pair.1 in
    let high : pair.0 + 1 ≤ n = omega (arith, bounds.0, bounds.1) in
    let low : 1 ≤ pair.0 = bounds.0 in
    elim pair.2 [
      | inl e ↦ tested_same x (special_generator place pair.0 (pair.0 + 1)) (special_generators place n) e
          (record { there = in_special place n pair.0 (pair.0 + 1) low (omega arith) (omega arith) high; near = near_up place pair.0 })
      | inr (inl e) ↦ tested_same x (special_generator place (pair.0 + 1) pair.0) (special_generators place n) e
          (record { there = in_special place n (pair.0 + 1) pair.0 (omega arith) high low (omega arith); near = near_down place pair.0 })
      | inr (inr h) ↦ absurd h
    ]

group_tested : (place n : ℕ) (x : Generator) (abelian : Bool) → IsIn x (cond abelian (charge_generator place ∷ []) (special_neighbours place n)) → IsTested x (cond abelian (charge_generator place ∷ []) (special_generators place n))
group_tested place n x true (inl e) = tested_same x (charge_generator place) (charge_generator place ∷ []) e (record { there = inl refl; near = refl })
group_tested place n x true (inr h) = absurd h
group_tested place n x false h = special_tested place n x h

all_tested : (model : Model) (x : Generator) → IsIn x (neighbours model) → IsTested x (generators model)
all_tested model x there =
    let at = in-flat_map neighbours_of x (enumerate_from 0 model.groups) there in
    let is = group_tested at.0.0 at.0.1.n x (is_abelian at.0.1) at.2 in
    record { there = in_piece generators_of at.0 x (enumerate_from 0 model.groups) at.1 is.there; near = is.near }

-- ---- failures

module _ (model : Model) (term : Term) (meant : Direction) where
  -- another generator isn't asked
  pub not_near : (x : Generator) → is_neighbour x ≡ false → near_failures model term meant x ≡ []
  not_near x e = ap (λ b. if b then failures_under model term meant x else []) e

  pub near_same : (x : Generator) → is_neighbour x ≡ true → near_failures model term meant x ≡ failures_under model term meant x
  near_same x e = ap (λ b. if b then failures_under model term meant x else []) e

  -- where nothing fails under the neighbours, nothing fails
  pub near_tell : IsValid model → flat_map (near_failures model term meant) (generators model) ≡ [] → direction_failures model term meant ≡ []
  near_tell valid none =
      neighbours_tell model valid term meant (nothing_from (failures_under model term meant) (neighbours model) each)
    where
      each : (x : Generator) → IsIn x (neighbours model) → failures_under model term meant x ≡ []
      each x there =
          let is = all_tested model x there in
          sym (near_same x is.near) ∙ nothing_at (near_failures model term meant) (generators model) none x is.there

  -- where nothing fails, nothing fails under a neighbour
  pub near_told : (i : ℕ) (x : Generator) → drop i (generators model) ≡ x ∷ drop (i + 1) (generators model) → near_failures model term meant x ≢ [] → direction_failures model term meant ≢ []
  near_told i x here some none = some (by_test (is_neighbour x) refl)
    where
      by_test : (b : Bool) → is_neighbour x ≡ b → near_failures model term meant x ≡ []
      by_test true e = near_same x e ∙ nothing_at (failures_under model term meant) (generators model) none x (in_dropped (generators model) (drop (i + 1) (generators model)) i x here)
      by_test false e = not_near x e

-- ---- what is told

module _ (model : Model) where
  first_some : (fs : List Failure) (f : TermFault) → IsFirstOf model fs f → fs ≢ []
  first_some [] f first = absurd first
  first_some (x ∷ fs) f first = λ e. let never : ⊥ = cc in never

  -- a check's answer tells as much
  pub tells_found : (fs : List Failure) (r : Result ⊤ CheckError) → Checks model fs r → Tells model fs (found_none r)
  tells_found fs (Ok nothing) given = given
  tells_found fs (Err (error.Fault f)) given = first_some fs f given
  tells_found fs (Err (error.Overflow pair)) given = λ others. given
  tells_found fs (Err error.NoMemory) given = λ others. tt

  pub tells_same : (fs gs : List Failure) (r : Result Bool CheckError) → fs ≡ gs → Tells model fs r → Tells model gs r
  tells_same fs gs r same given = subst (λ hs. Tells model hs r) same given

  -- an error says nothing of failures
  pub tells_exit : (fs gs : List Failure) (r : Result Bool CheckError) (e y : CheckError) → r ≡ Err y → y ≡ e → Tells model fs (Err e) → Tells model gs r
  tells_exit fs gs r e y is same given = subst (Tells model gs) (sym (is ∙ ap Err same)) given

  pub tells_none : (fs : List Failure) (b : Bool) → b ≡ true → Tells model fs (Ok b) → fs ≡ []
  tells_none fs b holds given = subst (λ t. Tells model fs (Ok t)) holds given

  pub tells_some : (fs : List Failure) (b : Bool) → b ≡ false → Tells model fs (Ok b) → fs ≢ []
  tells_some fs b holds given = subst (λ t. Tells model fs (Ok t)) holds given

  -- nor does it of a check's failures
  pub tells_checks : (fs gs : List Failure) (r : Result ⊤ CheckError) (e y : CheckError) → r ≡ Err y → y ≡ e → Tells model fs (Err e) → Checks model gs r
  tells_checks fs gs r e y is same given = subst (Checks model gs) (sym (is ∙ ap Err same)) (given gs)
