-- No failure under the neighbouring generators: then there is none under any generator.
use Rattle.std.proofs.Common.{◌≡◌, ℕ, zero, suc, ◌+◌, ◌-◌, ◌<◌, ◌≤◌, Bool, true, false, cond, List, [], ◌∷◌, ◌++◌, map, length, Some, refl, sym, subst, ap, ap₂, ◌∙◌, arith, inl, inr}
use Rattle.std.specs.Prelude.{◌⊎◌, slice_get}
use Rattle.std.specs.List.{enumerate_from, flat_map, list_all, range_with_len}
use Rattle.std.proofs.lemmas.List.{length-map}
use Rattle.std.proofs.lemmas.List.Concat.{flat_map-append}
use Rattle.frac128.specs.Rational.{zero_ℚ, eq_ℚ}
use Rattle.frac128.specs.RationalOrder.{Decides-eq_ℚ}
use Rattle.model_core.specs.declared.group.Group.{Group}
use Rattle.model_core.specs.declared.generator.Generator.{Generator}
use Rattle.model_core.specs.declared.model.Model.{Model}
use Rattle.model_core.specs.declared.term.Term.{Term}
use Rattle.model_core.specs.declared.term.TermKind.{TermKind}
use Rattle.model_core.specs.declared.term.TermKind.TheVariants.{Fermion, Scalar}
use Rattle.model_core.specs.Directions.{Direction}
use Rattle.model_core.specs.Generators.{charge_generator, generators, generators_of, special_generators}
use Rattle.model_core.specs.Groups.{is_abelian}
use Rattle.model_core.specs.Invariance.{Failure, change, direction_failures, failure_at, failures_under, keys_of, legs_on, of_conjugate}
use Rattle.model_core.specs.Scalar.{Coordinate, scalar_coordinates}
use Rattle.model_core.specs.TermTensor.{fermion_coordinates, legs_of}
use Rattle.model_core.specs.Valid.{IsValid, is_group}
use Rattle.model_core.proofs.ValidLaws.{first_passes, groups_pass, parts_groups, special_size, valid_parts}
use Rattle.neighbour_laws.specs.Neighbours.{AreUnchanged, IsKey, IsUnchanged, neighbours, neighbours_at, neighbours_of, special_generator, special_neighbours}
use Rattle.neighbour_laws.proofs.Members.{IsIn, in-flat_map, in-map, in-range}
use Rattle.neighbour_laws.proofs.Neighbours.{neighbours_are_enough}

-- ---- lists

-- an element of a part, an image or a piece is one of the whole
in_left : {A : Type 0} (x : A) (xs ys : List A) → IsIn x xs → IsIn x (xs ++ ys)
in_left x [] ys h = absurd h
in_left x (y ∷ xs) ys (inl e) = inl e
in_left x (y ∷ xs) ys (inr h) = inr (in_left x xs ys h)

in_right : {A : Type 0} (x : A) (xs ys : List A) → IsIn x ys → IsIn x (xs ++ ys)
in_right x [] ys h = h
in_right x (y ∷ xs) ys h = inr (in_right x xs ys h)

in_image : {A B : Type 0} (f : A → B) (x : A) (xs : List A) → IsIn x xs → IsIn (f x) (map f xs)
in_image f x [] h = absurd h
in_image f x (y ∷ xs) (inl e) = inl (ap f e)
in_image f x (y ∷ xs) (inr h) = inr (in_image f x xs h)

in_piece : {A B : Type 0} (f : A → List B) (x : A) (y : B) (xs : List A) → IsIn x xs → IsIn y (f x) → IsIn y (flat_map f xs)
in_piece f x y [] h there = absurd h
in_piece f x y (z ∷ xs) (inl e) there = in_left y (f z) (flat_map f xs) (subst (λ w. IsIn y (f w)) e there)
in_piece f x y (z ∷ xs) (inr h) there = in_right y (f z) (flat_map f xs) (in_piece f x y xs h there)

first_or_later : (a low : ℕ) → low ≤ a → (a ≡ low) ⊎ (low + 1 ≤ a)
first_or_later a low h = grind arith

in_values : (a low n : ℕ) → low ≤ a → a < low + n → IsIn a (range_with_len low n)
in_values a low zero h l = absurd (omega (arith, h, l))
in_values a low (suc n) h l = elim (first_or_later a low h) [
  | inl e ↦ inl e
  | inr more ↦ inr (in_values a (low + 1) n more (omega (arith, l)))
]

-- what stands in a numbered list
in_numbered : {A : Type 0} (xs : List A) (low : ℕ) (at : ℕ × A) → IsIn at (enumerate_from low xs) → (place : ℕ) × (at.0 ≡ low + place) × (slice_get xs place ≡ Some at.1)
in_numbered [] low at h = absurd h
in_numbered (x ∷ xs) low at (inl e) = (0, ap (λ a. a.0) e ∙ omega arith, ap (λ a. Some a.1) (sym e))
in_numbered (x ∷ xs) low at (inr h) = let later = in_numbered xs (low + 1) at h in (suc later.0, later.1 ∙ omega arith, later.2)

-- nothing in joined lists
nothing_left : {A : Type 0} (xs ys : List A) → xs ++ ys ≡ [] → (xs ≡ []) × (ys ≡ [])
nothing_left [] ys h = (refl, h)
nothing_left (x ∷ xs) ys h = let never : ⊥ = cc in absurd never

pub nothing_at : {A B : Type 0} (f : A → List B) (xs : List A) → flat_map f xs ≡ [] → (x : A) → IsIn x xs → f x ≡ []
nothing_at f [] none x h = absurd h
nothing_at f (y ∷ xs) none x (inl e) = ap f e ∙ (nothing_left (f y) (flat_map f xs) none).0
nothing_at f (y ∷ xs) none x (inr h) = nothing_at f xs (nothing_left (f y) (flat_map f xs) none).1 x h

pub nothing_from : {A B : Type 0} (f : A → List B) (xs : List A) → ((x : A) → IsIn x xs → f x ≡ []) → flat_map f xs ≡ []
nothing_from f [] none = refl
nothing_from f (y ∷ xs) none = ap₂ (λ a b. a ++ b) (none y (inl refl)) (nothing_from f xs (λ x h. none x (inr h)))

-- ---- keys

-- the keys of legs are in their list, and no others
pub in_keys : (legs : List (List Coordinate)) (key : List ℕ) → IsKey legs key → IsIn key (keys_of legs)
in_keys [] [] inside = inl refl
in_keys [] (y ∷ key) inside = absurd inside
in_keys (leg ∷ legs) [] inside = absurd inside
in_keys (leg ∷ legs) (y ∷ key) inside =
    in_piece (λ x. map (λ k. x ∷ k) (keys_of legs)) y (y ∷ key) (range_with_len 0 (length leg)) (in_values y 0 (length leg) (omega arith) (omega (arith, inside.0)))
    (in_image (λ k. y ∷ k) key (keys_of legs) (in_keys legs key inside.1))

pub are_keys : (legs : List (List Coordinate)) (key : List ℕ) → IsIn key (keys_of legs) → IsKey legs key
are_keys [] key (inl e) = subst (IsKey []) (sym e) tt
are_keys [] key (inr h) = absurd h
are_keys (leg ∷ legs) key h =
    let first = in-flat_map (λ x. map (λ k. x ∷ k) (keys_of legs)) key (range_with_len 0 (length leg)) h in
    let rest = in-map (λ k. first.0 ∷ k) key (keys_of legs) first.2 in
    let bound : first.0 < length leg = omega (arith, (in-range first.0 0 (length leg) first.1).1) in
    subst (IsKey (leg ∷ legs)) (sym rest.2) (bound, are_keys legs rest.0 rest.1)

-- both sides of a block have the same keys
pub keys_of_side : (model : Model) (kind : TermKind) (side : ℕ) → keys_of (legs_on model kind side) ≡ keys_of (legs_of model kind)
keys_of_side model Fermion zero = refl
keys_of_side model Fermion (suc side) =
    let keys = keys_of (scalar_coordinates model ∷ []) in
    ap (λ n. flat_map (λ x. map (λ k. x ∷ k) (flat_map (λ y. map (λ k. y ∷ k) keys) (range_with_len 0 n))) (range_with_len 0 n)) (length-map (fermion_coordinates model) of_conjugate)
keys_of_side model Scalar side = refl

-- ---- a generator

module _ (model : Model) (term : Term) (direction : Direction) (x : Generator) where
  -- the failures on a side
  abbrev pub failures_on : ℕ → List Failure
  failures_on side = flat_map (failure_at model term direction x) (map (λ key. side ∷ key) (keys_of (legs_of model direction.kind)))

  at_key : (key : List ℕ) → failure_at model term direction x key ≡ [] → change model direction x key ≡ zero_ℚ
  at_key key none = by_test (eq_ℚ (change model direction x key) zero_ℚ) refl none
    where
      by_test : (b : Bool) → eq_ℚ (change model direction x key) zero_ℚ ≡ b → cond b [] (Failure.NotInvariant direction.place term x key (change model direction x key) ∷ []) ≡ [] → change model direction x key ≡ zero_ℚ
      by_test true e h = (Decides-eq_ℚ (change model direction x key) zero_ℚ).0 e
      by_test false e h = let never : ⊥ = cc in absurd never

  -- no failure on a side says that the direction is unchanged there
  pub unchanged_on : (side : ℕ) → failures_on side ≡ [] → IsUnchanged model direction side x
  unchanged_on side none key inside =
      at_key (side ∷ key) (nothing_at (failure_at model term direction x) (map (λ k. side ∷ k) (keys_of (legs_of model direction.kind))) none (side ∷ key)
      (in_image (λ k. side ∷ k) key (keys_of (legs_of model direction.kind)) (subst (λ keys. IsIn key keys) (keys_of_side model direction.kind side) (in_keys (legs_on model direction.kind side) key inside))))

  no_failure : (key : List ℕ) → change model direction x key ≡ zero_ℚ → failure_at model term direction x key ≡ []
  no_failure key e = ap (λ b. cond b [] (Failure.NotInvariant direction.place term x key (change model direction x key) ∷ [])) ((Decides-eq_ℚ (change model direction x key) zero_ℚ).1 e)

  pub nothing_on : (side : ℕ) → IsUnchanged model direction side x → failures_on side ≡ []
  nothing_on side unchanged = nothing_from (failure_at model term direction x) (map (λ k. side ∷ k) (keys_of (legs_of model direction.kind))) at
    where
      at : (key : List ℕ) → IsIn key (map (λ k. side ∷ k) (keys_of (legs_of model direction.kind))) → failure_at model term direction x key ≡ []
      at key there =
          let found = in-map (λ k. side ∷ k) key (keys_of (legs_of model direction.kind)) there in
          let inside = are_keys (legs_on model direction.kind side) found.0 (subst (λ keys. IsIn found.0 keys) (sym (keys_of_side model direction.kind side)) found.1) in
          ap (failure_at model term direction x) found.2 ∙ no_failure (side ∷ found.0) (unchanged found.0 inside)

  -- on both sides
  sides_are : failures_under model term direction x ≡ failures_on 0 ++ (failures_on 1 ++ [])
  sides_are =
      let keys = keys_of (legs_of model direction.kind) in
      flat_map-append (failure_at model term direction x) (map (λ k. 0 ∷ k) keys) (map (λ k. 1 ∷ k) keys ++ [])
      ∙ ap (λ fs. failures_on 0 ++ fs) (flat_map-append (failure_at model term direction x) (map (λ k. 1 ∷ k) keys) [])

  pub unchanged_under : failures_under model term direction x ≡ [] → IsUnchanged model direction 0 x × IsUnchanged model direction 1 x
  unchanged_under none =
      let parts = nothing_left (failures_on 0) (failures_on 1 ++ []) (sym sides_are ∙ none) in
      (unchanged_on 0 parts.0, unchanged_on 1 (nothing_left (failures_on 1) [] parts.1).0)

  pub nothing_under : IsUnchanged model direction 0 x → IsUnchanged model direction 1 x → failures_under model term direction x ≡ []
  nothing_under first second = sides_are ∙ ap₂ (λ xs ys. xs ++ (ys ++ [])) (nothing_on 0 first) (nothing_on 1 second)

-- ---- all generators

group_passes : (groups : List Group) (place : ℕ) (group : Group) → list_all is_group groups ≡ true → slice_get groups place ≡ Some group → is_group group ≡ true
group_passes [] place group passes found = let never : ⊥ = cc in absurd never
group_passes (g ∷ groups) zero group passes found =
    let same : group ≡ g = cc in
    ap is_group same ∙ (first_passes is_group g groups passes).0
group_passes (g ∷ groups) (suc place) group passes found = group_passes groups place group (first_passes is_group g groups passes).1 found

-- an SU(n) of a valid model has n from 2 on
pub group_is_special : (model : Model) → IsValid model → (place : ℕ) (group : Group) → slice_get model.groups place ≡ Some group → is_abelian group ≡ false → 2 ≤ group.n
group_is_special model valid place group found special =
    special_size group (group_passes model.groups place group (groups_pass model.groups (parts_groups model (valid_parts model valid))) found) special

module _ (model : Model) (valid : IsValid model) (term : Term) (direction : Direction) where
  abbrev under : Generator → List Failure
  under = failures_under model term direction

  -- neighbouring X_ij without failures
  near_unchanged : (place n : ℕ) → ((x : Generator) → IsIn x (special_neighbours place n) → under x ≡ []) → (side : ℕ) → side ≤ 1 → AreUnchanged model direction side place n
  near_unchanged place n none side few i low high =
      let there = in_values i 1 (n - 1) low (omega arith) in
      let first = none (special_generator place i (i + 1)) (in_piece (neighbours_at place) i (special_generator place i (i + 1)) (range_with_len 1 (n - 1)) there (inl refl)) in
      let second = none (special_generator place (i + 1) i) (in_piece (neighbours_at place) i (special_generator place (i + 1) i) (range_with_len 1 (n - 1)) there (inr (inl refl))) in
      (on_side side few (special_generator place i (i + 1)) first, on_side side few (special_generator place (i + 1) i) second)
    where
      on_side : (side : ℕ) → side ≤ 1 → (x : Generator) → under x ≡ [] → IsUnchanged model direction side x
      on_side zero few x e = (unchanged_under model term direction x e).0
      on_side (suc zero) few x e = (unchanged_under model term direction x e).1
      on_side (suc (suc side)) few x e = absurd (omega (arith, few))

  -- all X_ij of an SU(n)
  special_nothing : (place : ℕ) (group : Group) → slice_get model.groups place ≡ Some group → is_abelian group ≡ false
      → ((x : Generator) → IsIn x (special_neighbours place group.n) → under x ≡ []) → (x : Generator) → IsIn x (special_generators place group.n) → under x ≡ []
  special_nothing place group found special none x there =
      let n = group.n in
      let large = group_is_special model valid place group found special in
      let row = in-flat_map (λ i. map (λ j. special_generator place i j) (range_with_len 1 n)) x (range_with_len 1 n) there in
      let at = in-map (λ j. special_generator place row.0 j) x (range_with_len 1 n) row.2 in
      let first = in-range row.0 1 n row.1 in
      let second = in-range at.0 1 n at.1 in
      let unchanged = λ (side : ℕ) (few : side ≤ 1). neighbours_are_enough model valid direction side place group found (omega (arith, large)) (near_unchanged place n none side few) row.0 at.0 first.0 (omega (arith, first.1)) second.0 (omega (arith, second.1)) in
      ap under at.2 ∙ nothing_under model term direction (special_generator place row.0 at.0) (unchanged 0 (omega arith)) (unchanged 1 (omega arith))

  -- all of a group
  group_nothing : (place : ℕ) (group : Group) → slice_get model.groups place ≡ Some group → ((x : Generator) → IsIn x (neighbours_of (place, group)) → under x ≡ []) → (x : Generator) → IsIn x (generators_of (place, group)) → under x ≡ []
  group_nothing place group found none x there = by_kind (is_abelian group) refl
    where
      by_kind : (abelian : Bool) → is_abelian group ≡ abelian → under x ≡ []
      by_kind true e =
          none x (subst (λ b. IsIn x (cond b (charge_generator place ∷ []) (special_neighbours place group.n))) (sym e) (subst (λ b. IsIn x (cond b (charge_generator place ∷ []) (special_generators place group.n))) e there))
      by_kind false e =
          special_nothing place group found e
          (λ y h. none y (subst (λ b. IsIn y (cond b (charge_generator place ∷ []) (special_neighbours place group.n))) (sym e) h))
          x (subst (λ b. IsIn x (cond b (charge_generator place ∷ []) (special_generators place group.n))) e there)

  pub neighbours_tell : flat_map (failures_under model term direction) (neighbours model) ≡ [] → direction_failures model term direction ≡ []
  neighbours_tell none = nothing_from under (generators model) each
    where
      each : (x : Generator) → IsIn x (generators model) → under x ≡ []
      each x there =
          let at = in-flat_map generators_of x (enumerate_from 0 model.groups) there in
          let where_it_is = in_numbered model.groups 0 at.0 at.1 in
          let place : at.0.0 ≡ where_it_is.0 = where_it_is.1 ∙ omega arith in
          group_nothing at.0.0 at.0.1 (ap (slice_get model.groups) place ∙ where_it_is.2)
          (λ y h. nothing_at under (neighbours model) none y (in_piece neighbours_of at.0 y (enumerate_from 0 model.groups) at.1 h)) x at.2

  -- ---- neighbours are generators

  -- X_ij of an SU(n) is one of its generators
  in_special : (place n i j : ℕ) → 1 ≤ i → i ≤ n → 1 ≤ j → j ≤ n → IsIn (special_generator place i j) (special_generators place n)
  in_special place n i j low high left right =
      in_piece (λ k. map (λ l. special_generator place k l) (range_with_len 1 n)) i (special_generator place i j) (range_with_len 1 n) (in_values i 1 n low (omega arith))
      (in_image (λ l. special_generator place i l) j (range_with_len 1 n) (in_values j 1 n left (omega arith)))

  near_special : (place n : ℕ) (x : Generator) → IsIn x (special_neighbours place n) → IsIn x (special_generators place n)
  near_special place n x there =
      let pair = in-flat_map (neighbours_at place) x (range_with_len 1 (n - 1)) there in
      let bounds = in-range pair.0 1 (n - 1) pair.1 in
      let high : pair.0 + 1 ≤ n = omega (arith, bounds.0, bounds.1) in
      let low : 1 ≤ pair.0 = bounds.0 in
      elim pair.2 [
        | inl e ↦ subst (λ y. IsIn y (special_generators place n)) (sym e) (in_special place n pair.0 (pair.0 + 1) low (omega arith) (omega arith) high)
        | inr (inl e) ↦ subst (λ y. IsIn y (special_generators place n)) (sym e) (in_special place n (pair.0 + 1) pair.0 (omega arith) high low (omega arith))
        | inr (inr h) ↦ absurd h
      ]

  near_group : (place : ℕ) (group : Group) (x : Generator) → IsIn x (neighbours_of (place, group)) → IsIn x (generators_of (place, group))
  near_group place group x there = by_kind (is_abelian group) there
    where
      by_kind : (abelian : Bool) → IsIn x (cond abelian (charge_generator place ∷ []) (special_neighbours place group.n)) → IsIn x (cond abelian (charge_generator place ∷ []) (special_generators place group.n))
      by_kind true h = h
      by_kind false h = near_special place group.n x h

  pub neighbours_told : direction_failures model term direction ≡ [] → flat_map (failures_under model term direction) (neighbours model) ≡ []
  neighbours_told none = nothing_from under (neighbours model) each
    where
      each : (x : Generator) → IsIn x (neighbours model) → under x ≡ []
      each x there =
          let at = in-flat_map neighbours_of x (enumerate_from 0 model.groups) there in
          nothing_at under (generators model) none x (in_piece generators_of at.0 x (enumerate_from 0 model.groups) at.1 (near_group at.0.0 at.0.1 x at.2))
