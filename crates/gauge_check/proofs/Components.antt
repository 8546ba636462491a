-- The legs of components, place by place.
use Rattle.std.specs.Prelude.{◌≡◌, ◌<◌, ◌≤◌, ◌+◌, ℕ, zero, suc, false, not, List, [], ◌∷◌, ◌++◌, map, length, get_or, slice_get, Option, Some, None, option_map}
use Rattle.std.specs.List.{flat_map, range_with_len, AllByRecursion}
use Rattle.std.proofs.Common.{take, refl, sym, ap, ap₂, subst, ◌∙◌, arith}
use Rattle.std.proofs.lemmas.List.{take_more, take_all}
use Rattle.std.proofs.lemmas.Option.{slice_get-map, slice_get_within, slice_get-get_or}
use Rattle.model_core.specs.declared.group.Group.{Group}
use Rattle.model_core.specs.declared.field.Field.{Field}
use Rattle.model_core.specs.declared.leg.Leg.{Leg}
use Rattle.model_core.specs.declared.leg.Leg.TheVariants.{Fermion as FermionLeg}
use Rattle.model_core.specs.declared.model.Model.{Model}
use Rattle.model_core.specs.declared.term.TermKind.{TermKind}
use Rattle.model_core.specs.declared.term.TermKind.TheVariants.{Fermion, Scalar}
use Rattle.model_core.specs.Component.{Component, slot_sizes, tuples, components_of, fermion_components}
use Rattle.model_core.specs.Scalar.{Coordinate, scalar_components, scalar_coordinates}
use Rattle.model_core.specs.Scalar.Coordinate.{Of, Dummy}
use Rattle.model_core.specs.Leg.{leg_of as component_leg, scalar_leg_of, printed_generation, fermion_legs, scalar_legs}
use Rattle.model_core.specs.TermTensor.{legs_of, fermion_coordinates, with_coordinate, coordinates_at, value_or}
use Rattle.model_core.specs.Invariance.{of_conjugate, legs_at, fermion_leg, scalar_leg, component_legs}
use Rattle.term_expand.specs.Multiples.{HasCoordinates}
use Rattle.term_expand.proofs.Conjugates.{key_length, leg_number}
use Rattle.term_expand.proofs.Legs.{of_three, of_four}
use Rattle.gauge_check.specs.Legs.{leg_on_side, leg_or_none, HasPlace, leg_or_dummy, leg_of_place}

same_some : {A : Type 0} (x y : A) → Some x ≡ Some y → x ≡ y
same_some x y e = cc

some_none : {A : Type 0} (x : A) → Some x ≡ None → ⊥
some_none x e = cc

-- ---- components of fermions are plain

abbrev IsPlain : Component → Type 0
IsPlain c = c.conj ≡ false

each_append : {A : Type 0} (P : A → Type 0) (xs ys : List A) → AllByRecursion P xs → AllByRecursion P ys → AllByRecursion P (xs ++ ys)
each_append P [] ys first second = second
each_append P (x ∷ xs) ys first second = (first.0, each_append P xs ys first.1 second)

each_at : {A : Type 0} (P : A → Type 0) (xs : List A) (i : ℕ) (x : A) → AllByRecursion P xs → slice_get xs i ≡ Some x → P x
each_at P [] i x all found = let never : ⊥ = cc in absurd never
each_at P (y ∷ xs) zero x all found = subst P (same_some y x found) all.0
each_at P (y ∷ xs) (suc i) x all found = each_at P xs i x all.1 found

plain_tuples : (field : Field) (generation : ℕ) (ps : List (List ℕ)) → AllByRecursion IsPlain (map (λ p. record { field = field; conj = false; generation = generation; values = p }) ps)
plain_tuples field generation [] = tt
plain_tuples field generation (p ∷ ps) = (refl, plain_tuples field generation ps)

plain_copies : (groups : List Group) (field : Field) (generations : List ℕ) → AllByRecursion IsPlain (flat_map (λ g. map (λ p. record { field = field; conj = false; generation = g; values = p }) (tuples (slot_sizes groups field.reps))) generations)
plain_copies groups field [] = tt
plain_copies groups field (g ∷ generations) =
    each_append IsPlain _ _ (plain_tuples field g (tuples (slot_sizes groups field.reps))) (plain_copies groups field generations)

plain_fields : (groups : List Group) (fields : List Field) → AllByRecursion IsPlain (flat_map (components_of groups) fields)
plain_fields groups [] = tt
plain_fields groups (field ∷ fields) =
    each_append IsPlain (components_of groups field) (flat_map (components_of groups) fields) (plain_copies groups field (range_with_len 1 field.generations)) (plain_fields groups fields)

-- ---- a leg at a place

plain_leg : (o : Option Component) (r : Leg) → option_map component_leg o ≡ Some r → ((c : Component) → o ≡ Some c → IsPlain c) → leg_on_side 0 r ≡ leg_or_dummy fermion_leg (option_map Of o)
plain_leg None r found plain = absurd (some_none r (sym found))
plain_leg (Some c) r found plain =
    ap (leg_on_side 0) (sym (same_some (component_leg c) r found))
    ∙ ap (λ conj. FermionLeg c.field.name conj (printed_generation c.field c.generation) c.values) (sym (plain c refl))

conjugate_leg : (o : Option Component) (r : Leg) (side : ℕ) → option_map component_leg o ≡ Some r → ((c : Component) → o ≡ Some c → IsPlain c) → leg_on_side (suc side) r ≡ leg_or_dummy fermion_leg (option_map of_conjugate (option_map Of o))
conjugate_leg None r side found plain = absurd (some_none r (sym found))
conjugate_leg (Some c) r side found plain =
    ap (leg_on_side (suc side)) (sym (same_some (component_leg c) r found))
    ∙ ap (λ conj. FermionLeg c.field.name (not conj) (printed_generation c.field c.generation) c.values) (sym (plain c refl))

module _ (model : Model) (place : ℕ) (r : Leg) where
  abbrev at : Option Component
  at = slice_get (fermion_components model) place

  plain_at : (c : Component) → at ≡ Some c → IsPlain c
  plain_at c found = each_at IsPlain (fermion_components model) place c (plain_fields model.groups model.fermions) found

  leg_found : slice_get (fermion_legs model) place ≡ Some r → option_map component_leg at ≡ Some r
  leg_found found = sym (slice_get-map component_leg (fermion_components model) place) ∙ found

  plain_place : slice_get (fermion_legs model) place ≡ Some r → leg_on_side 0 r ≡ leg_or_dummy fermion_leg (slice_get (fermion_coordinates model) place)
  plain_place found =
      plain_leg at r (leg_found found) plain_at ∙ ap (leg_or_dummy fermion_leg) (sym (slice_get-map Of (fermion_components model) place))

  conjugate_place : (side : ℕ) → slice_get (fermion_legs model) place ≡ Some r → leg_on_side (suc side) r ≡ leg_or_dummy fermion_leg (slice_get (map of_conjugate (fermion_coordinates model)) place)
  conjugate_place side found =
      conjugate_leg at r side (leg_found found) plain_at
      ∙ ap (λ o. leg_or_dummy fermion_leg (option_map of_conjugate o)) (sym (slice_get-map Of (fermion_components model) place))
      ∙ ap (leg_or_dummy fermion_leg) (sym (slice_get-map of_conjugate (fermion_coordinates model) place))

  -- a fermion's leg on a side
  pub fermion_place : (side leg : ℕ) → leg < 2 → slice_get (fermion_legs model) place ≡ Some r → leg_on_side side r ≡ leg_of_place model Fermion side leg place
  fermion_place zero zero low found = plain_place found
  fermion_place zero (suc zero) low found = plain_place found
  fermion_place zero (suc (suc leg)) low found = absurd (omega (arith, low))
  fermion_place (suc side) zero low found = conjugate_place side found
  fermion_place (suc side) (suc zero) low found = conjugate_place side found
  fermion_place (suc side) (suc (suc leg)) low found = absurd (omega (arith, low))

  scalar_legs_are : (cs : List Component) → map scalar_leg (map Of cs ++ Dummy ∷ []) ≡ map scalar_leg_of cs ++ scalar_leg Dummy ∷ []
  scalar_legs_are [] = refl
  scalar_legs_are (c ∷ cs) = ap (λ legs. scalar_leg_of c ∷ legs) (scalar_legs_are cs)

  scalar_found : (o : Option Coordinate) → option_map scalar_leg o ≡ Some r → r ≡ leg_or_dummy scalar_leg o
  scalar_found None found = absurd (some_none r (sym found))
  scalar_found (Some c) found = sym (same_some (scalar_leg c) r found)

  scalar_here : slice_get (scalar_legs model) place ≡ Some r → r ≡ leg_or_dummy scalar_leg (slice_get (scalar_coordinates model) place)
  scalar_here found =
      scalar_found (slice_get (scalar_coordinates model) place)
      (sym (slice_get-map scalar_leg (scalar_coordinates model) place) ∙ ap (λ legs. slice_get legs place) (scalar_legs_are (scalar_components model)) ∙ found)

  -- a scalar's leg of a fermion term
  pub fermion_scalar_place : (side leg : ℕ) → 2 ≤ leg → HasPlace model Fermion leg place → slice_get (scalar_legs model) place ≡ Some r → r ≡ leg_of_place model Fermion side leg place
  fermion_scalar_place side zero high inside found = absurd (omega (arith, high))
  fermion_scalar_place side (suc zero) high inside found = absurd (omega (arith, high))
  fermion_scalar_place zero (suc (suc zero)) high inside found = scalar_here found
  fermion_scalar_place (suc side) (suc (suc zero)) high inside found = scalar_here found
  fermion_scalar_place side (suc (suc (suc leg))) high inside found = absurd (omega (arith, inside))

  -- a scalar's leg of a scalar term
  pub scalar_place : (side leg : ℕ) → HasPlace model Scalar leg place → slice_get (scalar_legs model) place ≡ Some r → r ≡ leg_of_place model Scalar side leg place
  scalar_place side zero inside found = scalar_here found
  scalar_place side (suc zero) inside found = scalar_here found
  scalar_place side (suc (suc zero)) inside found = scalar_here found
  scalar_place side (suc (suc (suc zero))) inside found = scalar_here found
  scalar_place side (suc (suc (suc (suc leg)))) inside found = absurd (omega (arith, inside))

-- ---- a key's legs

-- the legs of a key from one on
unfoldable pub legs_from : Model → TermKind → ℕ → ℕ → List ℕ → List Leg
legs_from model kind side leg [] = []
legs_from model kind side leg (place ∷ key) = leg_of_place model kind side leg place ∷ legs_from model kind side (suc leg) key

record IsThere (o : Option Coordinate) : Type 0 where
  coordinate : Coordinate
  is : o ≡ Some coordinate

record BothThere (o : Option Coordinate) (rest : Option (List Coordinate)) : Type 0 where
  first : IsThere o
  others : List Coordinate
  are : rest ≡ Some others

both_there : (o : Option Coordinate) (rest : Option (List Coordinate)) (cs : List Coordinate) → with_coordinate o rest ≡ Some cs → BothThere o rest
both_there (Some c) (Some rest) cs e = record { first = record { coordinate = c; is = refl }; others = rest; are = refl }
both_there (Some c) None cs e = absurd (some_none cs (sym e))
both_there None rest cs e = absurd (some_none cs (sym e))

-- each place is one of its leg's
pub place_within : (legs : List (List Coordinate)) (key : List ℕ) (cs : List Coordinate) (i p : ℕ) → coordinates_at legs key ≡ Some cs → slice_get key i ≡ Some p → p < length (leg_or_none (slice_get legs i))
place_within [] [] cs i p at found = let never : ⊥ = cc in absurd never
place_within [] (q ∷ key) cs i p at found = absurd (some_none cs (sym at))
place_within (leg ∷ legs) [] cs i p at found = absurd (some_none cs (sym at))
place_within (leg ∷ legs) (q ∷ key) cs zero p at found =
    let there = both_there (slice_get leg q) (coordinates_at legs key) cs at in
    subst (λ n. n < length leg) (same_some q p found) (slice_get_within leg q there.first.coordinate there.first.is)
place_within (leg ∷ legs) (q ∷ key) cs (suc i) p at found =
    let there = both_there (slice_get leg q) (coordinates_at legs key) cs at in
    place_within legs key there.others i p there.are found

-- and one of the legs of its kind of terms
pub has_place : (model : Model) (kind : TermKind) (key : List ℕ) (i : ℕ) → HasCoordinates model kind key → i < length key → HasPlace model kind i (get_or key i 0)
has_place model Fermion key i inside within = place_within (legs_of model Fermion) key inside.coordinates i (get_or key i 0) inside.at (slice_get-get_or key i 0 within)
has_place model Scalar key i inside within = place_within (legs_of model Scalar) key inside.coordinates i (get_or key i 0) inside.at (slice_get-get_or key i 0 within)

there_mapped : (o : Option Coordinate) → IsThere o → IsThere (option_map of_conjugate o)
there_mapped o there = record { coordinate = of_conjugate there.coordinate; is = ap (option_map of_conjugate) there.is }

conjugate_there : (leg : List Coordinate) (i : ℕ) → IsThere (slice_get leg i) → IsThere (slice_get (map of_conjugate leg) i)
conjugate_there leg i there = subst IsThere (sym (slice_get-map of_conjugate leg i)) (there_mapped (slice_get leg i) there)

three_legs : (o p q : Option Coordinate) → IsThere o → IsThere p → IsThere q
    → value_or [] (legs_at Fermion) (with_coordinate o (with_coordinate p (with_coordinate q (Some [])))) ≡ leg_or_dummy fermion_leg o ∷ leg_or_dummy fermion_leg p ∷ leg_or_dummy scalar_leg q ∷ []
three_legs (Some j) (Some k) (Some a) first second third = refl
three_legs None p q first second third = absurd (some_none first.coordinate (sym first.is))
three_legs (Some j) None q first second third = absurd (some_none second.coordinate (sym second.is))
three_legs (Some j) (Some k) None first second third = absurd (some_none third.coordinate (sym third.is))

four_legs : (o p q r : Option Coordinate) → IsThere o → IsThere p → IsThere q → IsThere r
    → value_or [] (legs_at Scalar) (with_coordinate o (with_coordinate p (with_coordinate q (with_coordinate r (Some []))))) ≡ leg_or_dummy scalar_leg o ∷ leg_or_dummy scalar_leg p ∷ leg_or_dummy scalar_leg q ∷ leg_or_dummy scalar_leg r ∷ []
four_legs (Some a) (Some b) (Some c) (Some d) first second third fourth = refl
four_legs None p q r first second third fourth = absurd (some_none first.coordinate (sym first.is))
four_legs (Some a) None q r first second third fourth = absurd (some_none second.coordinate (sym second.is))
four_legs (Some a) (Some b) None r first second third fourth = absurd (some_none third.coordinate (sym third.is))
four_legs (Some a) (Some b) (Some c) None first second third fourth = absurd (some_none fourth.coordinate (sym fourth.is))

module _ (model : Model) (side : ℕ) where
  abbrev AreLegs : TermKind → List ℕ → Type 0
  AreLegs kind key = (cs : List Coordinate) → coordinates_at (legs_of model kind) key ≡ Some cs → component_legs model kind (side ∷ key) ≡ legs_from model kind side 0 key

  fermion_legs_are : (side : ℕ) (j k a : ℕ) (cs : List Coordinate) → coordinates_at (legs_of model Fermion) (j ∷ k ∷ a ∷ []) ≡ Some cs
      → component_legs model Fermion (side ∷ j ∷ k ∷ a ∷ []) ≡ legs_from model Fermion side 0 (j ∷ k ∷ a ∷ [])
  unfolding legs_from
  fermion_legs_are zero j k a cs at =
      let fermions = fermion_coordinates model in
      let scalars = scalar_coordinates model in
      let first = both_there (slice_get fermions j) (coordinates_at (fermions ∷ scalars ∷ []) (k ∷ a ∷ [])) cs at in
      let second = both_there (slice_get fermions k) (coordinates_at (scalars ∷ []) (a ∷ [])) first.others first.are in
      let third = both_there (slice_get scalars a) (Some []) second.others second.are in
      three_legs (slice_get fermions j) (slice_get fermions k) (slice_get scalars a) first.first second.first third.first
  fermion_legs_are (suc side) j k a cs at =
      let fermions = fermion_coordinates model in
      let scalars = scalar_coordinates model in
      let others = map of_conjugate fermions in
      let first = both_there (slice_get fermions j) (coordinates_at (fermions ∷ scalars ∷ []) (k ∷ a ∷ [])) cs at in
      let second = both_there (slice_get fermions k) (coordinates_at (scalars ∷ []) (a ∷ [])) first.others first.are in
      let third = both_there (slice_get scalars a) (Some []) second.others second.are in
      three_legs (slice_get others j) (slice_get others k) (slice_get scalars a) (conjugate_there fermions j first.first) (conjugate_there fermions k second.first) third.first

  scalar_legs_at : (a b c d : ℕ) → AreLegs Scalar (a ∷ b ∷ c ∷ d ∷ [])
  unfolding legs_from
  scalar_legs_at a b c d cs at =
      let leg = scalar_coordinates model in
      let first = both_there (slice_get leg a) (coordinates_at (leg ∷ leg ∷ leg ∷ []) (b ∷ c ∷ d ∷ [])) cs at in
      let second = both_there (slice_get leg b) (coordinates_at (leg ∷ leg ∷ []) (c ∷ d ∷ [])) first.others first.are in
      let third = both_there (slice_get leg c) (coordinates_at (leg ∷ []) (d ∷ [])) second.others second.are in
      let fourth = both_there (slice_get leg d) (Some []) third.others third.are in
      four_legs (slice_get leg a) (slice_get leg b) (slice_get leg c) (slice_get leg d) first.first second.first third.first fourth.first

  -- the legs of a component
  pub component_legs_are : (kind : TermKind) (key : List ℕ) → HasCoordinates model kind key → component_legs model kind (side ∷ key) ≡ legs_from model kind side 0 key
  component_legs_are Fermion key inside =
      of_three (AreLegs Fermion) (λ j k a. fermion_legs_are side j k a) key ((key_length (legs_of model Fermion) key inside.coordinates inside.at).0 ∙ leg_number model Fermion) inside.coordinates inside.at
  component_legs_are Scalar key inside =
      of_four (AreLegs Scalar) scalar_legs_at key ((key_length (legs_of model Scalar) key inside.coordinates inside.at).0 ∙ leg_number model Scalar) inside.coordinates inside.at

  length-legs_from : (kind : TermKind) (leg : ℕ) (key : List ℕ) → length (legs_from model kind side leg key) ≡ length key
  unfolding legs_from
  length-legs_from kind leg [] = refl
  length-legs_from kind leg (p ∷ key) = ap suc (length-legs_from kind (suc leg) key)

  one_leg : (kind : TermKind) (leg : ℕ) (key : List ℕ) (i : ℕ) (d : Leg) → i < length key → get_or (legs_from model kind side leg key) i d ≡ leg_of_place model kind side (leg + i) (get_or key i 0)
  unfolding legs_from
  one_leg kind leg [] i d within = absurd (omega (arith, within))
  one_leg kind leg (p ∷ key) zero d within = let same : leg ≡ leg + 0 = omega arith in ap (λ l. leg_of_place model kind side l p) same
  one_leg kind leg (p ∷ key) (suc i) d within =
      let same : suc leg + i ≡ leg + suc i = omega arith in
      one_leg kind (suc leg) key i d (omega (arith, within)) ∙ ap (λ l. leg_of_place model kind side l (get_or key i 0)) same

  -- one leg more
  pub legs_step : (kind : TermKind) (key : List ℕ) (i : ℕ) (legs new : List Leg) (r : Leg) → i < length key → legs ≡ take i (legs_from model kind side 0 key) → r ≡ leg_of_place model kind side i (get_or key i 0) → new ≡ legs ++ r ∷ []
      → new ≡ take (i + 1) (legs_from model kind side 0 key)
  legs_step kind key i legs new r within so_far is next =
      let all = legs_from model kind side 0 key in
      let inside : i < length all = subst (λ n. i < n) (sym (length-legs_from kind 0 key)) within in
      let plain : 0 + i ≡ i = omega arith in
      let here : r ≡ get_or all i r = is ∙ ap (λ l. leg_of_place model kind side l (get_or key i 0)) (sym plain) ∙ sym (one_leg kind 0 key i r within) in
      next ∙ ap₂ (λ front leg. front ++ leg ∷ []) so_far here ∙ sym (take_more all i r inside)

  -- all legs
  pub legs_end : (kind : TermKind) (key : List ℕ) (i : ℕ) (legs : List Leg) → HasCoordinates model kind key → length key ≤ i → legs ≡ take i (legs_from model kind side 0 key) → legs ≡ component_legs model kind (side ∷ key)
  legs_end kind key i legs inside over so_far =
      so_far ∙ take_all i (legs_from model kind side 0 key) (subst (λ n. n ≤ i) (sym (length-legs_from kind 0 key)) over) ∙ sym (component_legs_are kind key inside)

-- a component has at most four legs
pub few_legs : (model : Model) (kind : TermKind) (key : List ℕ) → HasCoordinates model kind key → length key ≤ 4
few_legs model Fermion key inside = let counted = (key_length (legs_of model Fermion) key inside.coordinates inside.at).0 in omega (arith, counted, leg_number model Fermion)
few_legs model Scalar key inside = let counted = (key_length (legs_of model Scalar) key inside.coordinates inside.at).0 in omega (arith, counted, leg_number model Scalar)

-- there is room for one leg more
pub legs_room : (model : Model) (kind : TermKind) (side : ℕ) (key : List ℕ) (i : ℕ) (legs : List Leg) → HasCoordinates model kind key → i < length key → legs ≡ take i (legs_from model kind side 0 key) → length legs < 4
legs_room model kind side key i legs inside within so_far =
    let few = few_legs model kind key inside in
    let short : length legs ≤ i = subst (λ ls. length ls ≤ i) (sym so_far) (length-take-le-bound i (legs_from model kind side 0 key)) in
    omega (arith, few, short, within)
  where
    length-take-le-bound : (i : ℕ) (xs : List Leg) → length (take i xs) ≤ i
    length-take-le-bound zero xs = omega arith
    length-take-le-bound (suc i) [] = omega arith
    length-take-le-bound (suc i) (x ∷ xs) = let rest = length-take-le-bound i xs in omega (arith, rest)
