-- The coordinates of a valid model: each has its partner among them, and a place is told by its coordinate.
use Rattle.std.proofs.Common.{◌≡◌, ℕ, zero, suc, ◌+◌, ◌-◌, ◌*◌, ◌/◌, ◌%◌, ◌<◌, ◌≤◌, Bool, true, false, List, [], ◌∷◌, ◌++◌, map, take, drop, length, length-append, get_or, Some, refl, sym, ap, ap₂, subst, ◌∙◌, arith, inl, inr}
use Rattle.std.specs.Prelude.{◌==◌, ◌&&◌, ◌||◌, ◌⊎◌, not, nat_lt, slice_get, option_map}
use Rattle.std.specs.List.{flat_map, list_all, list_any}
use Rattle.std.specs.Str.{bytes_eq}
use Rattle.std.proofs.lemmas.Bool.{cases_Bool}
use Rattle.std.proofs.lemmas.Bool.Decides.{nat_tests}
use Rattle.std.proofs.lemmas.List.Folds.{list_any-append}
use Rattle.std.proofs.lemmas.Option.{slice_get_within, get_or_from_slice_get}
use Rattle.std.proofs.lemmas.Slice.Eq.{bytes_eq-Decides}
use Rattle.exact_algebra.specs.Blocks.{slice_get-map_some}
use Rattle.model_core.specs.declared.group.Group.{Group}
use Rattle.model_core.specs.declared.field.Field.{Field}
use Rattle.model_core.specs.declared.model.Model.{Model}
use Rattle.model_core.specs.Component.{Component, slot_sizes, tuples, copies_of, components_of, fermion_components}
use Rattle.model_core.specs.Place.{tuple_at, are_pairs}
use Rattle.model_core.specs.Scalar.{Coordinate, coordinates_of, scalar_components, scalar_coordinates, swapped_pairs, partner_component, partner, IsPartner}
use Rattle.model_core.specs.Scalar.Coordinate.{Of, Dummy}
use Rattle.model_core.specs.TermTensor.{fermion_coordinates}
use Rattle.model_core.specs.Valid.{is_field, is_real_rep, is_own_conjugate, is_scalar, are_distinct, group_names, field_name, table_name, term_name, names_of, has_valid_parts, has_few_components, IsValid}
use Rattle.model_core.proofs.ValidLaws.{both, valid_names, valid_parts, parts_scalars}
use Rattle.model_core.proofs.TupleLaws.{length-tuples, by_parts, tuples_positive}
use Rattle.model_core.proofs.CountLaws.{component_at}
use Rattle.model_core.proofs.PairLaws.{pair_step, real_sizes}
use Rattle.model_core.proofs.ScalarLaws.{real_coordinates, complex_coordinates, scalar_passes}
use Rattle.model_core.proofs.PartnerLaws.{real_partner_of, complex_partner_of, real_partner_at, plain_partner_at, conjugate_partner_at, partner_at}

-- ---- the partner of a partner

swapped_twice : (values : List ℕ) → swapped_pairs (swapped_pairs values) ≡ values
swapped_twice [] = refl
swapped_twice (a ∷ []) = refl
swapped_twice (a ∷ b ∷ values) = ap (λ rest. a ∷ b ∷ rest) (swapped_twice values)

not_twice : (b : Bool) → not (not b) ≡ b
not_twice true = refl
not_twice false = refl

component_twice : (c : Component) (real : Bool) → c.field.real ≡ real → partner_component (partner_component c) ≡ c
component_twice c true e =
    ap partner_component (real_partner_of c e)
    ∙ real_partner_of (record { field = c.field; conj = c.conj; generation = c.generation; values = swapped_pairs c.values }) e
    ∙ ap (λ values. record { field = c.field; conj = c.conj; generation = c.generation; values = values }) (swapped_twice c.values)
component_twice c false e =
    ap partner_component (complex_partner_of c e)
    ∙ complex_partner_of (record { field = c.field; conj = not c.conj; generation = c.generation; values = c.values }) e
    ∙ ap (λ conj. record { field = c.field; conj = conj; generation = c.generation; values = c.values }) (not_twice c.conj)

-- a coordinate is the partner of its partner
pub partner_twice : (c : Coordinate) → partner (partner c) ≡ c
partner_twice (Of c) = ap Of (component_twice c c.field.real refl)
partner_twice Dummy = refl

-- ---- where an element of joined lists comes from

module _ {A : Type 0} where
  -- a place is told by what stands there
  abbrev pub TellsPlaces : List A → Type 0
  TellsPlaces xs = (i j : ℕ) (x : A) → slice_get xs i ≡ Some x → slice_get xs j ≡ Some x → i ≡ j

  same_some : (x y : A) → Some x ≡ Some y → x ≡ y
  same_some x y e = cc

  -- it stands in the first list, or in the second
  either_part : (xs ys : List A) (i : ℕ) (x : A) → slice_get (xs ++ ys) i ≡ Some x → (slice_get xs i ≡ Some x) ⊎ ((j : ℕ) × (i ≡ length xs + j) × (slice_get ys j ≡ Some x))
  either_part [] ys i x found = inr (i, omega arith, found)
  either_part (a ∷ xs) ys zero x found = inl found
  either_part (a ∷ xs) ys (suc i) x found = elim (either_part xs ys i x found) [
    | inl first ↦ inl first
    | inr second ↦
        let place = second.1 in
        inr (second.0, omega (arith, place), second.2)
  ]

  -- lists that share nothing tell places together where each does
  tells-append : (xs ys : List A) → TellsPlaces xs → TellsPlaces ys → ((i j : ℕ) (x : A) → slice_get xs i ≡ Some x → slice_get ys j ≡ Some x → ⊥) → TellsPlaces (xs ++ ys)
  tells-append xs ys first second apart i j x here there = by_parts_of (either_part xs ys i x here) (either_part xs ys j x there)
    where
      by_parts_of : ((slice_get xs i ≡ Some x) ⊎ ((k : ℕ) × (i ≡ length xs + k) × (slice_get ys k ≡ Some x))) → ((slice_get xs j ≡ Some x) ⊎ ((k : ℕ) × (j ≡ length xs + k) × (slice_get ys k ≡ Some x))) → i ≡ j
      by_parts_of (inl a) (inl b) = first i j x a b
      by_parts_of (inl a) (inr b) = absurd (apart i b.0 x a b.2)
      by_parts_of (inr a) (inl b) = absurd (apart j a.0 x b a.2)
      by_parts_of (inr a) (inr b) = a.1 ∙ ap (λ k. length xs + k) (second a.0 b.0 x a.2 b.2) ∙ sym b.1

  nothing_at : (i : ℕ) (x : A) → slice_get [] i ≡ Some x → ⊥
  nothing_at i x found = cc

  one_at : (a : A) (i : ℕ) (x : A) → slice_get (a ∷ []) i ≡ Some x → (i ≡ 0) × (a ≡ x)
  one_at a zero x found = (refl, same_some a x found)
  one_at a (suc i) x found = absurd (nothing_at i x found)

-- an element of an image is the image of one
image_of : {A B : Type 0} (f : A → B) (xs : List A) (i : ℕ) (y : B) → slice_get (map f xs) i ≡ Some y → (x : A) × (slice_get xs i ≡ Some x) × (f x ≡ y)
image_of f [] i y found = absurd (nothing_at i y found)
image_of f (x ∷ xs) zero y found = (x, refl, same_some (f x) y found)
image_of f (x ∷ xs) (suc i) y found = image_of f xs i y found

-- the piece in which an element of `flat_map` stands
record Located {A B : Type 0} (f : A → List B) (xs : List A) (i : ℕ) (y : B) : Type 0 where
  piece : ℕ
  place : ℕ
  item : A
  within : slice_get xs piece ≡ Some item
  found : slice_get (f item) place ≡ Some y
  is : i ≡ length (flat_map f (take piece xs)) + place

later_place : {A : Type 0} (ys zs : List A) (i j k : ℕ) → i ≡ length ys + j → j ≡ length zs + k → i ≡ length (ys ++ zs) + k
later_place ys zs i j k first second = omega (arith, first, second, length-append ys zs)

located : {A B : Type 0} (f : A → List B) (xs : List A) (i : ℕ) (y : B) → slice_get (flat_map f xs) i ≡ Some y → Located f xs i y
located f [] i y found = absurd (nothing_at i y found)
located f (x ∷ xs) i y found = elim (either_part (f x) (flat_map f xs) i y found) [
  | inl here ↦ record { piece = 0; place = i; item = x; within = refl; found = here; is = omega arith }
  | inr later ↦
      let rest = located f xs later.0 y later.2 in
      record {
        piece = suc rest.piece;
        place = rest.place;
        item = rest.item;
        within = rest.within;
        found = rest.found;
        is = later_place (f x) (flat_map f (take rest.piece xs)) i later.0 rest.place later.1 rest.is;
      }
]

-- ---- tuples and components

tuple_told : (sizes : List ℕ) (p q : ℕ) → p < length (tuples sizes) → q < length (tuples sizes) → tuple_at sizes p ≡ tuple_at sizes q → p ≡ q
tuple_told [] p q first second same = omega (arith, first, second)
tuple_told (n ∷ sizes) p q first second same =
    let m = length (tuples sizes) in
    let counted = length-tuples n sizes in
    let here = by_parts n m p (tuples_positive n sizes p first) (omega (arith, first, counted)) in
    let there = by_parts n m q (tuples_positive n sizes q second) (omega (arith, second, counted)) in
    let values : p / m + 1 ≡ q / m + 1 = ap (λ t. get_or t 0 0) same in
    sym here.2
    ∙ ap₂ (λ a b. a * m + b) (omega (arith, values)) (tuple_told sizes (p % m) (q % m) here.1 there.1 (ap (drop 1) same))
    ∙ there.2

-- the component at a place has this field and stands on this side
copy_is : (conj : Bool) (groups : List Group) (field : Field) (i : ℕ) (c : Component) → slice_get (copies_of conj groups field) i ≡ Some c → (c.field ≡ field) × (c.conj ≡ conj)
copy_is conj groups field i c found =
    let sizes = slot_sizes groups field.reps in
    let m = length (tuples sizes) in
    let at = component_at conj groups field i m refl (slice_get_within (copies_of conj groups field) i c found) in
    let same : c ≡ record { field = field; conj = conj; generation = i / m + 1; values = tuple_at sizes (i % m) } = same_some c _ (sym found ∙ at.2) in
    (ap (λ c. c.field) same, ap (λ c. c.conj) same)

copies_told : (conj : Bool) (groups : List Group) (field : Field) → TellsPlaces (copies_of conj groups field)
copies_told conj groups field i j c here there =
    let copies = copies_of conj groups field in
    let sizes = slot_sizes groups field.reps in
    let m = length (tuples sizes) in
    let first = component_at conj groups field i m refl (slice_get_within copies i c here) in
    let second = component_at conj groups field j m refl (slice_get_within copies j c there) in
    let at_first : Component = record { field = field; conj = conj; generation = i / m + 1; values = tuple_at sizes (i % m) } in
    let at_second : Component = record { field = field; conj = conj; generation = j / m + 1; values = tuple_at sizes (j % m) } in
    let same : at_first ≡ at_second = same_some at_first at_second (sym first.2 ∙ here ∙ sym there ∙ second.2) in
    let generations : i / m + 1 ≡ j / m + 1 = ap (λ c. c.generation) same in
    let rests : i % m ≡ j % m = tuple_told sizes (i % m) (j % m) first.1 second.1 (ap (λ c. c.values) same) in
    let whole_first : m * (i / m) + i % m ≡ i = omega arith in
    let whole_second : m * (j / m) + j % m ≡ j = omega arith in
    sym whole_first ∙ ap₂ (λ a b. m * a + b) (omega (arith, generations)) rests ∙ whole_second

sides_apart : (c : Component) → c.conj ≡ false → c.conj ≡ true → ⊥
sides_apart c first second = let never : false ≡ true = sym first ∙ second in cc

-- the coordinates of a scalar tell their places, and have its field
coordinates_told : (groups : List Group) (field : Field) → TellsPlaces (coordinates_of groups field)
coordinates_told groups field = by_kind field.real refl
  where
    by_kind : (real : Bool) → field.real ≡ real → TellsPlaces (coordinates_of groups field)
    by_kind true e = rw (real_coordinates groups field e) (copies_told false groups field)
    by_kind false e =
        rw (complex_coordinates groups field e)
        (tells-append (copies_of false groups field) (copies_of true groups field) (copies_told false groups field) (copies_told true groups field)
        (λ i j c here there. sides_apart c (copy_is false groups field i c here).1 (copy_is true groups field j c there).1))

coordinate_field : (groups : List Group) (field : Field) (i : ℕ) (c : Component) → slice_get (coordinates_of groups field) i ≡ Some c → c.field ≡ field
coordinate_field groups field i c found = by_kind field.real refl
  where
    by_kind : (real : Bool) → field.real ≡ real → c.field ≡ field
    by_kind true e = (copy_is false groups field i c (ap (λ cs. slice_get cs i) (sym (real_coordinates groups field e)) ∙ found)).0
    by_kind false e = elim (either_part (copies_of false groups field) (copies_of true groups field) i c (ap (λ cs. slice_get cs i) (sym (complex_coordinates groups field e)) ∙ found)) [
      | inl first ↦ (copy_is false groups field i c first).0
      | inr second ↦ (copy_is true groups field second.0 c second.2).0
    ]

-- ---- distinct names

any_at : (texts : List (List ℕ)) (i : ℕ) (text : List ℕ) → slice_get texts i ≡ Some text → list_any (bytes_eq text) texts ≡ true
any_at [] i text found = absurd (nothing_at i text found)
any_at (t ∷ texts) zero text found =
    let same : t ≡ text = same_some t text found in
    ap (λ here. here || list_any (bytes_eq text) texts) ((bytes_eq-Decides text t).1 (sym same))
any_at (t ∷ texts) (suc i) text found = ap (λ later. bytes_eq text t || later) (any_at texts i text found) ∙ or_true (bytes_eq text t)
  where
    or_true : (b : Bool) → (b || true) ≡ true
    or_true true = refl
    or_true false = refl

never_both : (b : Bool) → not b ≡ true → b ≡ true → ⊥
never_both true n y = let never : false ≡ true = n in cc
never_both false n y = let never : false ≡ true = y in cc

distinct_told : (texts : List (List ℕ)) → are_distinct texts ≡ true → TellsPlaces texts
distinct_told [] distinct i j text here there = absurd (nothing_at i text here)
distinct_told (t ∷ texts) distinct zero zero text here there = refl
distinct_told (t ∷ texts) distinct zero (suc j) text here there =
    let same : t ≡ text = same_some t text here in
    absurd (never_both (list_any (bytes_eq t) texts) (both _ (are_distinct texts) distinct).0 (ap (λ x. list_any (bytes_eq x) texts) same ∙ any_at texts j text there))
distinct_told (t ∷ texts) distinct (suc i) zero text here there =
    let same : t ≡ text = same_some t text there in
    absurd (never_both (list_any (bytes_eq t) texts) (both _ (are_distinct texts) distinct).0 (ap (λ x. list_any (bytes_eq x) texts) same ∙ any_at texts i text here))
distinct_told (t ∷ texts) distinct (suc i) (suc j) text here there = ap suc (distinct_told texts (both _ (are_distinct texts) distinct).1 i j text here there)

distinct_second : (first second : List (List ℕ)) → are_distinct (first ++ second) ≡ true → are_distinct second ≡ true
distinct_second [] second distinct = distinct
distinct_second (t ∷ first) second distinct = distinct_second first second (both _ (are_distinct (first ++ second)) distinct).1

not_either : (a b : Bool) → not (a || b) ≡ true → not a ≡ true
not_either true b e = e
not_either false b e = refl

distinct_first : (first second : List (List ℕ)) → are_distinct (first ++ second) ≡ true → are_distinct first ≡ true
distinct_first [] second distinct = refl
distinct_first (t ∷ first) second distinct =
    let parts = both (not (list_any (bytes_eq t) (first ++ second))) (are_distinct (first ++ second)) distinct in
    ap₂ ◌&&◌ (not_either (list_any (bytes_eq t) first) (list_any (bytes_eq t) second) (ap not (sym (list_any-append (bytes_eq t) first second)) ∙ parts.0)) (distinct_first first second parts.1)

fields_told : (fields : List Field) → are_distinct (map field_name fields) ≡ true → TellsPlaces fields
fields_told fields distinct i j field here there =
    distinct_told (map field_name fields) distinct i j field.name (slice_get-map_some field_name fields i field here) (slice_get-map_some field_name fields j field there)

-- ---- the legs of a valid model

-- the components of fields with distinct names, where those of each field tell their places and have their field
components_told : (f : Field → List Component) (fields : List Field) → TellsPlaces fields → ((field : Field) → TellsPlaces (f field)) → ((field : Field) (i : ℕ) (c : Component) → slice_get (f field) i ≡ Some c → c.field ≡ field) → TellsPlaces (flat_map f fields)
components_told f fields told each named i j c here there =
    let first = located f fields i c here in
    let second = located f fields j c there in
    let same : first.item ≡ second.item = sym (named first.item first.place c first.found) ∙ named second.item second.place c second.found in
    let pieces : first.piece ≡ second.piece = told first.piece second.piece first.item first.within (second.within ∙ ap Some (sym same)) in
    let places : first.place ≡ second.place = each first.item first.place second.place c first.found (ap (λ field. slice_get (f field) second.place) same ∙ second.found) in
    first.is ∙ ap₂ (λ piece place. length (flat_map f (take piece fields)) + place) pieces places ∙ sym second.is

same_component : (c d : Component) → Of c ≡ Of d → c ≡ d
same_component c d e = cc

image_told : (components : List Component) → TellsPlaces components → TellsPlaces (map Of components)
image_told components told i j x here there =
    let first = image_of Of components i x here in
    let second = image_of Of components j x there in
    told i j first.0 first.1 (second.1 ∙ ap Some (sym (same_component first.0 second.0 (first.2 ∙ sym second.2))))

scalar_names : (model : Model) → IsValid model → are_distinct (flat_map group_names model.groups ++ map field_name model.fermions ++ map field_name model.scalars) ≡ true
scalar_names model valid =
    let fields = flat_map group_names model.groups ++ map field_name model.fermions ++ map field_name model.scalars in
    distinct_first fields (map table_name model.tables)
    (distinct_first (fields ++ map table_name model.tables) (map term_name model.terms)
    (both (has_valid_parts model && has_few_components model) (are_distinct (names_of model)) (valid_names model valid)).1)

-- a fermion component of a valid model tells its place
pub fermion_told : (model : Model) → IsValid model → TellsPlaces (fermion_coordinates model)
fermion_told model valid =
    let groups = flat_map group_names model.groups in
    let names = distinct_second groups (map field_name model.fermions) (distinct_first (groups ++ map field_name model.fermions) (map field_name model.scalars) (scalar_names model valid)) in
    image_told (fermion_components model)
    (components_told (components_of model.groups) model.fermions (fields_told model.fermions names) (copies_told false model.groups) (λ field i c found. (copy_is false model.groups field i c found).0))

no_dummy : (c : Component) → Of c ≡ Dummy → ⊥
no_dummy c e = cc

-- and so does a scalar coordinate
pub scalar_told : (model : Model) → IsValid model → TellsPlaces (scalar_coordinates model)
scalar_told model valid =
    let components = scalar_components model in
    let names = distinct_second (flat_map group_names model.groups ++ map field_name model.fermions) (map field_name model.scalars) (scalar_names model valid) in
    tells-append (map Of components) (Dummy ∷ [])
    (image_told components (components_told (coordinates_of model.groups) model.scalars (fields_told model.scalars names) (coordinates_told model.groups) (coordinate_field model.groups)))
    (λ i j x here there. (one_at Dummy i x here).0 ∙ sym (one_at Dummy j x there).0)
    (λ i j x here there. let image = image_of Of components i x here in no_dummy image.0 (image.2 ∙ sym (one_at Dummy j x there).1))

-- ---- partners among the coordinates

-- the tuple with each pair swapped is among the tuples
swapped_at : (sizes : List ℕ) (place : ℕ) → are_pairs sizes ≡ true → place < length (tuples sizes) → (s : ℕ) × (tuple_at sizes s ≡ swapped_pairs (tuple_at sizes place)) × (s < length (tuples sizes))
swapped_at [] place pairs within = (place, refl, within)
swapped_at (n ∷ []) place pairs within = let never : false ≡ true = pairs in absurd (never_true never)
  where
    never_true : false ≡ true → ⊥
    never_true e = cc
swapped_at (n ∷ m ∷ rest) place pairs within =
    let parts = both (n == m) (are_pairs rest) pairs in
    let test : (n == m) ≡ true = parts.0 in
    let same : n ≡ m = grind (arith, nat_tests) in
    let inside : place < length (tuples (n ∷ n ∷ rest)) = subst (λ k. place < length (tuples (n ∷ k ∷ rest))) (sym same) within in
    let positive = tuples_positive n rest 0 (tuples_positive n (n ∷ rest) place inside) in
    let inner : place % length (tuples rest) < length (tuples rest) = omega (arith, positive) in
    let found = swapped_at rest (place % length (tuples rest)) parts.1 inner in
    let step = pair_step n place found.0 rest inside found.2 found.1 in
    let other = (place / length (tuples rest) % n * n + place / length (tuples rest) / n) * length (tuples rest) + found.0 in
    (other, ap (λ k. tuple_at (n ∷ k ∷ rest) other) (sym same) ∙ step.0 ∙ ap (λ k. swapped_pairs (tuple_at (n ∷ k ∷ rest) place)) same, subst (λ k. other < length (tuples (n ∷ k ∷ rest))) same step.1)

or_second : (a b : Bool) → (not a || b) ≡ true → a ≡ true → b ≡ true
or_second true b e h = e
or_second false b e h = let never : false ≡ true = h in cc

partner_within : (groups : List Group) (field : Field) (place : ℕ) → is_scalar groups field ≡ true → place < length (coordinates_of groups field) → (other : ℕ) × IsPartner (coordinates_of groups field) place other
partner_within groups field place valid within = by_kind field.real refl
  where
    by_kind : (real : Bool) → field.real ≡ real → (other : ℕ) × IsPartner (coordinates_of groups field) place other
    by_kind true e =
        let sizes = slot_sizes groups field.reps in
        let m = length (tuples sizes) in
        let own = or_second field.real (is_own_conjugate field) (both (is_field groups field) (not field.real || is_own_conjugate field) valid).1 e in
        let pairs = real_sizes groups field.reps (both (list_all is_real_rep field.reps) _ own).0 in
        let inside : place < length (copies_of false groups field) = omega (arith, within, ap length (real_coordinates groups field e)) in
        let at = component_at false groups field place m refl inside in
        let found = swapped_at sizes (place % m) pairs at.1 in
        (place / m * m + found.0, real_partner_at groups field place m found.0 e refl within found.2 found.1)
    by_kind false e =
        let count = length (copies_of false groups field) in
        elim (cases_Bool (nat_lt place count)) [
          | inl plain ↦
              let before : place < count = grind (arith, nat_tests) in
              (place + count, plain_partner_at groups field place count e refl before)
          | inr conjugate ↦
              let behind : count ≤ place = grind (arith, nat_tests) in
              (place - count, conjugate_partner_at groups field place count e refl behind within)
        ]

-- the partner of a valid model's scalar coordinate has a place
pub partner_place : (model : Model) → IsValid model → (place : ℕ) (c : Coordinate) → slice_get (scalar_coordinates model) place ≡ Some c → (other : ℕ) × (slice_get (scalar_coordinates model) other ≡ Some (partner c))
partner_place model valid place c found = elim (either_part (map Of (scalar_components model)) (Dummy ∷ []) place c found) [
  | inl inside ↦
      let image = image_of Of (scalar_components model) place c inside in
      let at = located (coordinates_of model.groups) model.scalars place image.0 image.1 in
      let field = at.item in
      let is : get_or model.scalars at.piece field ≡ field = get_or_from_slice_get model.scalars at.piece field field at.within in
      let within : at.piece < length model.scalars = slice_get_within model.scalars at.piece field at.within in
      let passes = scalar_passes model.groups model.scalars at.piece field field (parts_scalars model (valid_parts model valid)) within (sym is) in
      let pair = partner_within model.groups field at.place passes (slice_get_within (coordinates_of model.groups field) at.place image.0 at.found) in
      let before = length (flat_map (coordinates_of model.groups) (take at.piece model.scalars)) in
      (before + pair.0, partner_at model at.piece place before at.place pair.0 field within refl at.is (subst (λ f. IsPartner (coordinates_of model.groups f) at.place pair.0) (sym is) pair.1) ∙ ap (option_map partner) found)
  | inr behind ↦
      let one = one_at Dummy behind.0 c behind.2 in
      (place, found ∙ ap Some (sym one.1 ∙ ap partner one.1))
]
