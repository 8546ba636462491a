-- The X_ij of an SU(n) on the coordinates of each kind of leg obey the Lie algebra.
use Rattle.std.proofs.Common.{◌≡◌, ℕ, zero, suc, ◌+◌, ◌<◌, ◌≤◌, Bool, true, false, cond, List, [], ◌∷◌, ◌++◌, map, Some, refl, sym, subst, ap, ap₂, ◌∙◌, arith, inl, inr}
use Rattle.std.specs.Prelude.{◌&&◌, ◌||◌, ◌==◌, not, slice_get, ⊤}
use Rattle.std.specs.List.{flat_map, list_any, range_with_len}
use Rattle.std.specs.Str.{bytes_eq}
use Rattle.std.proofs.lemmas.Bool.Decides.{nat_tests}
use Rattle.std.proofs.lemmas.List.Folds.{list_any-append}
use Rattle.std.proofs.lemmas.Slice.Eq.{bytes_eq-Decides}
use mathlib.Core.Path.{fun_ext}
use Rattle.frac128.specs.Rational.{zero_ℚ, neg_ℚ, ◌*ℚ◌}
use Rattle.su_reps.specs.Tuples.{same}
use Rattle.model_core.specs.declared.group.Group.{Group}
use Rattle.model_core.specs.declared.field.Field.{Field}
use Rattle.model_core.specs.declared.model.Model.{Model}
use Rattle.model_core.specs.declared.term.TermKind.{TermKind}
use Rattle.model_core.specs.declared.term.TermKind.TheVariants.{Fermion, Scalar}
use Rattle.model_core.specs.Component.{Component, are_copies, copies_of, fermion_components, same_side, slot_sizes, tuples}
use Rattle.model_core.specs.Generators.{coordinate_generator, entry_between, generator_at}
use Rattle.model_core.specs.Invariance.{legs_on, of_conjugate}
use Rattle.model_core.specs.Scalar.{Coordinate, coordinates_of, scalar_components, scalar_coordinates}
use Rattle.model_core.specs.Scalar.Coordinate.{Of, Dummy}
use Rattle.model_core.specs.TermTensor.{fermion_coordinates}
use Rattle.model_core.specs.Valid.{IsValid, are_distinct, field_name, group_names, has_few_components, has_valid_parts, names_of, table_name, term_name}
use Rattle.model_core.proofs.ValidLaws.{both, valid_names}
use Rattle.neighbour_laws.specs.Neighbours.{special_generator}
use Rattle.neighbour_laws.proofs.GroupAlgebra.{on_tuples, tuple-algebra}
use Rattle.neighbour_laws.proofs.ListAlgebra.{AreApart, ArePartsApart, Family, IsAlgebra, algebra-append, algebra-flat_map, algebra-map, algebra-same, algebra-single, algebra-turned}
use Rattle.neighbour_laws.proofs.Members.{IsIn, in-append, in-flat_map, in-map, in-range}

-- ---- distinct names

-- in each part of a list without repeats no text stands twice
distinct_right : (xs ys : List (List ℕ)) → are_distinct (xs ++ ys) ≡ true → are_distinct ys ≡ true
distinct_right [] ys h = h
distinct_right (x ∷ xs) ys h = distinct_right xs ys (both (not (list_any (bytes_eq x) (xs ++ ys))) (are_distinct (xs ++ ys)) h).1

none_left : (a b : Bool) → not (a || b) ≡ true → not a ≡ true
none_left true b h = h
none_left false b h = refl

distinct_left : (xs ys : List (List ℕ)) → are_distinct (xs ++ ys) ≡ true → are_distinct xs ≡ true
distinct_left [] ys h = refl
distinct_left (x ∷ xs) ys h =
    let parts = both (not (list_any (bytes_eq x) (xs ++ ys))) (are_distinct (xs ++ ys)) h in
    ap₂ ◌&&◌ (none_left (list_any (bytes_eq x) xs) (list_any (bytes_eq x) ys) (ap not (sym (list_any-append (bytes_eq x) xs ys)) ∙ parts.0)) (distinct_left xs ys parts.1)

-- the names of groups, fermions and scalars
field_names : (model : Model) → IsValid model → are_distinct (flat_map group_names model.groups ++ map field_name model.fermions ++ map field_name model.scalars) ≡ true
field_names model valid =
    let fields = flat_map group_names model.groups ++ map field_name model.fermions ++ map field_name model.scalars in
    distinct_left fields (map table_name model.tables) (distinct_left (fields ++ map table_name model.tables) (map term_name model.terms)
    (both (has_valid_parts model && has_few_components model) (are_distinct (names_of model)) (valid_names model valid)).1)

-- the fermions of a valid model have different names, and so have its scalars
fermion_names : (model : Model) → IsValid model → are_distinct (map field_name model.fermions) ≡ true
fermion_names model valid =
    let groups = flat_map group_names model.groups in
    distinct_right groups (map field_name model.fermions) (distinct_left (groups ++ map field_name model.fermions) (map field_name model.scalars) (field_names model valid))

scalar_names : (model : Model) → IsValid model → are_distinct (map field_name model.scalars) ≡ true
scalar_names model valid =
    distinct_right (flat_map group_names model.groups ++ map field_name model.fermions) (map field_name model.scalars) (field_names model valid)

-- ---- tests

own_side : (b : Bool) → same_side b b ≡ true
own_side true = refl
own_side false = refl

never_both : (b : Bool) → (b && false) ≡ false
never_both true = refl
never_both false = refl

-- none of two tests holds
neither : (a b : Bool) → not (a || b) ≡ true → (a ≡ false) × (not b ≡ true)
neither true b h = let never : ⊥ = cc in absurd never
neither false b h = (refl, h)

-- no test with the name in either order
module _ (name : List ℕ) where
  other_name : (fields : List Field) (field : Field) → not (list_any (bytes_eq name) (map field_name fields)) ≡ true → IsIn field fields → bytes_eq name field.name ≡ false
  other_name [] field none there = absurd there
  other_name (first ∷ fields) field none (inl e) = ap (λ f. bytes_eq name f.name) e ∙ (neither (bytes_eq name first.name) (list_any (bytes_eq name) (map field_name fields)) none).0
  other_name (first ∷ fields) field none (inr there) = other_name fields field (neither (bytes_eq name first.name) (list_any (bytes_eq name) (map field_name fields)) none).1 there

turned_name : (a b : List ℕ) → bytes_eq a b ≡ false → bytes_eq b a ≡ false
turned_name a b apart = grind (arith, bytes_eq-Decides)

module _ (groups : List Group) (place : ℕ) where
  -- X_ij on components
  abbrev pub on_components : Family Component
  on_components i j c d = generator_at groups (special_generator place i j) c d

  -- it is 0 between components that aren't copies
  apart_by : (c d : Component) → are_copies c d ≡ false → are_copies d c ≡ false → AreApart on_components c d
  apart_by c d first second i j =
      (ap (λ b. cond b (entry_between groups (special_generator place i j) c d) zero_ℚ) first, ap (λ b. cond b (entry_between groups (special_generator place i j) d c) zero_ℚ) second)

  -- as are those of fields with different names, of different sides, or of different generations
  apart_names : (c d : Component) → bytes_eq c.field.name d.field.name ≡ false → AreApart on_components c d
  apart_names c d apart =
      apart_by c d (ap (λ b. (b && same_side c.conj d.conj) && c.generation == d.generation) apart) (ap (λ b. (b && same_side d.conj c.conj) && d.generation == c.generation) (turned_name c.field.name d.field.name apart))

  apart_sides : (c d : Component) → same_side c.conj d.conj ≡ false → same_side d.conj c.conj ≡ false → AreApart on_components c d
  apart_sides c d first second =
      apart_by c d
      (ap (λ b. (bytes_eq c.field.name d.field.name && b) && c.generation == d.generation) first ∙ ap (λ b. b && c.generation == d.generation) (never_both (bytes_eq c.field.name d.field.name)))
      (ap (λ b. (bytes_eq d.field.name c.field.name && b) && d.generation == c.generation) second ∙ ap (λ b. b && d.generation == c.generation) (never_both (bytes_eq d.field.name c.field.name)))

  apart_generations : (c d : Component) → c.generation < d.generation → AreApart on_components c d
  apart_generations c d less =
      let first : (c.generation == d.generation) ≡ false = grind (arith, nat_tests) in
      let second : (d.generation == c.generation) ≡ false = grind (arith, nat_tests) in
      apart_by c d
      (ap (λ b. (bytes_eq c.field.name d.field.name && same_side c.conj d.conj) && b) first ∙ never_both (bytes_eq c.field.name d.field.name && same_side c.conj d.conj))
      (ap (λ b. (bytes_eq d.field.name c.field.name && same_side d.conj c.conj) && b) second ∙ never_both (bytes_eq d.field.name c.field.name && same_side d.conj c.conj))

  module _ (group : Group) (found : slice_get groups place ≡ Some group) (positive : 1 ≤ group.n) where
    -- ---- a field

    module _ (conj : Bool) (field : Field) where
      abbrev component : ℕ → List ℕ → Component
      component g p = record { field = field; conj = conj; generation = g; values = p }

      abbrev indices : List (List ℕ)
      indices = tuples (slot_sizes groups field.reps)

      abbrev copies : ℕ → List Component
      copies g = map (component g) indices

      -- in one generation
      own_copy : (g : ℕ) (p q : List ℕ) → are_copies (component g p) (component g q) ≡ true
      own_copy g p q =
          let name : bytes_eq field.name field.name ≡ true = grind (arith, bytes_eq-Decides) in
          let generation : (g == g) ≡ true = grind (arith, nat_tests) in
          ap₂ ◌&&◌ (ap₂ ◌&&◌ name (own_side conj)) generation

      positive_test : (i : ℕ) → 1 ≤ i → (i == 0) ≡ false
      positive_test i h = grind (arith, nat_tests)

      -- the matrix on the field itself
      abbrev own_matrix : Family (List ℕ)
      own_matrix i j p q = cond conj (neg_ℚ (on_tuples groups field.reps place i j q p)) (on_tuples groups field.reps place i j p q)

      entry : (g i j : ℕ) → 1 ≤ i → (p q : List ℕ) → on_components i j (component g p) (component g q) ≡ own_matrix i j p q
      entry g i j low p q =
          ap (λ b. cond b (entry_between groups (special_generator place i j) (component g p) (component g q)) zero_ℚ) (own_copy g p q)
          ∙ ap (λ b. cond conj (neg_ℚ (cond b (field.charge *ℚ same q p) (on_tuples groups field.reps place i j q p))) (cond b (field.charge *ℚ same p q) (on_tuples groups field.reps place i j p q))) (positive_test i low)

      generation-algebra : (g : ℕ) → IsAlgebra group.n own_matrix indices → IsAlgebra group.n on_components (copies g)
      generation-algebra g given =
          algebra-map group.n on_components (component g) indices
          (algebra-same group.n own_matrix (λ i j p q. on_components i j (component g p) (component g q)) indices (λ i j low p q. entry g i j low p q) given)

      -- all generations
      later_apart : (low n : ℕ) (c d : Component) → IsIn c (copies low) → IsIn d (flat_map copies (range_with_len (low + 1) n)) → AreApart on_components c d
      later_apart low n c d here there =
          let first = in-map (component low) c indices here in
          let block = in-flat_map copies d (range_with_len (low + 1) n) there in
          let second = in-map (component block.0) d indices block.2 in
          let later = in-range block.0 (low + 1) n block.1 in
          let one : c.generation ≡ low = ap (λ x. x.generation) first.2 in
          let other : d.generation ≡ block.0 = ap (λ x. x.generation) second.2 in
          apart_generations c d (omega (arith, one, other, later.0))

      generations_apart : (low n : ℕ) → ArePartsApart group.n on_components copies (range_with_len low n)
      generations_apart low zero = tt
      generations_apart low (suc n) = (later_apart low n, generations_apart (low + 1) n)

      field-algebra_from : IsAlgebra group.n own_matrix indices → IsAlgebra group.n on_components (copies_of conj groups field)
      field-algebra_from given =
          algebra-flat_map group.n on_components copies (range_with_len 1 field.generations) (λ g there. generation-algebra g given) (generations_apart 1 field.generations)

      -- a component of the field
      field_is : (c : Component) → IsIn c (copies_of conj groups field) → (c.field ≡ field) × (c.conj ≡ conj)
      field_is c there =
          let block = in-flat_map copies c (range_with_len 1 field.generations) there in
          let image = in-map (component block.0) c indices block.2 in
          (ap (λ x. x.field) image.2, ap (λ x. x.conj) image.2)

    field-algebra : (conj : Bool) (field : Field) → IsAlgebra group.n on_components (copies_of conj groups field)
    field-algebra false field = field-algebra_from false field (tuple-algebra groups field.reps place group found positive)
    field-algebra true field =
        field-algebra_from true field (algebra-turned group.n (on_tuples groups field.reps place) (tuples (slot_sizes groups field.reps)) (tuple-algebra groups field.reps place group found positive))

    -- ---- a scalar

    sides_apart : (field : Field) (c d : Component) → IsIn c (copies_of false groups field) → IsIn d (copies_of true groups field) → AreApart on_components c d
    sides_apart field c d here there =
        let first = (field_is false field c here).1 in
        let second = (field_is true field d there).1 in
        apart_sides c d (ap₂ same_side first second) (ap₂ same_side second first)

    scalar-algebra : (field : Field) → IsAlgebra group.n on_components (coordinates_of groups field)
    scalar-algebra field = by_kind field.real
      where
        by_kind : (real : Bool) → IsAlgebra group.n on_components (cond real (copies_of false groups field) (copies_of false groups field ++ copies_of true groups field))
        by_kind true = field-algebra false field
        by_kind false = algebra-append group.n on_components (copies_of false groups field) (copies_of true groups field) (sides_apart field) (field-algebra false field) (field-algebra true field)

    scalar_is : (field : Field) (c : Component) → IsIn c (coordinates_of groups field) → c.field ≡ field
    scalar_is field c there = by_kind field.real there
      where
        by_kind : (real : Bool) → IsIn c (cond real (copies_of false groups field) (copies_of false groups field ++ copies_of true groups field)) → c.field ≡ field
        by_kind true h = (field_is false field c h).0
        by_kind false h = elim (in-append c (copies_of false groups field) (copies_of true groups field) h) [
          | inl plain ↦ (field_is false field c plain).0
          | inr conjugate ↦ (field_is true field c conjugate).0
        ]

    -- ---- fields with different names

    module _ (parts : Field → List Component) (is : (field : Field) (c : Component) → IsIn c (parts field) → c.field ≡ field) where
      others_apart : (field : Field) (fields : List Field) → not (list_any (bytes_eq field.name) (map field_name fields)) ≡ true
          → (c d : Component) → IsIn c (parts field) → IsIn d (flat_map parts fields) → AreApart on_components c d
      others_apart field fields distinct c d here there =
          let block = in-flat_map parts d fields there in
          apart_names c d (ap₂ (λ x y. bytes_eq x.name y.name) (is field c here) (is block.0 d block.2) ∙ other_name field.name fields block.0 distinct block.1)

      fields_apart : (fields : List Field) → are_distinct (map field_name fields) ≡ true → ArePartsApart group.n on_components parts fields
      fields_apart [] distinct = tt
      fields_apart (field ∷ fields) distinct =
          let tests = both (not (list_any (bytes_eq field.name) (map field_name fields))) (are_distinct (map field_name fields)) distinct in
          (others_apart field fields tests.0, fields_apart fields tests.1)

      fields-algebra : (fields : List Field) → are_distinct (map field_name fields) ≡ true → ((field : Field) → IsAlgebra group.n on_components (parts field)) → IsAlgebra group.n on_components (flat_map parts fields)
      fields-algebra fields distinct each = algebra-flat_map group.n on_components parts fields (λ field there. each field) (fields_apart fields distinct)

    -- ---- coordinates

    abbrev pub on_coordinates : Family Coordinate
    on_coordinates i j c d = coordinate_generator groups (special_generator place i j) c d

    dummy_right : (i j : ℕ) (c : Coordinate) → on_coordinates i j c Dummy ≡ zero_ℚ
    dummy_right i j (Of c) = refl
    dummy_right i j Dummy = refl

    -- components as coordinates
    coordinates-algebra : (components : List Component) → IsAlgebra group.n on_components components → IsAlgebra group.n on_coordinates (map Of components)
    coordinates-algebra components given = algebra-map group.n on_coordinates Of components given

    -- and the dummy
    with_dummy-algebra : (components : List Component) → IsAlgebra group.n on_components components → IsAlgebra group.n on_coordinates (map Of components ++ Dummy ∷ [])
    with_dummy-algebra components given =
        algebra-append group.n on_coordinates (map Of components) (Dummy ∷ []) (λ c d here there i j. elim there [
          | inl e ↦ (ap (on_coordinates i j c) e ∙ dummy_right i j c, ap (λ x. on_coordinates i j x c) e)
          | inr h ↦ absurd h
        ]) (coordinates-algebra components given) (algebra-single group.n on_coordinates Dummy (λ i j. refl))

-- ---- the conjugates

map-map : {A B C : Type 0} (g : B → C) (f : A → B) (xs : List A) → map g (map f xs) ≡ map (λ x. g (f x)) xs
map-map g f [] = refl
map-map g f (x ∷ xs) = ap (λ ys. g (f x) ∷ ys) (map-map g f xs)

map-append : {A B : Type 0} (g : A → B) (xs ys : List A) → map g (xs ++ ys) ≡ map g xs ++ map g ys
map-append g [] ys = refl
map-append g (x ∷ xs) ys = ap (λ zs. g x ∷ zs) (map-append g xs ys)

map-flat_map : {A B C : Type 0} (g : B → C) (f : A → List B) (xs : List A) → map g (flat_map f xs) ≡ flat_map (λ x. map g (f x)) xs
map-flat_map g f [] = refl
map-flat_map g f (x ∷ xs) = map-append g (f x) (flat_map f xs) ∙ ap (λ ys. map g (f x) ++ ys) (map-flat_map g f xs)

-- a function of the components of fields, by field, generation and tuple
each_component : {B : Type 0} (h : Component → B) (conj : Bool) (groups : List Group) (fields : List Field)
    → map h (flat_map (copies_of conj groups) fields)
    ≡ flat_map (λ field. flat_map (λ g. map (λ p. h (record { field = field; conj = conj; generation = g; values = p })) (tuples (slot_sizes groups field.reps))) (range_with_len 1 field.generations)) fields
each_component h conj groups fields =
    map-flat_map h (copies_of conj groups) fields
    ∙ ap (λ f. flat_map f fields) (fun_ext (λ field.
    map-flat_map h (λ g. map (λ p. record { field = field; conj = conj; generation = g; values = p }) (tuples (slot_sizes groups field.reps))) (range_with_len 1 field.generations)
    ∙ ap (λ f. flat_map f (range_with_len 1 field.generations)) (fun_ext (λ g. map-map h (λ p. record { field = field; conj = conj; generation = g; values = p }) (tuples (slot_sizes groups field.reps))))))

conjugates_are : (model : Model) → map of_conjugate (fermion_coordinates model) ≡ map Of (flat_map (copies_of true model.groups) model.fermions)
conjugates_are model =
    map-map of_conjugate Of (fermion_components model)
    ∙ each_component (λ c. of_conjugate (Of c)) false model.groups model.fermions
    ∙ sym (each_component Of true model.groups model.fermions)

-- ---- legs

module _ (model : Model) (valid : IsValid model) (place : ℕ) (group : Group) (found : slice_get model.groups place ≡ Some group) (positive : 1 ≤ group.n) where
  -- the Lie algebra on a leg
  abbrev pub IsLegAlgebra : List Coordinate → Type 0
  IsLegAlgebra leg = IsAlgebra group.n (λ i j. coordinate_generator model.groups (special_generator place i j)) leg

  fermion-algebra : (conj : Bool) → IsLegAlgebra (map Of (flat_map (copies_of conj model.groups) model.fermions))
  fermion-algebra conj =
      coordinates-algebra model.groups place group found positive (flat_map (copies_of conj model.groups) model.fermions)
      (fields-algebra model.groups place group found positive (copies_of conj model.groups) (λ field c there. (field_is model.groups place group found positive conj field c there).0) model.fermions (fermion_names model valid)
      (field-algebra model.groups place group found positive conj))

  conjugate-algebra : IsLegAlgebra (map of_conjugate (fermion_coordinates model))
  conjugate-algebra = subst IsLegAlgebra (sym (conjugates_are model)) (fermion-algebra true)

  scalars-algebra : IsLegAlgebra (scalar_coordinates model)
  scalars-algebra =
      with_dummy-algebra model.groups place group found positive (scalar_components model)
      (fields-algebra model.groups place group found positive (coordinates_of model.groups) (scalar_is model.groups place group found positive) model.scalars (scalar_names model valid)
      (scalar-algebra model.groups place group found positive))

  -- on each leg of a block
  abbrev pub AreLegAlgebras : List (List Coordinate) → Type 0
  AreLegAlgebras [] = ⊤
  AreLegAlgebras (leg ∷ legs) = IsLegAlgebra leg × AreLegAlgebras legs

  pub leg-algebras : (kind : TermKind) (side : ℕ) → AreLegAlgebras (legs_on model kind side)
  leg-algebras Fermion zero = (fermion-algebra false, (fermion-algebra false, (scalars-algebra, tt)))
  leg-algebras Fermion (suc side) = (conjugate-algebra, (conjugate-algebra, (scalars-algebra, tt)))
  leg-algebras Scalar side = (scalars-algebra, (scalars-algebra, (scalars-algebra, (scalars-algebra, tt))))
