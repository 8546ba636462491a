-- The lists of a model's components: the steps of the code that makes them, and which component of a field stands at a place.
use Rattle.std.proofs.Common.{◌≡◌, ℕ, zero, suc, ◌+◌, ◌<◌, ◌≤◌, ◌^◌, Bool, true, false, cond, List, [], ◌∷◌, ◌++◌, map, length, take, Some, refl, sym, subst, ap, ◌∙◌, arith}
use Rattle.std.specs.Prelude.{⊤, slice_get}
use Rattle.std.specs.List.{flat_map, range_with_len}
use Rattle.std.proofs.Math.Seq.{take-suc}
use Rattle.std.proofs.lemmas.Option.{slice_get_within, get_or_from_slice_get}
use Rattle.std.proofs.lemmas.List.{append_assoc, map-append}
use Rattle.model_core.specs.declared.group.Group.{Group}
use Rattle.model_core.specs.declared.field.Field.{Field}
use Rattle.model_core.specs.declared.model.Model.{Model}
use Rattle.model_core.specs.declared.component_lists.FieldComponent.{FieldComponent}
use Rattle.model_core.specs.Component.{Component, tuples, slot_sizes, copies_of, components_of, fermion_components}
use Rattle.model_core.specs.Scalar.{coordinates_of, scalar_components}
use Rattle.model_core.specs.ComponentLists.{placed, fermions_from, scalars_from, fermion_list, scalar_list}
use Rattle.model_core.specs.Valid.{IsValid}
use Rattle.model_core.proofs.CountLaws.{component_of}
use Rattle.model_core.proofs.ValidLaws.{valid_count, valid_scalar_count}

-- ---- steps

-- a further image behind those of the elements before
pub next_image : {A B : Type 0} (g : A → B) (before from to : List B) (xs : List A) (k : ℕ) (x : A) → from ≡ before ++ map g (take k xs) → slice_get xs k ≡ Some x → to ≡ from ++ g x ∷ []
    → to ≡ before ++ map g (take (k + 1) xs)
next_image g before from to xs k x so_far found further =
    let later : k + 1 ≡ suc k = omega arith in
    let taken : take (k + 1) xs ≡ take k xs ++ x ∷ [] =
    ap (λ n. take n xs) later ∙ take-suc xs k x (slice_get_within xs k x found) ∙ ap (λ y. take k xs ++ y ∷ []) (get_or_from_slice_get xs k x x found) in
    further
    ∙ ap (λ ys. ys ++ g x ∷ []) so_far
    ∙ append_assoc before (map g (take k xs)) (g x ∷ [])
    ∙ ap (λ ys. before ++ ys) (sym (map-append g (take k xs) (x ∷ [])) ∙ ap (map g) (sym taken))

-- ---- the component of a field that stands at a place

-- an element of such a list is this component of one of these fields
pub record Placed (fields : List Field) (x : FieldComponent) (c : Component) : Type 0 where
  pub field : slice_get fields x.field ≡ Some c.field
  pub conj : x.conj ≡ c.conj
  pub generation : x.generation ≡ c.generation
  pub slots : x.slots ≡ c.values

-- each element is the component at its place
abbrev pub AllPlaced : List Field → List FieldComponent → List Component → Type 0
AllPlaced fields [] [] = ⊤
AllPlaced fields (x ∷ xs) (c ∷ cs) = Placed fields x c × AllPlaced fields xs cs
AllPlaced fields _ _ = ⊥

all_placed-append : (fields : List Field) (xs ys : List FieldComponent) (cs ds : List Component) → AllPlaced fields xs cs → AllPlaced fields ys ds → AllPlaced fields (xs ++ ys) (cs ++ ds)
all_placed-append fields [] ys [] ds first second = second
all_placed-append fields [] ys (c ∷ cs) ds first second = absurd first
all_placed-append fields (x ∷ xs) ys [] ds first second = absurd first
all_placed-append fields (x ∷ xs) ys (c ∷ cs) ds first second = (first.0, all_placed-append fields xs ys cs ds first.1 second)

-- both lists are equally long
pub length-all_placed : (fields : List Field) (xs : List FieldComponent) (cs : List Component) → AllPlaced fields xs cs → length xs ≡ length cs
length-all_placed fields [] [] all = refl
length-all_placed fields [] (c ∷ cs) all = absurd all
length-all_placed fields (x ∷ xs) [] all = absurd all
length-all_placed fields (x ∷ xs) (c ∷ cs) all = ap suc (length-all_placed fields xs cs all.1)

-- an element at a place is a component at the same place
pub record IsPlaced (fields : List Field) (components : List Component) (place : ℕ) (x : FieldComponent) : Type 0 where
  pub component : Component
  pub stands : slice_get components place ≡ Some component
  pub placed : Placed fields x component

-- where each element is the component at its place, so is the one at this place
pub placed_at : (fields : List Field) (xs : List FieldComponent) (cs : List Component) → AllPlaced fields xs cs → (place : ℕ) (x : FieldComponent) → slice_get xs place ≡ Some x → IsPlaced fields cs place x
placed_at fields [] cs all place x found = let never : ⊥ = cc in absurd never
placed_at fields (y ∷ xs) [] all place x found = absurd all
placed_at fields (y ∷ xs) (c ∷ cs) all zero x found =
    let same : y ≡ x = cc in
    record { component = c; stands = refl; placed = subst (λ z. Placed fields z c) same all.0 }
placed_at fields (y ∷ xs) (c ∷ cs) all (suc place) x found =
    let rest = placed_at fields xs cs all.1 place x found in
    record { component = rest.component; stands = rest.stands; placed = rest.placed }

-- ---- the lists of a model

module _ (fields : List Field) (place : ℕ) where
  pieces_placed-append : (cs ds : List Component) → AllPlaced fields (map (placed place) cs) cs → AllPlaced fields (map (placed place) ds) ds → AllPlaced fields (map (placed place) (cs ++ ds)) (cs ++ ds)
  pieces_placed-append [] ds first second = second
  pieces_placed-append (c ∷ cs) ds first second = (first.0, pieces_placed-append cs ds first.1 second)

  module _ (field : Field) (stands : slice_get fields place ≡ Some field) where
    tuples_placed : (conj : Bool) (g : ℕ) (values : List (List ℕ)) → AllPlaced fields (map (placed place) (map (component_of conj field g) values)) (map (component_of conj field g) values)
    tuples_placed conj g [] = tt
    tuples_placed conj g (p ∷ values) = (record { field = stands; conj = refl; generation = refl; slots = refl }, tuples_placed conj g values)

    generations_placed : (conj : Bool) (values : List (List ℕ)) (gs : List ℕ)
        → AllPlaced fields (map (placed place) (flat_map (λ g. map (component_of conj field g) values) gs)) (flat_map (λ g. map (component_of conj field g) values) gs)
    generations_placed conj values [] = tt
    generations_placed conj values (g ∷ gs) =
        pieces_placed-append (map (component_of conj field g) values) (flat_map (λ h. map (component_of conj field h) values) gs) (tuples_placed conj g values) (generations_placed conj values gs)

    copies_placed : (conj : Bool) (groups : List Group) → AllPlaced fields (map (placed place) (copies_of conj groups field)) (copies_of conj groups field)
    copies_placed conj groups = generations_placed conj (tuples (slot_sizes groups field.reps)) (range_with_len 1 field.generations)

    coordinates_placed : (groups : List Group) → AllPlaced fields (map (placed place) (coordinates_of groups field)) (coordinates_of groups field)
    coordinates_placed groups = by_kind field.real
      where
        by_kind : (real : Bool) → AllPlaced fields
            (map (placed place) (cond real (copies_of false groups field) (copies_of false groups field ++ copies_of true groups field)))
            (cond real (copies_of false groups field) (copies_of false groups field ++ copies_of true groups field))
        by_kind true = copies_placed false groups
        by_kind false = pieces_placed-append (copies_of false groups field) (copies_of true groups field) (copies_placed false groups) (copies_placed true groups)

-- where the fields from a place on are these, so are those from the next place on
later_fields : (all : List Field) (place : ℕ) (field : Field) (fields : List Field) → ((i : ℕ) → slice_get all (place + i) ≡ slice_get (field ∷ fields) i) → (i : ℕ) → slice_get all (suc place + i) ≡ slice_get fields i
later_fields all place field fields these i =
    let same : suc place + i ≡ place + suc i = omega arith in
    ap (slice_get all) same ∙ these (suc i)

first_field : (all : List Field) (place : ℕ) (field : Field) (fields : List Field) → ((i : ℕ) → slice_get all (place + i) ≡ slice_get (field ∷ fields) i) → slice_get all place ≡ Some field
first_field all place field fields these =
    let same : place ≡ place + 0 = omega arith in
    ap (slice_get all) same ∙ these 0

fermions_placed : (groups : List Group) (all fields : List Field) (place : ℕ) → ((i : ℕ) → slice_get all (place + i) ≡ slice_get fields i) → AllPlaced all (fermions_from groups place fields) (flat_map (components_of groups) fields)
fermions_placed groups all [] place these = tt
fermions_placed groups all (field ∷ fields) place these =
    all_placed-append all (map (placed place) (components_of groups field)) (fermions_from groups (suc place) fields) (components_of groups field) (flat_map (components_of groups) fields)
    (copies_placed all place field (first_field all place field fields these) false groups)
    (fermions_placed groups all fields (suc place) (later_fields all place field fields these))

scalars_placed : (groups : List Group) (all fields : List Field) (place : ℕ) → ((i : ℕ) → slice_get all (place + i) ≡ slice_get fields i) → AllPlaced all (scalars_from groups place fields) (flat_map (coordinates_of groups) fields)
scalars_placed groups all [] place these = tt
scalars_placed groups all (field ∷ fields) place these =
    all_placed-append all (map (placed place) (coordinates_of groups field)) (scalars_from groups (suc place) fields) (coordinates_of groups field) (flat_map (coordinates_of groups) fields)
    (coordinates_placed all place field (first_field all place field fields these) groups)
    (scalars_placed groups all fields (suc place) (later_fields all place field fields these))

from_start : (all : List Field) (i : ℕ) → slice_get all (0 + i) ≡ slice_get all i
from_start all i =
    let same : 0 + i ≡ i = omega arith in
    ap (slice_get all) same

-- each fermion of the list is the fermion component at its place
pub fermion_list-placed : (model : Model) → AllPlaced model.fermions (fermion_list model) (fermion_components model)
fermion_list-placed model = fermions_placed model.groups model.fermions model.fermions 0 (from_start model.fermions)

-- each scalar of the list is the scalar component at its place
pub scalar_list-placed : (model : Model) → AllPlaced model.scalars (scalar_list model) (scalar_components model)
scalar_list-placed model = scalars_placed model.groups model.scalars model.scalars 0 (from_start model.scalars)

-- as many as fermion components
pub length-fermion_list : (model : Model) → length (fermion_list model) ≡ length (fermion_components model)
length-fermion_list model = length-all_placed model.fermions (fermion_list model) (fermion_components model) (fermion_list-placed model)

-- as many as scalar coordinates without the dummy
pub length-scalar_list : (model : Model) → length (scalar_list model) ≡ length (scalar_components model)
length-scalar_list model = length-all_placed model.scalars (scalar_list model) (scalar_components model) (scalar_list-placed model)

-- the fermion of the list at a place
pub fermion_placed : (model : Model) (place : ℕ) (x : FieldComponent) → slice_get (fermion_list model) place ≡ Some x → IsPlaced model.fermions (fermion_components model) place x
fermion_placed model = placed_at model.fermions (fermion_list model) (fermion_components model) (fermion_list-placed model)

-- the scalar of the list at a place
pub scalar_placed : (model : Model) (place : ℕ) (x : FieldComponent) → slice_get (scalar_list model) place ≡ Some x → IsPlaced model.scalars (scalar_components model) place x
scalar_placed model = placed_at model.scalars (scalar_list model) (scalar_components model) (scalar_list-placed model)

-- ---- sizes

-- at most 512 in a valid model
pub few_fermions : (model : Model) → IsValid model → length (fermion_list model) ≤ 512
few_fermions model valid = omega (arith, length-fermion_list model, valid_count model valid)

-- at most 256 in a valid model
pub few_scalars : (model : Model) → IsValid model → length (scalar_list model) ≤ 256
few_scalars model valid = omega (arith, length-scalar_list model, valid_scalar_count model valid)

-- the number of fermions is one of 32 bits
pub fermion_list-fits : (model : Model) → IsValid model → length (fermion_list model) < 2 ^ 32
fermion_list-fits model valid = omega (arith, few_fermions model valid)

-- the number of scalars is one of 32 bits
pub scalar_list-fits : (model : Model) → IsValid model → length (scalar_list model) < 2 ^ 32
scalar_list-fits model valid = omega (arith, few_scalars model valid)
