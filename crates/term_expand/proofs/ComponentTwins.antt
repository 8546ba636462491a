-- The components of a model with the places of their fields, and the coordinates on its legs, place by place.
use Rattle.std.specs.Prelude.{◌≡◌, ◌==◌, ◌&&◌, ℕ, zero, suc, ◌+◌, ⊤, Bool, true, false, if◌then◌else◌, List, [], ◌∷◌, ◌++◌, map, length, slice_get, Option, Some, None}
use Rattle.std.specs.List.{flat_map, range_with_len, AllByRecursion, AllZip}
use Rattle.std.proofs.Common.{refl, sym, ap, ◌∙◌, arith, append-nil, subst}
use Rattle.model_core.specs.declared.group.Group.{Group}
use Rattle.model_core.specs.declared.field.Field.{Field}
use Rattle.model_core.specs.declared.model.Model.{Model}
use Rattle.model_core.specs.declared.component_lists.FieldComponent.{FieldComponent}
use Rattle.model_core.specs.Component.{Component, slot_sizes, tuples, copies_of, components_of, fermion_components, same_side}
use Rattle.model_core.specs.Scalar.{Coordinate, coordinates_of, scalar_components, scalar_coordinates}
use Rattle.model_core.specs.Scalar.Coordinate.{Of, Dummy}
use Rattle.model_core.specs.ComponentLists.{placed, fermions_from, scalars_from, fermion_list, scalar_list}
use Rattle.model_core.specs.MonomialValue.{is_named, stands_for, is_dummy}
use Rattle.model_core.specs.TermTensor.{fermion_coordinates}
use Rattle.term_expand.specs.Candidates.{have_one_name, is_candidate}

-- ---- lists

-- each element of a list made of others meets what theirs do
pub each_append : {A : Type 0} (P : A → Type 0) (xs ys : List A) → AllByRecursion P xs → AllByRecursion P ys → AllByRecursion P (xs ++ ys)
each_append P [] ys h k = k
each_append P (x ∷ xs) ys h k = (h.0, each_append P xs ys h.1 k)

pub each_map : {A B : Type 0} (P : B → Type 0) (g : A → B) → ((x : A) → P (g x)) → (xs : List A) → AllByRecursion P (map g xs)
each_map P g h [] = tt
each_map P g h (x ∷ xs) = (h x, each_map P g h xs)

each_flat_map : {A B : Type 0} (P : B → Type 0) (g : A → List B) → ((x : A) → AllByRecursion P (g x)) → (xs : List A) → AllByRecursion P (flat_map g xs)
each_flat_map P g h [] = tt
each_flat_map P g h (x ∷ xs) = each_append P (g x) (flat_map g xs) (h x) (each_flat_map P g h xs)

zip_append : {A B : Type 0} (P : A → B → Type 0) (xs vs : List A) (ys ws : List B) → AllZip P xs ys → AllZip P vs ws → AllZip P (xs ++ vs) (ys ++ ws)
zip_append P [] vs [] ws h k = k
zip_append P [] vs (y ∷ ys) ws h k = absurd h
zip_append P (x ∷ xs) vs [] ws h k = absurd h
zip_append P (x ∷ xs) vs (y ∷ ys) ws h k = (h.0, zip_append P xs vs ys ws h.1 k)

-- ---- components

-- a component with the place of its field among these
pub record IsTwin (fields : List Field) (x : FieldComponent) (c : Component) : Type 0 where
  pub field : slice_get fields x.field ≡ Some c.field
  pub conj : x.conj ≡ c.conj
  pub generation : x.generation ≡ c.generation
  pub values : x.slots ≡ c.values

copies_field : (conj : Bool) (groups : List Group) (field : Field) → AllByRecursion (λ c. c.field ≡ field) (copies_of conj groups field)
copies_field conj groups field =
    each_flat_map (λ c. c.field ≡ field) (λ g. map (λ p. record { field = field; conj = conj; generation = g; values = p }) (tuples (slot_sizes groups field.reps)))
    (λ g. each_map (λ c. c.field ≡ field) (λ p. record { field = field; conj = conj; generation = g; values = p }) (λ p. refl) (tuples (slot_sizes groups field.reps)))
    (range_with_len 1 field.generations)

coordinates_field : (groups : List Group) (field : Field) → AllByRecursion (λ c. c.field ≡ field) (coordinates_of groups field)
coordinates_field groups field = by_kind field.real
  where
    by_kind : (real : Bool) → AllByRecursion (λ c. c.field ≡ field) (if real then copies_of false groups field else copies_of false groups field ++ copies_of true groups field)
    by_kind true = copies_field false groups field
    by_kind false =
        each_append (λ c. c.field ≡ field) (copies_of false groups field) (copies_of true groups field) (copies_field false groups field) (copies_field true groups field)

placed_twins : (all : List Field) (place : ℕ) (field : Field) (cs : List Component) → slice_get all place ≡ Some field → AllByRecursion (λ c. c.field ≡ field) cs → AllZip (IsTwin all) (map (placed place) cs) cs
placed_twins all place field [] h each = tt
placed_twins all place field (c ∷ cs) h each =
    (record { field = h ∙ ap Some (sym each.0); conj = refl; generation = refl; values = refl }, placed_twins all place field cs h each.1)

-- the fields from a place on
abbrev From : List Field → ℕ → List Field → Type 0
From all place fields = (i : ℕ) → slice_get all (place + i) ≡ slice_get fields i

from_first : (all : List Field) (place : ℕ) (field : Field) (fields : List Field) → From all place (field ∷ fields) → slice_get all place ≡ Some field
from_first all place field fields h =
    let same : place ≡ place + 0 = omega arith in
    ap (slice_get all) same ∙ h 0

from_next : (all : List Field) (place : ℕ) (field : Field) (fields : List Field) → From all place (field ∷ fields) → From all (suc place) fields
from_next all place field fields h i =
    let same : suc place + i ≡ place + suc i = omega arith in
    ap (slice_get all) same ∙ h (suc i)

fermions_twins : (all : List Field) (groups : List Group) (place : ℕ) (fields : List Field) → From all place fields → AllZip (IsTwin all) (fermions_from groups place fields) (flat_map (components_of groups) fields)
fermions_twins all groups place [] h = tt
fermions_twins all groups place (field ∷ fields) h =
    zip_append (IsTwin all) (map (placed place) (components_of groups field)) (fermions_from groups (suc place) fields) (components_of groups field) (flat_map (components_of groups) fields)
    (placed_twins all place field (components_of groups field) (from_first all place field fields h) (copies_field false groups field))
    (fermions_twins all groups (suc place) fields (from_next all place field fields h))

scalars_twins : (all : List Field) (groups : List Group) (place : ℕ) (fields : List Field) → From all place fields → AllZip (IsTwin all) (scalars_from groups place fields) (flat_map (coordinates_of groups) fields)
scalars_twins all groups place [] h = tt
scalars_twins all groups place (field ∷ fields) h =
    zip_append (IsTwin all) (map (placed place) (coordinates_of groups field)) (scalars_from groups (suc place) fields) (coordinates_of groups field) (flat_map (coordinates_of groups) fields)
    (placed_twins all place field (coordinates_of groups field) (from_first all place field fields h) (coordinates_field groups field))
    (scalars_twins all groups (suc place) fields (from_next all place field fields h))

from_start : (all : List Field) → From all 0 all
from_start all i =
    let same : 0 + i ≡ i = omega arith in
    ap (slice_get all) same

-- ---- places

-- what stands at a place of both: a component, or none, and then no coordinate or the dummy
abbrev pub AreTwins : List Field → Option FieldComponent → Option Coordinate → Type 0
AreTwins fields None None = ⊤
AreTwins fields None (Some (Of c)) = ⊥
AreTwins fields None (Some Dummy) = ⊤
AreTwins fields (Some x) None = ⊥
AreTwins fields (Some x) (Some (Of c)) = IsTwin fields x c
AreTwins fields (Some x) (Some Dummy) = ⊥

twins_at : (fields : List Field) (rest : List Coordinate) (xs : List FieldComponent) (cs : List Component) → AllZip (IsTwin fields) xs cs
    → ((i : ℕ) → AreTwins fields None (slice_get rest i)) → (p : ℕ) → AreTwins fields (slice_get xs p) (slice_get (map Of cs ++ rest) p)
twins_at fields rest [] [] h k p = k p
twins_at fields rest [] (c ∷ cs) h k p = absurd h
twins_at fields rest (x ∷ xs) [] h k p = absurd h
twins_at fields rest (x ∷ xs) (c ∷ cs) h k zero = h.0
twins_at fields rest (x ∷ xs) (c ∷ cs) h k (suc p) = twins_at fields rest xs cs h.1 k p

one_dummy : (fields : List Field) (i : ℕ) → AreTwins fields None (slice_get (Dummy ∷ []) i)
one_dummy fields zero = tt
one_dummy fields (suc i) = tt

-- at a fermion's place and at a scalar's
pub fermion_twins : (model : Model) (p : ℕ) → AreTwins model.fermions (slice_get (fermion_list model) p) (slice_get (fermion_coordinates model) p)
fermion_twins model p =
    subst (λ leg. AreTwins model.fermions (slice_get (fermion_list model) p) (slice_get leg p)) (append-nil (fermion_coordinates model))
    (twins_at model.fermions [] (fermion_list model) (fermion_components model) (fermions_twins model.fermions model.groups 0 model.fermions (from_start model.fermions)) (λ i. tt) p)

pub scalar_twins : (model : Model) (p : ℕ) → AreTwins model.scalars (slice_get (scalar_list model) p) (slice_get (scalar_coordinates model) p)
scalar_twins model p =
    twins_at model.scalars (Dummy ∷ []) (scalar_list model) (scalar_components model) (scalars_twins model.scalars model.groups 0 model.scalars (from_start model.scalars)) (one_dummy model.scalars) p

-- the dummy stands at a place
abbrev pub is_dummy_at : Option Coordinate → Bool
is_dummy_at None = false
is_dummy_at (Some c) = is_dummy c

dummy_behind : {A : Type 0} (P : A → Component → Type 0) (xs : List A) (cs : List Component) (p : ℕ) → AllZip P xs cs → is_dummy_at (slice_get (map Of cs ++ Dummy ∷ []) p) ≡ (p == length xs)
dummy_behind P [] [] zero h = refl
dummy_behind P [] [] (suc p) h = grind arith
dummy_behind P [] (c ∷ cs) p h = absurd h
dummy_behind P (x ∷ xs) [] p h = absurd h
dummy_behind P (x ∷ xs) (c ∷ cs) zero h = grind arith
dummy_behind P (x ∷ xs) (c ∷ cs) (suc p) h = dummy_behind P xs cs p h.1 ∙ next p (length xs)
  where
    next : (a b : ℕ) → (a == b) ≡ (suc a == suc b)
    next a b = grind arith

-- it stands behind all components
pub dummy_place : (model : Model) (p : ℕ) → is_dummy_at (slice_get (scalar_coordinates model) p) ≡ (p == length (scalar_list model))
dummy_place model p =
    dummy_behind (IsTwin model.scalars) (scalar_list model) (scalar_components model) p (scalars_twins model.scalars model.groups 0 model.scalars (from_start model.scalars))

-- ---- the test of a candidate

named : (o : Option Field) (c : Component) → have_one_name o (Some c.field) ≡ is_named o c
named None c = refl
named (Some field) c = refl

-- a candidate for a field is a component that stands for it
pub candidate_stands : (fields : List Field) (field : ℕ) (conj : Bool) (generation : ℕ) (x : FieldComponent) (c : Component) → IsTwin fields x c
    → is_candidate fields field conj generation x ≡ stands_for (slice_get fields field) conj generation c
candidate_stands fields field conj generation x c twin =
    (λ i. (have_one_name (slice_get fields field) (twin.field i) && same_side conj (twin.conj i)) && generation == twin.generation i)
    ∙ ap (λ b. (b && same_side conj c.conj) && generation == c.generation) (named (slice_get fields field) c)
