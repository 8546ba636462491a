-- The projectors on a list of components as links, place by place.
use Rattle.std.specs.Prelude.{◌≡◌, ◌<◌, ◌≤◌, ℕ, zero, suc, true, List, [], ◌∷◌, ◌++◌, map, length, take, drop, get_or, slice_get, Option, Some, option_map, option_and_then, if◌then◌else◌, ⊤}
use Rattle.std.specs.List.{All, list_all}
use Rattle.frac128.specs.Rational.{ℚ, zero_ℚ, one_ℚ, eq_ℚ}
use Rattle.su_reps.specs.declared.rep.Rep.{Rep}
use Rattle.su_reps.specs.Tuples.{slots, IsTuple}
use Rattle.sparse_tensor.specs.declared.links.Link.{Link}
use Rattle.model_core.specs.declared.group.Group.{Group}
use Rattle.model_core.specs.declared.field.Field.{Field}
use Rattle.model_core.specs.declared.component_lists.FieldComponent.{FieldComponent}
use Rattle.model_core.specs.Component.{Component, projector_at}
use Rattle.model_core.specs.Valid.{is_group, are_reps, are_distinct, field_name}

-- ---- components

-- a component of a field
abbrev pub in_field : FieldComponent → Field → Component
in_field x field = record { field = field; conj = x.conj; generation = x.generation; values = x.slots }

-- a component of one of some fields
abbrev pub component_in : List Field → FieldComponent → Option Component
component_in fields x = option_map (in_field x) (slice_get fields x.field)

-- the component at a place
abbrev pub component_at : List Field → List FieldComponent → ℕ → Option Component
component_at fields components x = option_and_then (component_in fields) (slice_get components x)

-- the projector at two components, 0 where one is missing
abbrev pub projector_between : List Group → Option Component → Option Component → ℚ
projector_between groups (Some c) (Some d) = projector_at groups c d
projector_between groups _ _ = zero_ℚ

-- the projector at two places
unfoldable pub place_projectors : List Group → List Field → List FieldComponent → ℕ → ℕ → ℚ
place_projectors groups fields components x y =
    projector_between groups (component_at fields components x) (component_at fields components y)

-- ---- what a list of components meets

-- for each representation a tuple of its slots
abbrev pub AreTuples : List Group → List Rep → List ℕ → Type 0
AreTuples (group ∷ groups) (rep ∷ reps) p = IsTuple rep group.n (take (slots rep) p) × AreTuples groups reps (drop (slots rep) p)
AreTuples _ _ p = ⊤

-- the component has a field and its slots
pub record IsPlaced (groups : List Group) (fields : List Field) (x : FieldComponent) : Type 0 where
  pub within : x.field < length fields
  pub tuples : (d : Field) → AreTuples groups (get_or fields x.field d).reps x.slots

-- fields of valid groups with different names
pub record AreNamed (groups : List Group) (fields : List Field) : Type 0 where
  pub valid : list_all is_group groups ≡ true
  pub reps : All (λ field. are_reps groups field.reps ≡ true) fields
  pub names : are_distinct (map field_name fields) ≡ true

-- few components of such fields
pub record ArePlaced (groups : List Group) (fields : List Field) (components : List FieldComponent) : Type 0 where
  pub named : AreNamed groups fields
  pub placed : All (IsPlaced groups fields) components
  pub few : length components ≤ 512

-- ---- links

-- a link, unless its value is 0
abbrev pub kept_link : ℕ → ℕ → ℚ → List Link
kept_link x y value = if eq_ℚ value zero_ℚ then [] else record { from = x; to = y; value = value } ∷ []

-- the links from a place to the first places
unfoldable pub row_links : (ℕ → ℕ → ℚ) → ℕ → ℕ → List Link
row_links at x zero = []
row_links at x (suc y) = row_links at x y ++ kept_link x y (at x y)

-- the links from the first places to so many places
unfoldable pub all_links : (ℕ → ℕ → ℚ) → ℕ → ℕ → List Link
all_links at count zero = []
all_links at count (suc x) = all_links at count x ++ row_links at x count

-- the link from the dummy to itself
abbrev pub dummy_link : ℕ → Link
dummy_link place = record { from = place; to = place; value = one_ℚ }
