-- The components that may be given to a field's factor, with their places.
use Rattle.std.specs.Prelude.{ℕ, suc, ◌==◌, Bool, false, ◌&&◌, if◌then◌else◌, List, [], ◌∷◌, slice_get, Option, Some}
use Rattle.std.specs.Str.{bytes_eq}
use Rattle.model_core.specs.declared.field.Field.{Field}
use Rattle.model_core.specs.declared.component_lists.FieldComponent.{FieldComponent}
use Rattle.model_core.specs.Component.{same_side}
use Rattle.term_expand.specs.declared.candidates.Candidate.{Candidate}

-- two fields have one name
abbrev pub have_one_name : Option Field → Option Field → Bool
have_one_name (Some wanted) (Some found) = bytes_eq wanted.name found.name
have_one_name _ _ = false

-- the component is one of the field at a place, or of its conjugate, in this generation
abbrev pub is_candidate : List Field → ℕ → Bool → ℕ → FieldComponent → Bool
is_candidate fields field conj generation component =
    (have_one_name (slice_get fields field) (slice_get fields component.field) && same_side conj component.conj) && generation == component.generation

-- those that pass a test, where the first has this place
abbrev pub candidates_from : (FieldComponent → Bool) → ℕ → List FieldComponent → List Candidate
candidates_from test place [] = []
candidates_from test place (component ∷ components) =
    if test component then record { place = place; slots = component.slots } ∷ candidates_from test (suc place) components
    else candidates_from test (suc place) components
