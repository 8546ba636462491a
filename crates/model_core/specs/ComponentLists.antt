-- The components of a model with the places of their fields.
use Rattle.std.specs.Prelude.{ℕ, suc, List, [], ◌∷◌, ◌++◌, map}
use Rattle.model_core.specs.declared.group.Group.{Group}
use Rattle.model_core.specs.declared.field.Field.{Field}
use Rattle.model_core.specs.declared.model.Model.{Model}
use Rattle.model_core.specs.declared.component_lists.FieldComponent.{FieldComponent}
use Rattle.model_core.specs.Component.{Component, components_of}
use Rattle.model_core.specs.Scalar.{coordinates_of}

-- a component of the field at a place
abbrev pub placed : ℕ → Component → FieldComponent
placed place c = record { field = place; conj = c.conj; generation = c.generation; slots = c.values }

-- the components of all fields from a place on
abbrev pub fermions_from : List Group → ℕ → List Field → List FieldComponent
fermions_from groups place [] = []
fermions_from groups place (field ∷ fields) = map (placed place) (components_of groups field) ++ fermions_from groups (suc place) fields

abbrev pub scalars_from : List Group → ℕ → List Field → List FieldComponent
scalars_from groups place [] = []
scalars_from groups place (field ∷ fields) = map (placed place) (coordinates_of groups field) ++ scalars_from groups (suc place) fields

-- the fermion components, and the scalar coordinates without the dummy
abbrev pub fermion_list : Model → List FieldComponent
fermion_list model = fermions_from model.groups 0 model.fermions

abbrev pub scalar_list : Model → List FieldComponent
scalar_list model = scalars_from model.groups 0 model.scalars
