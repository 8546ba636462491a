-- The scalar coordinates of a model: the components of its scalar fields and of their conjugates, and the dummy.
use Rattle.std.specs.Prelude.{ℕ, false, true, not, if◌then◌else◌, List, [], ◌∷◌, ◌++◌, map, ◌≡◌, Some, slice_get}
use Rattle.std.specs.List.{flat_map}
use Rattle.model_core.specs.declared.group.Group.{Group}
use Rattle.model_core.specs.declared.field.Field.{Field}
use Rattle.model_core.specs.declared.model.Model.{Model}
use Rattle.model_core.specs.Component.{Component, copies_of}

-- What stands on a leg: a component of a field, or the dummy. The dummy has no field and no charge, and fills the free legs
-- of terms with a dimension.
pub data Coordinate : Type 0 where
  Of : Component → Coordinate
  Dummy : Coordinate

-- a complex scalar has first all plain components and then all conjugate ones
abbrev pub coordinates_of : List Group → Field → List Component
coordinates_of groups field = if field.real then copies_of false groups field else copies_of false groups field ++ copies_of true groups field

-- the components of all scalars, field by field
abbrev pub scalar_components : Model → List Component
scalar_components model = flat_map (coordinates_of model.groups) model.scalars

-- the scalar coordinates, the dummy last
abbrev pub scalar_coordinates : Model → List Coordinate
scalar_coordinates model = map Of (scalar_components model) ++ Dummy ∷ []

-- ---- partners

-- the values with the two of each pair swapped
abbrev pub swapped_pairs : List ℕ → List ℕ
swapped_pairs (a ∷ b ∷ p) = b ∷ a ∷ swapped_pairs p
swapped_pairs p = p

-- the partner of a complex field's component is the conjugate one; that of a real field's has the two values of each adjoint slot pair swapped
abbrev pub partner_component : Component → Component
partner_component c =
    if c.field.real then record { field = c.field; conj = c.conj; generation = c.generation; values = swapped_pairs c.values }
    else record { field = c.field; conj = not c.conj; generation = c.generation; values = c.values }

-- the partner a* of a coordinate a; the dummy is its own
abbrev pub partner : Coordinate → Coordinate
partner (Of c) = Of (partner_component c)
partner Dummy = Dummy

-- the component at one place is the partner of that at another
pub record IsPartner (components : List Component) (place other : ℕ) : Type 0 where
  pub component : Component
  pub first : slice_get components place ≡ Some component
  pub second : slice_get components other ≡ Some (partner_component component)
