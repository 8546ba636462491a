-- The components of a model, as the code hands them on.
use Rattle.std.specs.Prelude.{◌≡◌}
use Rattle.model_core.specs.declared.model.Model.{Model}
use Rattle.model_core.specs.ComponentLists.{fermion_list, scalar_list}
use Rattle.derive_core.specs.declared.block_names.Components.{Components}

-- the fermion components, and the scalar coordinates without the dummy
pub record IsComponents (model : Model) (components : Components) : Type 0 where
  pub fermions : components.fermions ≡ fermion_list model
  pub scalars : components.scalars ≡ scalar_list model
