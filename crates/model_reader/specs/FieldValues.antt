-- The bad places of a field's values, without those of a scalar's key `real`.
use Rattle.std.specs.Prelude.{ℕ, List}
use Rattle.toml.specs.Data.{Members}
use Rattle.model_core.specs.declared.group.Group.{Group}
use Rattle.model_core.specs.declared.fault.FaultPlace.{FaultPlace}
use Rattle.model_core.specs.declared.fault.ReadFault.{ReadFault}
use Rattle.model_core.specs.Fault.{key_place}
use Rattle.model_core.specs.Walk.{value_places, fermion_keys}

unfoldable pub field_value_places : FaultPlace → List Group → List (List ℕ) → Members → List ReadFault
field_value_places place groups names members = value_places (key_place place 1) (fermion_keys groups names) members
