-- The values of the keys of a table of the part `table`.
use Rattle.std.specs.Prelude.{◌≡◌, Some, codes}
use Rattle.toml.specs.Data.{Members, get_member}
use Rattle.toml.specs.View.{view}
use Rattle.model_reader.specs.declared.tensors.TensorValues.{TensorValues}

-- the table has these values under its keys
pub record HasTensorValues (members : Members) (values : TensorValues) : Type 0 where
  pub name : get_member (codes "name") members ≡ Some (view values.name.now)
  pub slots : get_member (codes "slots") members ≡ Some (view values.slots.now)
  pub entries : get_member (codes "entries") members ≡ Some (view values.entries.now)
