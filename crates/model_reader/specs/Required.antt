-- The values of the keys that a group has to have.
use Rattle.std.specs.Prelude.{◌≡◌, Some, codes}
use Rattle.toml.specs.Data.{Members, get_member}
use Rattle.toml.specs.View.{view}
use Rattle.model_reader.specs.declared.groups.GroupValues.{GroupValues}

-- the table has these values under its keys
pub record HasValues (members : Members) (values : GroupValues) : Type 0 where
  pub name : get_member (codes "name") members ≡ Some (view values.name.now)
  pub n : get_member (codes "n") members ≡ Some (view values.n.now)
  pub coupling : get_member (codes "coupling") members ≡ Some (view values.coupling.now)
