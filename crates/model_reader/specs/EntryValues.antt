-- The values of the keys of a table's entry.
use Rattle.std.specs.Prelude.{◌≡◌, Some, codes}
use Rattle.toml.specs.Data.{Members, get_member}
use Rattle.toml.specs.View.{view}
use Rattle.model_reader.specs.declared.entries.EntryValues.{EntryValues}

-- the table has these values under its keys
pub record HasEntryValues (members : Members) (values : EntryValues) : Type 0 where
  pub at : get_member (codes "at") members ≡ Some (view values.at.now)
  pub value : get_member (codes "value") members ≡ Some (view values.value.now)
