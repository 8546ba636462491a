use Rattle.std.proofs.Common.{◌≡◌, ◌++◌, [], true, map, drop, length}
use Rattle.std.specs.List.{list_all}
use Rattle.model_core.specs.Valid.{field_name, are_distinct, is_scalar}
use Rattle.model_core.specs.Document.{scalar_of}
use Rattle.model_core.specs.Walk.{scalar_after, places_after}
use Rattle.model_reader.specs.Tables.{table_views}
use Rattle.model_reader.proofs.fields.scalars_of.Given as goal

-- the scalars so far, and those of the tables that are left, whose bad places are all that there are
abbrev pub invariant-loop-table : goal.invariant-loop-table
invariant-loop-table l =
    (length l.scalars ≡ l.table-index)
    × (are_distinct l.names ≡ true)
    × (list_all (is_scalar l.groups) l.scalars ≡ true)
    × (l.names ≡ l.initial.names ++ map field_name l.scalars)
    × (map (scalar_of l.groups) (table_views l.tables) ≡ l.scalars ++ map (scalar_of l.groups) (table_views (drop l.table-index l.tables)))
    × (places_after (scalar_after l.groups l.initial.names) (scalar_of l.groups) [] (table_views l.tables)
    ≡ places_after (scalar_after l.groups l.initial.names) (scalar_of l.groups) l.scalars (table_views (drop l.table-index l.tables)))
