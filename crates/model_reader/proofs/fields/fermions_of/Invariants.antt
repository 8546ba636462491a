use Rattle.std.proofs.Common.{◌≡◌, ◌++◌, [], true, map, drop, length}
use Rattle.std.specs.List.{list_all}
use Rattle.model_core.specs.Valid.{field_name, are_distinct, is_field}
use Rattle.model_core.specs.Document.{fermion_of}
use Rattle.model_core.specs.Walk.{fermion_after, places_after}
use Rattle.model_reader.specs.Tables.{table_views}
use Rattle.model_reader.proofs.fields.fermions_of.Given as goal

-- the fermions so far, and those of the tables that are left, whose bad places are all that there are
abbrev pub invariant-loop-table : goal.invariant-loop-table
invariant-loop-table l =
    (length l.fermions ≡ l.table-index)
    × (are_distinct l.names ≡ true)
    × (list_all (is_field l.groups) l.fermions ≡ true)
    × (l.names ≡ l.initial.names ++ map field_name l.fermions)
    × (map (fermion_of l.groups) (table_views l.tables) ≡ l.fermions ++ map (fermion_of l.groups) (table_views (drop l.table-index l.tables)))
    × (places_after (fermion_after l.groups l.initial.names) (fermion_of l.groups) [] (table_views l.tables)
    ≡ places_after (fermion_after l.groups l.initial.names) (fermion_of l.groups) l.fermions (table_views (drop l.table-index l.tables)))
