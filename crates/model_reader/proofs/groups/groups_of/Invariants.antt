use Rattle.std.proofs.Common.{◌≡◌, ◌++◌, [], true, map, drop, length}
use Rattle.std.specs.List.{flat_map, list_all}
use Rattle.model_core.specs.Valid.{group_names, are_distinct, is_group, has_one_abelian}
use Rattle.model_core.specs.Document.{group_of}
use Rattle.model_core.specs.Walk.{group_places, places_after}
use Rattle.model_reader.specs.Tables.{table_views}
use Rattle.model_reader.proofs.groups.groups_of.Given as goal

-- the groups so far, and those of the tables that are left, whose bad places are all that there are
abbrev pub invariant-loop-table : goal.invariant-loop-table
invariant-loop-table l =
    (length l.groups ≡ l.table-index)
    × (are_distinct l.names ≡ true)
    × (list_all is_group l.groups ≡ true)
    × (has_one_abelian l.groups ≡ true)
    × (l.names ≡ flat_map group_names l.groups)
    × (map group_of (table_views l.tables) ≡ l.groups ++ map group_of (table_views (drop l.table-index l.tables)))
    × (places_after group_places group_of [] (table_views l.tables) ≡ places_after group_places group_of l.groups (table_views (drop l.table-index l.tables)))
