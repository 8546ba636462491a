use Rattle.std.proofs.Common.{◌≡◌, ◌++◌, [], true, map, drop, length}
use Rattle.std.specs.List.{list_all}
use Rattle.model_core.specs.Valid.{table_name, are_distinct, is_table}
use Rattle.model_core.specs.Document.{table_of}
use Rattle.model_core.specs.Walk.{tensor_after, places_after}
use Rattle.model_reader.specs.Tables.{table_views}
use Rattle.model_reader.proofs.tensors.tensors_of.Given as goal

-- the tensors so far, and those of the tables that are left, whose bad places are all that there are
abbrev pub invariant-loop-table : goal.invariant-loop-table
invariant-loop-table l =
    (length l.tensors ≡ l.table-index)
    × (are_distinct l.names ≡ true)
    × (list_all (is_table l.groups) l.tensors ≡ true)
    × (l.names ≡ l.initial.names ++ map table_name l.tensors)
    × (map (table_of l.groups) (table_views l.tables) ≡ l.tensors ++ map (table_of l.groups) (table_views (drop l.table-index l.tables)))
    × (places_after (tensor_after l.groups l.initial.names) (table_of l.groups) [] (table_views l.tables)
    ≡ places_after (tensor_after l.groups l.initial.names) (table_of l.groups) l.tensors (table_views (drop l.table-index l.tables)))
