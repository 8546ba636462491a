use Rattle.std.proofs.Common.{◌≡◌, ◌≤◌, ◌*◌, ◌++◌, [], true, map, drop, length}
use Rattle.std.specs.List.{flat_map, list_all}
use Rattle.model_core.specs.Content.{term_blocks}
use Rattle.model_core.specs.TermMeaning.{term_of}
use Rattle.model_core.specs.TermRules.{is_term}
use Rattle.model_core.specs.Valid.{term_name, are_distinct}
use Rattle.model_core.specs.Walk.{term_after, places_after}
use Rattle.model_reader.specs.Tables.{table_views}
use Rattle.model_reader.specs.TermSteps.{are_small}
use Rattle.model_core.specs.TermRules.{has_small_sizes}
use Rattle.model_reader.proofs.terms.each_term.Given as goal

-- the terms so far with their blocks, and those of the tables that are left, whose bad places are all that there are
abbrev pub invariant-loop-table : goal.invariant-loop-table
invariant-loop-table l =
    (length l.terms ≡ l.table-index)
    × (length l.blocks ≤ l.table-index * 36)
    × (are_small l.blocks ≡ true)
    × (list_all has_small_sizes l.terms ≡ true)
    × (list_all (is_term l.model) l.terms ≡ true)
    × (are_distinct l.names ≡ true)
    × (l.blocks ≡ flat_map (term_blocks l.model) l.terms)
    × (l.names ≡ l.initial.names ++ map term_name l.terms)
    × (map (term_of l.model) (table_views l.tables) ≡ l.terms ++ map (term_of l.model) (table_views (drop l.table-index l.tables)))
    × (places_after (term_after l.model l.initial.names) (term_of l.model) [] (table_views l.tables)
    ≡ places_after (term_after l.model l.initial.names) (term_of l.model) l.terms (table_views (drop l.table-index l.tables)))
