use Rattle.std.proofs.Common.{◌≡◌, ◌++◌, [], true, map, drop, length}
use Rattle.std.specs.List.{list_all}
use Rattle.toml.specs.View.{view}
use Rattle.model_core.specs.Valid.{entry_at, is_entry, are_distinct}
use Rattle.model_core.specs.Document.{entry_of}
use Rattle.model_core.specs.Walk.{entry_places, places_after}
use Rattle.model_reader.proofs.entries.entries_of.Given as goal

-- the entries so far, and those of the values that are left, whose bad places are all that there are
abbrev pub invariant-loop-value : goal.invariant-loop-value
invariant-loop-value l =
    (length l.entries ≡ l.value-index)
    × (are_distinct (map entry_at l.entries) ≡ true)
    × (list_all (is_entry l.groups l.slots) l.entries ≡ true)
    × (map entry_of (map view l.values) ≡ l.entries ++ map entry_of (map view (drop l.value-index l.values)))
    × (places_after (entry_places l.groups l.slots l.place) entry_of [] (map view l.values)
    ≡ places_after (entry_places l.groups l.slots l.place) entry_of l.entries (map view (drop l.value-index l.values)))
