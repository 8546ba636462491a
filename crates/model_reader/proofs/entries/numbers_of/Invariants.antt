use Rattle.std.proofs.Common.{◌≡◌, ◌++◌, map, drop, length}
use Rattle.toml.specs.View.{view}
use Rattle.model_core.specs.Document.{number_of}
use Rattle.model_core.specs.Walk.{are_slot_values}
use Rattle.model_reader.proofs.entries.numbers_of.Given as goal

-- the numbers so far, each from 1 to the n of its slot, and those of the values that are left
abbrev pub invariant-loop-value : goal.invariant-loop-value
invariant-loop-value l =
    (length l.numbers ≡ l.value-index)
    × (length l.values ≡ length l.slots)
    × (map number_of (map view l.values) ≡ l.numbers ++ map number_of (map view (drop l.value-index l.values)))
    × (are_slot_values l.groups l.slots (map view l.values) ≡ are_slot_values l.groups (drop l.value-index l.slots) (map view (drop l.value-index l.values)))
