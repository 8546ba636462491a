use Rattle.std.proofs.Common.{◌≡◌, ◌++◌, map, drop}
use Rattle.toml.specs.View.{view}
use Rattle.model_core.specs.Document.{slot_of}
use Rattle.model_reader.proofs.slots.slots_of.Given as goal

-- the slots so far, and those of the values that are left
abbrev pub invariant-loop-value : goal.invariant-loop-value
invariant-loop-value l = map (slot_of l.groups) (map view l.values) ≡ l.slots ++ map (slot_of l.groups) (map view (drop l.value-index l.values))
