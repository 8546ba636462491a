use Rattle.std.proofs.Common.{◌≡◌, map, drop}
use Rattle.std.specs.List.{list_all}
use Rattle.toml.specs.View.{view}
use Rattle.model_core.specs.Document.{text_of}
use Rattle.model_core.specs.Walk.{names_special}
use Rattle.model_reader.proofs.slots.are_named.Given as goal

-- each value so far names a group
abbrev pub invariant-loop-value : goal.invariant-loop-value
invariant-loop-value l = list_all (λ value. names_special l.groups (text_of value)) (map view l.values) ≡ list_all (λ value. names_special l.groups (text_of value)) (map view (drop l.value-index l.values))
