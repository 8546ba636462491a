use Rattle.std.proofs.Common.{◌≡◌, map, drop}
use Rattle.std.specs.List.{list_all}
use Rattle.toml.specs.View.{view}
use Rattle.model_core.specs.Walk.{is_text}
use Rattle.model_reader.proofs.slots.are_texts.Given as goal

-- each value so far is a text
abbrev pub invariant-loop-value : goal.invariant-loop-value
invariant-loop-value l = list_all is_text (map view l.values) ≡ list_all is_text (map view (drop l.value-index l.values))
