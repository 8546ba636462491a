use Rattle.std.proofs.Common.{◌≡◌, map, drop}
use Rattle.std.specs.List.{list_all}
use Rattle.toml.specs.View.{view}
use Rattle.model_core.specs.Walk.{is_integer}
use Rattle.model_reader.proofs.entries.are_all_integers.Given as goal

-- each value so far is an integer
abbrev pub invariant-loop-value : goal.invariant-loop-value
invariant-loop-value l = list_all is_integer (map view l.values) ≡ list_all is_integer (map view (drop l.value-index l.values))
