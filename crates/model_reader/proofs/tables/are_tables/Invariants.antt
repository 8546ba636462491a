use Rattle.std.proofs.Common.{◌≡◌, drop}
use Rattle.toml.specs.View.{array_view, items_view}
use Rattle.model_core.specs.Walk.{are_tables}
use Rattle.model_reader.proofs.tables.are_tables.Given as goal

-- each element so far is a table
abbrev pub invariant-loop-value : goal.invariant-loop-value
invariant-loop-value l = are_tables (array_view l.array) ≡ are_tables (items_view (drop l.value-index l.array.items))
