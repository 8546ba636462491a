use Rattle.std.proofs.Common.{◌≡◌, ◌++◌, drop}
use Rattle.toml.specs.View.{array_view, items_view}
use Rattle.model_core.specs.Document.{tables_among}
use Rattle.model_reader.specs.Tables.{table_views}
use Rattle.model_reader.proofs.tables.tables_among.Given as goal

-- the tables so far, and those among the elements that are left
abbrev pub invariant-loop-value : goal.invariant-loop-value
invariant-loop-value l = tables_among (array_view l.array) ≡ table_views l.found.items ++ tables_among (items_view (drop l.value-index l.array.items))
