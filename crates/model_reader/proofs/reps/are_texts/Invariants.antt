use Rattle.std.proofs.Common.{◌≡◌}
use Rattle.toml.specs.View.{members_view, table_view}
use Rattle.model_core.specs.Walk.{are_texts}
use Rattle.model_reader.proofs.reps.are_texts.Given as goal

-- each value so far is a text
abbrev pub invariant-loop-value : goal.invariant-loop-value
invariant-loop-value l = are_texts (table_view l.table) ≡ are_texts (members_view l.value-iterator)
