use Rattle.std.proofs.Common.{◌≡◌}
use Rattle.toml.specs.View.{members_view, table_view}
use Rattle.model_core.specs.Walk.{keys_are_among}
use Rattle.model_reader.specs.Tables.{texts}
use Rattle.model_reader.proofs.keys.keys_are_among.Given as goal

-- each key so far is one of the words
abbrev pub invariant-loop-key : goal.invariant-loop-key
invariant-loop-key l = keys_are_among (texts l.words) (table_view l.table) ≡ keys_are_among (texts l.words) (members_view l.key-iterator)
