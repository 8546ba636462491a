use Rattle.std.proofs.Common.{◌≡◌}
use Rattle.toml.specs.View.{members_view, table_view}
use Rattle.model_core.specs.Walk.{are_reps_named}
use Rattle.model_reader.proofs.reps.are_reps_named.Given as goal

-- each entry so far names a group and a representation
abbrev pub invariant-loop-key : goal.invariant-loop-key
invariant-loop-key l = are_reps_named l.groups (table_view l.table) ≡ are_reps_named l.groups (members_view l.key-iterator)
