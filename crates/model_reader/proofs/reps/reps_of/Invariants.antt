use Rattle.std.proofs.Common.{◌≡◌, ◌++◌, drop}
use Rattle.toml.specs.View.{table_view}
use Rattle.model_core.specs.Document.{reps_of}
use Rattle.model_reader.proofs.reps.reps_of.Given as goal

-- the representations so far, and those of the groups that are left
abbrev pub invariant-loop-group : goal.invariant-loop-group
invariant-loop-group l = reps_of l.groups (table_view l.table) ≡ l.reps ++ reps_of (drop l.group-index l.groups) (table_view l.table)
