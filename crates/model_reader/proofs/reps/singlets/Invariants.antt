use Rattle.std.proofs.Common.{◌≡◌, ◌++◌, drop}
use Rattle.toml.specs.Data.{no_members}
use Rattle.model_core.specs.Document.{reps_of}
use Rattle.model_reader.proofs.reps.singlets.Given as goal

-- the singlets so far, and those of the groups that are left
abbrev pub invariant-loop : goal.invariant-loop
invariant-loop l = reps_of l.groups no_members ≡ l.reps ++ reps_of (drop l.index l.groups) no_members
