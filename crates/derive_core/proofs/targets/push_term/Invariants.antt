use Rattle.std.proofs.Common.{◌≡◌, ◌++◌, map}
use Rattle.derive_core.specs.Targets.{cell_target, term_targets}
use Rattle.derive_core.proofs.TargetLists.{rows_from}
use Rattle.derive_core.proofs.targets.push_term.Given as goal

-- the targets so far, and then those of the rows that are left
abbrev pub invariant-loop-row : goal.invariant-loop-row
invariant-loop-row l = l.targets ++ map (cell_target l.term) (rows_from l.term l.row) ≡ l.initial.targets ++ term_targets l.term
