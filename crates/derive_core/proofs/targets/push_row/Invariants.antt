use Rattle.std.proofs.Common.{◌≡◌, ◌++◌, map}
use Rattle.model_core.specs.Directions.{cells_in}
use Rattle.derive_core.specs.Targets.{cell_target}
use Rattle.derive_core.proofs.TargetLists.{cells_from}
use Rattle.derive_core.proofs.targets.push_row.Given as goal

-- the targets so far, and then those of the cells that are left
abbrev pub invariant-loop-step : goal.invariant-loop-step
invariant-loop-step l =
    l.targets ++ map (cell_target l.term) (cells_from l.term l.row l.step) ≡ l.initial.targets ++ map (cell_target l.term) (cells_in l.term l.row)
