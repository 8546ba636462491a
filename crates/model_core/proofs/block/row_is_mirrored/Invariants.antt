use Rattle.std.proofs.Common.{◌≡◌, drop}
use Rattle.std.specs.List.{list_all}
use Rattle.model_core.specs.Content.{is_mirrored, columns_at, row_is_mirrored}
use Rattle.model_core.proofs.block.row_is_mirrored.Given as goal

abbrev pub invariant-loop-place : goal.invariant-loop-place
invariant-loop-place l =
    list_all (is_mirrored l.model l.used l.row) (drop l.place (columns_at l.term l.row)) ≡ row_is_mirrored l.model l.used l.term l.row
