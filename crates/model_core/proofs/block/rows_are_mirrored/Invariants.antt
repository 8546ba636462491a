use Rattle.std.proofs.Common.{◌≡◌, drop}
use Rattle.std.specs.List.{list_all}
use Rattle.model_core.specs.Content.{rows_of, row_is_mirrored}
use Rattle.model_core.proofs.block.rows_are_mirrored.Given as goal

abbrev pub invariant-loop-place : goal.invariant-loop-place
invariant-loop-place l =
    list_all (row_is_mirrored l.model l.used l.term) (drop l.place (rows_of l.term))
    ≡ list_all (row_is_mirrored l.model l.used l.term) (rows_of l.term)
