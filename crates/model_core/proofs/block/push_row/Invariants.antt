use Rattle.std.proofs.Common.{◌≡◌, ◌++◌, map, drop}
use Rattle.model_core.specs.Content.{columns_at, symbol_block, row_blocks}
use Rattle.model_core.proofs.block.push_row.Given as goal

abbrev pub invariant-loop-place : goal.invariant-loop-place
invariant-loop-place l =
    l.blocks ++ map (symbol_block l.model l.term l.row) (drop l.place (columns_at l.term l.row))
    ≡ l.initial.blocks ++ row_blocks l.model l.term l.row
