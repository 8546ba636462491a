use Rattle.std.proofs.Common.{◌≡◌, ◌++◌, drop}
use Rattle.std.specs.List.{flat_map}
use Rattle.model_core.specs.Content.{rows_of, row_blocks, term_blocks}
use Rattle.model_core.proofs.block.term_blocks.Given as goal

abbrev pub invariant-loop-place : goal.invariant-loop-place
invariant-loop-place l = l.blocks ++ flat_map (row_blocks l.model l.term) (drop l.place (rows_of l.term)) ≡ term_blocks l.model l.term
