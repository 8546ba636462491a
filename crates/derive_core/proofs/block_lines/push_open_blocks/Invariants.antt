use Rattle.std.proofs.Common.{◌≡◌, ◌++◌, drop}
use Rattle.std.specs.List.{flat_map}
use Rattle.derive_core.specs.Lines.{open_line}
use Rattle.derive_core.proofs.block_lines.push_open_blocks.Given as goal

-- the lines so far, and then those of the blocks that are left
abbrev pub invariant-loop-block : goal.invariant-loop-block
invariant-loop-block l =
    l.lines ++ flat_map (open_line l.model) (drop l.block-index l.told) ≡ l.initial.lines ++ flat_map (open_line l.model) l.told
