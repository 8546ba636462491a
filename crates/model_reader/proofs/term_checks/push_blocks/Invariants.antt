use Rattle.std.proofs.Common.{◌≡◌, ◌++◌}
use Rattle.model_reader.proofs.term_checks.push_blocks.Given as goal

-- the blocks so far, and those that are left
abbrev pub invariant-loop-block : goal.invariant-loop-block
invariant-loop-block l = l.blocks ++ l.block-iterator.rest.items ≡ l.initial.blocks ++ l.fn.more
