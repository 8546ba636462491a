use Rattle.std.proofs.Common.{◌≡◌, ◌++◌, drop}
use Rattle.yukawa_one_loop.specs.Entries.{values_from}
use Rattle.yukawa_one_loop.proofs.stacks.stack.Given as goal

abbrev pub invariant-loop-at : goal.invariant-loop-at
invariant-loop-at l = l.values ++ values_from l.at (drop l.at l.matrices) ≡ values_from 0 l.matrices
