use Rattle.std.proofs.Common.{◌≡◌, ◌++◌, map, take}
use Rattle.sparse_tensor.specs.Tensor.{entries_of}
use Rattle.yukawa_one_loop.specs.Entries.{entry_behind}
use Rattle.yukawa_one_loop.proofs.stacks.push_layer.Given as goal

abbrev pub invariant-loop-at : goal.invariant-loop-at
invariant-loop-at l = l.values ≡ l.initial.values ++ map (entry_behind l.place) (take l.at (entries_of l.matrix))
