use Rattle.std.proofs.Common.{◌≡◌, take}
use Rattle.std.specs.List.{flat_map}
use Rattle.sparse_tensor.specs.Tensor.{entries_of}
use Rattle.yukawa_one_loop.specs.Entries.{sliced}
use Rattle.yukawa_one_loop.proofs.matrices.slice_of.Given as goal

abbrev pub invariant-loop-at : goal.invariant-loop-at
invariant-loop-at l = l.values ≡ flat_map (sliced l.place) (take l.at (entries_of l.tensor))
