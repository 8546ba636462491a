use Rattle.std.proofs.Common.{◌≡◌, take}
use Rattle.std.specs.List.{flat_map}
use Rattle.sparse_tensor.specs.Tensor.{entries_of}
use Rattle.quartic_one_loop.specs.FewDummies.{formed}
use Rattle.quartic_one_loop.proofs.formed.formed_of.Given as goal

abbrev pub invariant-loop-at : goal.invariant-loop-at
invariant-loop-at l = l.values ≡ flat_map (formed l.dummy) (take l.at (entries_of l.tensor))
