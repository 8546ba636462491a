use Rattle.std.proofs.Common.{◌≡◌, ◌++◌, map, take}
use Rattle.sparse_tensor.specs.Tensor.{entries_of}
use Rattle.quartic_one_loop.specs.ChargeParts.{charged}
use Rattle.quartic_one_loop.proofs.charges.push_charged.Given as goal

abbrev pub invariant-loop-place : goal.invariant-loop-place
invariant-loop-place l = l.values ≡ l.initial.values ++ map (charged l.casimirs l.factor) (take l.place (entries_of l.tensor))
