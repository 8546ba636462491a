use Rattle.std.proofs.Common.{◌≡◌, ◌++◌, take}
use Rattle.std.specs.List.{flat_map}
use Rattle.sparse_tensor.specs.Tensor.{entries_of}
use Rattle.gauge_check.specs.Actions.{side_value}
use Rattle.gauge_check.proofs.parts.push_side.Given as goal

abbrev pub invariant-loop-place : goal.invariant-loop-place
invariant-loop-place l = l.values ≡ l.initial.values ++ flat_map (side_value l.side) (take l.place (entries_of l.tensor))
