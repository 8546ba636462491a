use Rattle.std.proofs.Common.{◌≡◌, ◌++◌, map, take}
use Rattle.sparse_tensor.specs.Tensor.{entries_of}
use Rattle.gauge_check.specs.Actions.{negated_value}
use Rattle.gauge_check.proofs.parts.push_negated.Given as goal

abbrev pub invariant-loop-place : goal.invariant-loop-place
invariant-loop-place l = l.values ≡ l.initial.values ++ map negated_value (take l.place (entries_of l.tensor))
