use Rattle.std.proofs.Common.{◌≡◌, ◌++◌, ◌≤◌, ◌+◌, ◌-◌, length, take}
use Rattle.exact_algebra.specs.Orders.{inserts}
use Rattle.sparse_tensor.proofs.symmetries.push_inserts.Given as goal

abbrev pub invariant-loop-place : goal.invariant-loop-place
invariant-loop-place l = record {
  in_range : l.place ≤ length l.order + 1;
  collected : l.out.items ≡ l.initial.out.items ++ take l.place (inserts l.leg l.order);
}

abbrev pub decreases-loop-place : goal.decreases-loop-place
decreases-loop-place l = length l.order + 1 - l.place
