use Rattle.std.proofs.Common.{◌≡◌, ◌≤◌, length, drop}
use Rattle.exact_algebra.specs.Orders.{orders}
use Rattle.sparse_tensor.proofs.symmetries.orders_of.Given as goal

abbrev pub invariant-loop-i : goal.invariant-loop-i
invariant-loop-i l = record {
  in_range : l.i ≤ length l.legs;
  collected : l.all.items ≡ orders (drop l.i l.legs);
}

abbrev pub decreases-loop-i : goal.decreases-loop-i
decreases-loop-i l = l.i
