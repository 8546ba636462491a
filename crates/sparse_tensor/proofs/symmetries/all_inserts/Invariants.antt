use Rattle.std.proofs.Common.{◌≡◌, take}
use Rattle.std.specs.List.{flat_map}
use Rattle.exact_algebra.specs.Orders.{inserts}
use Rattle.sparse_tensor.proofs.symmetries.all_inserts.Given as goal

abbrev pub invariant-loop-order : goal.invariant-loop-order
invariant-loop-order l = l.out.items ≡ flat_map (inserts l.leg) (take l.order-index l.others)
