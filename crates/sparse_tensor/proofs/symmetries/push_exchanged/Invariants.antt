use Rattle.std.proofs.Common.{◌≡◌, ◌++◌, take}
use Rattle.std.specs.Prelude.{map}
use Rattle.sparse_tensor.specs.Collected.{exchanged}
use Rattle.sparse_tensor.proofs.symmetries.push_exchanged.Given as goal

abbrev pub invariant-loop-order : goal.invariant-loop-order
invariant-loop-order l = l.out.items ≡ l.initial.out.items ++ map (exchanged l.legs l.entry) (take l.order-index l.all)
