use Rattle.std.proofs.Common.{◌≡◌, ◌++◌, length}
use Rattle.std.specs.Prelude.{map}
use Rattle.std.specs.Vec.Iter.{into_iter_items}
use Rattle.sparse_tensor.specs.Operations.{entry}
use Rattle.sparse_tensor.proofs.entries.entries_of.Given as goal

abbrev pub invariant-loop-value : goal.invariant-loop-value
invariant-loop-value l = l.out.items ++ map entry (into_iter_items l.rest) ≡ map entry l.fn.values.items

abbrev pub decreases-loop-value : goal.decreases-loop-value
decreases-loop-value l = length (into_iter_items l.rest)
