use Rattle.std.proofs.Common.{◌≡◌, ◌++◌, length}
use Rattle.std.specs.Vec.Iter.{into_iter_items, into_iter_len}
use Rattle.sparse_tensor.specs.Collected.{run_value}
use Rattle.sparse_tensor.proofs.Neighbours.{gathered_of, run_of}
use Rattle.sparse_tensor.proofs.entries.gather_sorted.Given as goal

abbrev pub invariant-loop-next : goal.invariant-loop-next
invariant-loop-next l = record {
  counted : into_iter_len l.rest ≡ length (into_iter_items l.rest);
  collected : l.out.items ++ run_of (l.key, run_value l.first l.more.items) (into_iter_items l.rest) ≡ gathered_of l.fn.entries.items;
}

abbrev pub decreases-loop-next : goal.decreases-loop-next
decreases-loop-next l = length (into_iter_items l.rest)
