use Rattle.std.proofs.Common.{◌≡◌, take}
use Rattle.sparse_tensor.specs.Collected.{all_moved}
use Rattle.sparse_tensor.proofs.projections.moved_entries.Given as goal

abbrev pub invariant-loop-entry : goal.invariant-loop-entry
invariant-loop-entry l = l.out.items ≡ all_moved l.leg l.links (take l.entry-index l.entries)
