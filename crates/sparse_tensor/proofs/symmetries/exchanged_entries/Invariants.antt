use Rattle.std.proofs.Common.{◌≡◌, take}
use Rattle.sparse_tensor.specs.Collected.{all_exchanged}
use Rattle.sparse_tensor.proofs.symmetries.exchanged_entries.Given as goal

abbrev pub invariant-loop-entry : goal.invariant-loop-entry
invariant-loop-entry l = l.out.items ≡ all_exchanged l.legs l.all (take l.entry-index l.entries)
