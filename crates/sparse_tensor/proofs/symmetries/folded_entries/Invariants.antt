use Rattle.std.proofs.Common.{take}
use Rattle.sparse_tensor.specs.Collected.{AreFolded}
use Rattle.sparse_tensor.proofs.symmetries.folded_entries.Given as goal

abbrev pub invariant-loop-entry : goal.invariant-loop-entry
invariant-loop-entry l = AreFolded l.legs (take l.entry-index l.entries) l.out.items
