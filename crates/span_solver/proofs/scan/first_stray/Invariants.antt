use Rattle.std.proofs.Common.{take}
use Rattle.sparse_tensor.specs.Tensor.{entries_of}
use Rattle.span_solver.specs.Scanned.{AreKnown}
use Rattle.span_solver.proofs.scan.first_stray.Given as goal

abbrev pub invariant-loop-place : goal.invariant-loop-place
invariant-loop-place l = AreKnown l.keys (take l.place (entries_of l.tensor))
