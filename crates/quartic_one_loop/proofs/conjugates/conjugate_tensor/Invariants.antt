use Rattle.std.proofs.Common.{take}
use Rattle.sparse_tensor.specs.Tensor.{entries_of}
use Rattle.quartic_one_loop.proofs.ConjugateValues.{AreImages}
use Rattle.quartic_one_loop.proofs.conjugates.conjugate_tensor.Given as goal

abbrev pub invariant-loop-place : goal.invariant-loop-place
invariant-loop-place l = AreImages l.model (take l.place (entries_of l.yukawa)) l.values
