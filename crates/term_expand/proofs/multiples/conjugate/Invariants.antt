use Rattle.std.proofs.Common.{take}
use Rattle.sparse_tensor.specs.Tensor.{entries_of}
use Rattle.term_expand.proofs.Conjugates.{AreConjugates}
use Rattle.term_expand.proofs.multiples.conjugate.Given as goal

abbrev pub invariant-loop-place : goal.invariant-loop-place
invariant-loop-place l = AreConjugates l.model l.kind (take l.place (entries_of l.tensor)) l.values
