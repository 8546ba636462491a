use Rattle.std.proofs.Common.{take}
use Rattle.sparse_tensor.specs.Tensor.{entries_of}
use Rattle.derive_core.proofs.ConjugateSums.{AreConjugates}
use Rattle.derive_core.proofs.block_betas.conjugate_beta.Given as goal

abbrev pub invariant-loop-place : goal.invariant-loop-place
invariant-loop-place l = AreConjugates l.model (take l.place (entries_of l.yukawa)) l.values
