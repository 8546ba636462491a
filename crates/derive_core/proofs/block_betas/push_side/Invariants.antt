use Rattle.std.proofs.Common.{◌≡◌, ◌++◌, take}
use Rattle.sparse_tensor.specs.Tensor.{entries_of}
use Rattle.derive_core.specs.SideBetas.{named_values}
use Rattle.derive_core.proofs.block_betas.push_side.Given as goal

abbrev pub invariant-loop-place : goal.invariant-loop-place
invariant-loop-place l = l.values ≡ l.initial.values ++ named_values l.model l.name l.side (take l.place (entries_of l.tensor))
