use Rattle.std.proofs.Common.{◌≡◌, take}
use Rattle.std.specs.List.{flat_map}
use Rattle.sparse_tensor.specs.Tensor.{entries_of}
use Rattle.derive_core.specs.SideBetas.{side_values}
use Rattle.derive_core.proofs.block_betas.scalar_part.Given as goal

abbrev pub invariant-loop-place : goal.invariant-loop-place
invariant-loop-place l = l.values ≡ flat_map (side_values l.model l.side) (take l.place (entries_of l.scalar))
