use Rattle.std.proofs.Common.{◌-◌, length}
use Rattle.std.specs.List.{AllWithin}
use Rattle.sparse_tensor.specs.Tensor.{entries_of}
use Rattle.sparse_tensor.specs.Constants.{IsConstant}
use Rattle.arithmetic_tests.proofs.tensors.all_constant.Given as goal

abbrev pub invariant-loop-i : goal.invariant-loop-i
invariant-loop-i l = AllWithin (λ e. IsConstant e.1) (entries_of l.tensor) 0 l.i

abbrev pub decreases-loop-i : goal.decreases-loop-i
decreases-loop-i l = length (entries_of l.tensor) - l.i
