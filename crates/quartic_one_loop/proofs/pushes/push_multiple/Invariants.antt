use Rattle.std.proofs.Common.{◌≡◌, ◌++◌, map, take}
use Rattle.beta_poly.specs.Polynomial.{mul_poly}
use Rattle.sparse_tensor.specs.Tensor.{entries_of}
use Rattle.yukawa_one_loop.specs.Entries.{with_value}
use Rattle.quartic_one_loop.proofs.pushes.push_multiple.Given as goal

abbrev pub invariant-loop-place : goal.invariant-loop-place
invariant-loop-place l = l.values ≡ l.initial.values ++ map (with_value (mul_poly l.factor)) (take l.place (entries_of l.tensor))
