use Rattle.std.proofs.Common.{◌≡◌, ◌++◌, map, take}
use Rattle.beta_poly.specs.Polynomial.{scale_poly}
use Rattle.sparse_tensor.specs.Tensor.{entries_of}
use Rattle.yukawa_one_loop.specs.Entries.{with_value}
use Rattle.quartic_one_loop.proofs.pushes.push_scaled.Given as goal

abbrev pub invariant-loop-place : goal.invariant-loop-place
invariant-loop-place l = l.values ≡ l.initial.values ++ map (with_value (scale_poly l.number)) (take l.place (entries_of l.tensor))
