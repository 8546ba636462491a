use Rattle.std.proofs.Common.{◌≡◌, map, take}
use Rattle.beta_poly.specs.Polynomial.{conj_poly}
use Rattle.sparse_tensor.specs.Tensor.{entries_of}
use Rattle.yukawa_one_loop.specs.Entries.{with_value}
use Rattle.yukawa_one_loop.proofs.matrices.conjugated.Given as goal

abbrev pub invariant-loop-at : goal.invariant-loop-at
invariant-loop-at l = l.values ≡ map (with_value conj_poly) (take l.at (entries_of l.tensor))
