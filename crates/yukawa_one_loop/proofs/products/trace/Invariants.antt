use Rattle.std.proofs.Common.{◌≡◌}
use Rattle.yukawa_one_loop.proofs.MatrixProducts.{diagonal_sum}
use Rattle.yukawa_one_loop.proofs.products.trace.Given as goal

abbrev pub invariant-loop-place : goal.invariant-loop-place
invariant-loop-place l = l.sum ≡ diagonal_sum l.matrix l.place
