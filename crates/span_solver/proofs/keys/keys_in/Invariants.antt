use Rattle.std.proofs.Common.{◌≡◌, take, map}
use Rattle.sparse_tensor.specs.Tensor.{entries_of}
use Rattle.span_solver.proofs.keys.keys_in.Given as goal

abbrev pub invariant-loop-place : goal.invariant-loop-place
invariant-loop-place l = l.out.items ≡ take l.place (map (λ e. e.0) (entries_of l.tensor))
