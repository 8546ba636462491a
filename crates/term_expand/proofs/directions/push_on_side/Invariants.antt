use Rattle.std.proofs.Common.{◌≡◌, ◌++◌, map, take}
use Rattle.sparse_tensor.specs.Tensor.{entries_of}
use Rattle.term_expand.specs.Multiples.{entry_on_side}
use Rattle.term_expand.proofs.directions.push_on_side.Given as goal

abbrev pub invariant-loop-place : goal.invariant-loop-place
invariant-loop-place l = l.values ≡ l.initial.values ++ map (entry_on_side l.side) (take l.place (entries_of l.tensor))
