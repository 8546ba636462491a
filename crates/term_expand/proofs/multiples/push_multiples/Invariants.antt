use Rattle.std.proofs.Common.{◌≡◌, ◌++◌, map, take}
use Rattle.sparse_tensor.specs.Tensor.{entries_of}
use Rattle.term_expand.specs.Multiples.{multiple_entry}
use Rattle.term_expand.proofs.multiples.push_multiples.Given as goal

abbrev pub invariant-loop-place : goal.invariant-loop-place
invariant-loop-place l = l.values ≡ l.initial.values ++ map (multiple_entry l.fn.symbol) (take l.place (entries_of l.tensor))
