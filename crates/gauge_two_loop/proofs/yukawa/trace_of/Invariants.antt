use Rattle.std.proofs.Common.{◌≡◌, take}
use Rattle.sparse_tensor.specs.Tensor.{entries_of}
use Rattle.gauge_two_loop.specs.Pieces.{shares}
use Rattle.gauge_two_loop.proofs.yukawa.trace_of.Given as goal

abbrev pub invariant-loop-place : goal.invariant-loop-place
invariant-loop-place l = record {
  so_far : l.sum ≡ shares l.casimirs l.dummy l.yukawa (take l.place (entries_of l.yukawa));
}
