use Rattle.std.proofs.Common.{◌≡◌, ◌++◌, take}
use Rattle.std.specs.Prelude.{map}
use Rattle.sparse_tensor.specs.Collected.{moved}
use Rattle.sparse_tensor.proofs.projections.push_all_moved.Given as goal

abbrev pub invariant-loop-link : goal.invariant-loop-link
invariant-loop-link l = l.out.items ≡ l.initial.out.items ++ map (moved l.leg l.entry) (take l.link-index l.links)
