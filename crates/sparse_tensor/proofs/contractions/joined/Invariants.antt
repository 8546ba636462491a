use Rattle.std.proofs.Common.{◌≡◌, take}
use Rattle.std.specs.Prelude.{map}
use Rattle.sparse_tensor.specs.Collected.{all_met}
use Rattle.sparse_tensor.proofs.contractions.joined.Given as goal

abbrev pub invariant-loop-a : goal.invariant-loop-a
invariant-loop-a l = l.out.items ≡ all_met l.legs.first l.legs.second l.links (map (λ b. b.now) l.order) (take l.a-index l.entries)
