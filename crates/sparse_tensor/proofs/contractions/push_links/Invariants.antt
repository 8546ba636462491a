use Rattle.std.proofs.Common.{◌≡◌, ◌++◌, take}
use Rattle.std.specs.Prelude.{map}
use Rattle.sparse_tensor.specs.Collected.{met_along}
use Rattle.sparse_tensor.proofs.contractions.push_links.Given as goal

abbrev pub invariant-loop-link : goal.invariant-loop-link
invariant-loop-link l = l.out.items ≡ l.initial.out.items ++ met_along l.legs.first l.legs.second (take l.link-index l.links) (map (λ b. b.now) l.order) l.a
