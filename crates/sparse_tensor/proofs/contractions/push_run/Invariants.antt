use Rattle.std.proofs.Common.{◌≡◌, ◌++◌, take}
use Rattle.std.specs.Prelude.{map}
use Rattle.sparse_tensor.specs.Collected.{met}
use Rattle.sparse_tensor.proofs.contractions.push_run.Given as goal

abbrev pub invariant-loop-b : goal.invariant-loop-b
invariant-loop-b l = l.out.items ≡ l.initial.out.items ++ map (λ b. met l.legs.first l.legs.second l.a l.link b.now) (take l.b-index l.run)
