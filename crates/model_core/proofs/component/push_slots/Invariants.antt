use Rattle.std.proofs.Common.{◌≡◌, ◌++◌, replicate}
use Rattle.model_core.proofs.component.push_slots.Given as goal

abbrev pub invariant-loop-i : goal.invariant-loop-i
invariant-loop-i l = l.sizes ≡ l.initial.sizes ++ replicate l._i l.n
