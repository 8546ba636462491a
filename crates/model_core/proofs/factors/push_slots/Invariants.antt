use Rattle.std.proofs.Common.{◌≡◌, ◌++◌, replicate}
use Rattle.model_core.proofs.factors.push_slots.Given as goal

abbrev pub invariant-loop-i : goal.invariant-loop-i
invariant-loop-i l = l.groups ≡ l.initial.groups ++ replicate l._i l.place
