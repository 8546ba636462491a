use Rattle.std.proofs.Common.{◌≡◌, take}
use Rattle.term_expand.proofs.assignments.with_candidate.Given as goal

abbrev pub invariant-loop-slot : goal.invariant-loop-slot
invariant-loop-slot l = l.slots ≡ take l.slot-index l.slot-items
