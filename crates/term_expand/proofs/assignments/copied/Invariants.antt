use Rattle.std.proofs.Common.{◌≡◌, take}
use Rattle.term_expand.proofs.assignments.copied.Given as goal

abbrev pub invariant-loop-number : goal.invariant-loop-number
invariant-loop-number l = l.copy ≡ take l.number-index l.numbers
