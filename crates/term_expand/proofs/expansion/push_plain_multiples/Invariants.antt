use Rattle.std.proofs.Common.{◌≡◌, ◌++◌, drop}
use Rattle.term_expand.specs.Moves.{plain_multiples}
use Rattle.term_expand.proofs.expansion.push_plain_multiples.Given as goal

-- the values so far, and those of the texts that are left
abbrev pub invariant-loop-text : goal.invariant-loop-text
invariant-loop-text l = l.fn.values ++ plain_multiples l.symbol l.texts ≡ l.values ++ plain_multiples l.symbol (drop l.text-index l.texts)
