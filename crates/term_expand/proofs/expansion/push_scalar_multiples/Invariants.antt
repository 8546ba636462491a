use Rattle.std.proofs.Common.{◌≡◌, ◌++◌, drop}
use Rattle.term_expand.specs.Moves.{scalar_multiples}
use Rattle.term_expand.proofs.expansion.push_scalar_multiples.Given as goal

-- the values so far, and those of the texts that are left
abbrev pub invariant-loop-text : goal.invariant-loop-text
invariant-loop-text l = l.fn.values ++ scalar_multiples l.hc l.symbol l.texts ≡ l.values ++ scalar_multiples l.hc l.symbol (drop l.text-index l.texts)
