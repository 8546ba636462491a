use Rattle.std.proofs.Common.{◌≡◌, drop, None}
use Rattle.model_core.specs.TermGrammar.{start_after}
use Rattle.model_reader.proofs.term_tokens.start_after.Given as goal

-- the tokens that are left to pass over, in the bytes that are left
abbrev pub invariant-loop-at : goal.invariant-loop-at
invariant-loop-at l = start_after l.count None 0 l.text ≡ start_after l.left l.before l.at (drop l.at l.text)
