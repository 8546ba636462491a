use Rattle.std.proofs.Common.{◌≡◌, ◌++◌, drop}
use Rattle.model_core.specs.TermText.{tokens, tokens_after}
use Rattle.model_reader.proofs.term_tokens.tokens_of.Given as goal

-- the tokens so far, and those of the bytes that are left
abbrev pub invariant-loop-at : goal.invariant-loop-at
invariant-loop-at l = tokens l.text ≡ l.tokens ++ tokens_after l.before l.at (drop l.at l.text)
