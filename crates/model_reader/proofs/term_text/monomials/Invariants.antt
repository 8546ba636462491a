use Rattle.std.proofs.Common.{◌≡◌, true, length}
use Rattle.model_core.specs.TermText.{spelling, is_whole}
use Rattle.model_core.specs.TermGrammar.{Start, AfterFactors}
use Rattle.model_reader.specs.Parsing.{Reads}
use Rattle.model_reader.proofs.term_text.monomials.Given as goal

-- the monomials so far are read
abbrev pub invariant-loop-negative : goal.invariant-loop-negative
invariant-loop-negative l = (is_whole l.sum ≡ true) × Reads Start AfterFactors l.tokens (spelling l.sum) l.left

abbrev pub decreases-loop-negative : goal.decreases-loop-negative
decreases-loop-negative l = length l.left
