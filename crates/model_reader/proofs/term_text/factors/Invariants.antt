use Rattle.std.proofs.Common.{◌≡◌, true, length}
use Rattle.std.specs.Prelude.{nat_lt}
use Rattle.std.specs.List.{flat_map}
use Rattle.model_core.specs.TermText.{factor_tokens}
use Rattle.model_core.specs.TermGrammar.{AfterLiteral, AfterFactor}
use Rattle.model_reader.specs.Parsing.{Reads}
use Rattle.model_reader.proofs.term_text.factors.Given as goal

-- the factors so far are read
abbrev pub invariant-loop-alloc : goal.invariant-loop-alloc
invariant-loop-alloc l = (nat_lt 0 (length l.factors) ≡ true) × Reads AfterLiteral AfterFactor l.tokens (flat_map factor_tokens l.factors) l.left

abbrev pub decreases-loop-alloc : goal.decreases-loop-alloc
decreases-loop-alloc l = length l.left
