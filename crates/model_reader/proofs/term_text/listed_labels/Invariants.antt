use Rattle.std.proofs.Common.{◌≡◌, true, length}
use Rattle.std.specs.Prelude.{nat_lt}
use Rattle.model_core.specs.TermText.{listed_labels}
use Rattle.model_core.specs.TermGrammar.{AfterLeft, AfterLabel}
use Rattle.model_reader.specs.Parsing.{Reads}
use Rattle.model_reader.proofs.term_text.listed_labels.Given as goal

-- the labels so far are read
abbrev pub invariant-loop-rest : goal.invariant-loop-rest
invariant-loop-rest l = (nat_lt 0 (length l.labels) ≡ true) × Reads AfterLeft AfterLabel l.tokens (listed_labels l.labels) l.left

abbrev pub decreases-loop-rest : goal.decreases-loop-rest
decreases-loop-rest l = length l.left
