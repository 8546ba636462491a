use Rattle.std.proofs.Common.{◌≡◌, ◌+◌, length}
use Rattle.model_core.specs.Directions.{numbered}
use Rattle.term_expand.specs.Expansion.{Adds}
use Rattle.term_expand.proofs.NumberedTerms.{first_rows}
use Rattle.term_expand.proofs.expansion.add_term.Given as goal

abbrev pub invariant-loop-row : goal.invariant-loop-row
invariant-loop-row l = record {
  added : Adds l.model (numbered l.place.term l.place.id l.term (first_rows l.term l.row)) l.initial.sums l.sums;
  numbered : l.id ≡ l.place.id + length (first_rows l.term l.row);
}
