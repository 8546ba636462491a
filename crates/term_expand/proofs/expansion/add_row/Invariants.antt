use Rattle.std.proofs.Common.{◌≡◌, ◌+◌}
use Rattle.model_core.specs.Directions.{numbered}
use Rattle.term_expand.specs.Expansion.{Adds}
use Rattle.term_expand.proofs.Numbered.{first_cells}
use Rattle.term_expand.proofs.expansion.add_row.Given as goal

abbrev pub invariant-loop-step : goal.invariant-loop-step
invariant-loop-step l = record {
  added : Adds l.model (numbered l.place.term l.place.id l.term (first_cells l.term l.row l.step)) l.initial.sums l.sums;
  numbered : l.id ≡ l.place.id + l.step;
}
