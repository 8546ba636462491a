use Rattle.std.proofs.Common.{◌≡◌, ◌+◌, take, length}
use Rattle.std.specs.Prelude.{sum_by}
use Rattle.model_core.specs.Content.{symbol_count}
use Rattle.model_core.specs.Directions.{entries_from}
use Rattle.term_expand.specs.Expansion.{Adds}
use Rattle.term_expand.proofs.expansion.add_terms.Given as goal

abbrev pub invariant-loop-place : goal.invariant-loop-place
invariant-loop-place l = record {
  added : Adds l.model (entries_from 1 (length l.model.groups) (take l.place l.model.terms)) l.initial.sums l.sums;
  numbered : l.id ≡ length l.model.groups + sum_by symbol_count (take l.place l.model.terms);
}
