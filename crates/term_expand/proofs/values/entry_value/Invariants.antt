use Rattle.std.proofs.Common.{◌≡◌, drop}
use Rattle.std.specs.List.{find}
use Rattle.model_core.specs.MonomialValue.{stands_at}
use Rattle.term_expand.proofs.values.entry_value.Given as goal

abbrev pub invariant-loop-entry : goal.invariant-loop-entry
invariant-loop-entry l = find (stands_at l.values) (drop l.entry-index l.entries) ≡ find (stands_at l.values) l.entries
