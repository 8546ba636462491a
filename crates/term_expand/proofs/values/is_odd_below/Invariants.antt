use Rattle.std.proofs.Common.{◌≡◌, take}
use Rattle.std.specs.List.{count_by}
use Rattle.model_core.specs.MonomialValue.{is_less}
use Rattle.term_expand.specs.Parity.{is_odd}
use Rattle.term_expand.proofs.values.is_odd_below.Given as goal

abbrev pub invariant-loop-other : goal.invariant-loop-other
invariant-loop-other l = l.odd ≡ is_odd (count_by (is_less l.value) (take l.other-index l.values))
