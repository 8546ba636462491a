use Rattle.std.proofs.Common.{◌≡◌, map, take}
use Rattle.model_core.specs.MonomialValue.{value_of}
use Rattle.term_expand.proofs.values.values_of.Given as goal

abbrev pub invariant-loop-label : goal.invariant-loop-label
invariant-loop-label l = l.values ≡ map (value_of l.slots) (take l.label-index l.labels)
