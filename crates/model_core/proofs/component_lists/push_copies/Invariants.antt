use Rattle.std.proofs.Common.{◌≡◌, ◌++◌, map, take}
use Rattle.model_core.specs.Component.{copies_of}
use Rattle.model_core.specs.ComponentLists.{placed}
use Rattle.model_core.proofs.component_lists.push_copies.Given as goal

abbrev pub invariant-loop-rest : goal.invariant-loop-rest
invariant-loop-rest l =
    l.components ≡ l.initial.components ++ map (placed l.place) (take l.rest (copies_of l.conj l.groups l.field))
