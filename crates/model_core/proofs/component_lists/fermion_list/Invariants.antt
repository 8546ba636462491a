use Rattle.std.proofs.Common.{◌≡◌, ◌++◌, drop}
use Rattle.model_core.specs.ComponentLists.{fermions_from}
use Rattle.model_core.proofs.component_lists.fermion_list.Given as goal

abbrev pub invariant-loop-place : goal.invariant-loop-place
invariant-loop-place l = l.components ++ fermions_from l.groups l.place (drop l.place l.fermions) ≡ fermions_from l.groups 0 l.fermions
