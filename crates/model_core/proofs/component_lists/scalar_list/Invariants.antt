use Rattle.std.proofs.Common.{◌≡◌, ◌++◌, drop}
use Rattle.model_core.specs.ComponentLists.{scalars_from}
use Rattle.model_core.proofs.component_lists.scalar_list.Given as goal

abbrev pub invariant-loop-place : goal.invariant-loop-place
invariant-loop-place l = l.components ++ scalars_from l.groups l.place (drop l.place l.scalars) ≡ scalars_from l.groups 0 l.scalars
