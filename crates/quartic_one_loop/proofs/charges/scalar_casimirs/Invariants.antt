use Rattle.std.proofs.Common.{◌≡◌, map, take}
use Rattle.model_core.specs.GaugeBeta.{casimir_at}
use Rattle.model_core.specs.Scalar.{scalar_components}
use Rattle.quartic_one_loop.proofs.charges.scalar_casimirs.Given as goal

abbrev pub invariant-loop-component : goal.invariant-loop-component
invariant-loop-component l = record {
  so_far : l.casimirs ≡ map (casimir_at l.group l.place) (take l.component-index (scalar_components l.model));
}
