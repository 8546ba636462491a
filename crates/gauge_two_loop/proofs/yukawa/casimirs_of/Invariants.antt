use Rattle.std.proofs.Common.{◌≡◌, map, take}
use Rattle.model_core.specs.Component.{fermion_components}
use Rattle.model_core.specs.GaugeBeta.{casimir_at}
use Rattle.gauge_two_loop.proofs.yukawa.casimirs_of.Given as goal

abbrev pub invariant-loop-component : goal.invariant-loop-component
invariant-loop-component l = record {
  so_far : l.casimirs ≡ map (casimir_at l.group l.place) (take l.component-index (fermion_components l.model));
}
