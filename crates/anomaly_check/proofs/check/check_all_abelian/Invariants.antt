use Rattle.std.proofs.Common.{◌≡◌, drop}
use Rattle.std.specs.Prelude.{filter}
use Rattle.std.specs.List.{flat_map}
use Rattle.model_core.specs.Groups.{is_abelian}
use Rattle.model_core.specs.Anomaly.{is_bad, charge_traces, places, abelian_places}
use Rattle.anomaly_check.proofs.check.check_all_abelian.Given as goal

abbrev pub invariant-loop-place : goal.invariant-loop-place
invariant-loop-place l = record {
  passed : filter is_bad (flat_map (charge_traces l.model) (abelian_places l.model)) ≡ filter is_bad (flat_map (charge_traces l.model) (filter (λ at. is_abelian at.1) (drop l.place (places l.model))));
}
