use Rattle.std.proofs.Common.{◌≡◌, drop}
use Rattle.std.specs.Prelude.{filter}
use Rattle.std.specs.List.{flat_map}
use Rattle.model_core.specs.Anomaly.{is_bad, special_traces, places}
use Rattle.anomaly_check.proofs.check.check_all_special.Given as goal

abbrev pub invariant-loop-place : goal.invariant-loop-place
invariant-loop-place l = record {
  passed : filter is_bad (flat_map (special_traces l.model) (places l.model)) ≡ filter is_bad (flat_map (special_traces l.model) (drop l.place (places l.model)));
}
