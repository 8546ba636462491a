use Rattle.std.proofs.Common.{◌≡◌, ◌*◌, ◌^◌, take}
use Rattle.std.specs.List.{All}
use Rattle.model_core.specs.Multiplet.{field_size}
use Rattle.model_core.specs.Plain.{IsPlainCharge}
use Rattle.anomaly_check.specs.Counts.{weighted_sum, charge, IsCubeSum}
use Rattle.anomaly_check.proofs.charges.gravity_trace.Given as goal

abbrev pub invariant-loop-field : goal.invariant-loop-field
invariant-loop-field l = record {
  so_far : l.sum ≡ weighted_sum (field_size l.groups) charge (take l.field-index l.fields);
  bound : All (λ field. IsPlainCharge field.charge) l.fields → IsCubeSum (l.field-index * 2 ^ 68) l.sum;
}
