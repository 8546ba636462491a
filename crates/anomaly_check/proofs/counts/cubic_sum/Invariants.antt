use Rattle.std.proofs.Common.{◌≡◌, ◌≤◌, ◌*◌, ◌^◌, drop}
use Rattle.std.specs.Prelude.{◌+ℤ◌, unsigned_abs}
use Rattle.anomaly_check.specs.Counts.{cubic_sum}
use Rattle.anomaly_check.proofs.counts.cubic_sum.Given as goal

abbrev pub invariant-loop-field : goal.invariant-loop-field
invariant-loop-field l = record {
  so_far : l.sum +ℤ cubic_sum l.groups l.place l.group (drop l.field-index l.fields) ≡ cubic_sum l.groups l.place l.group l.fields;
  bound : unsigned_abs l.sum ≤ l.field-index * 2 ^ 50;
}
