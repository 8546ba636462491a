use Rattle.std.proofs.Common.{◌≡◌, ◌*◌, ◌^◌, take}
use Rattle.std.specs.List.{All}
use Rattle.model_core.specs.Plain.{IsPlainCharge}
use Rattle.gauge_two_loop.specs.Refused.{IsShare}
use Rattle.gauge_two_loop.specs.Casimirs.{pair_sum}
use Rattle.gauge_two_loop.proofs.casimirs.pair_sum.Given as goal

abbrev pub invariant-loop-field : goal.invariant-loop-field
invariant-loop-field l = record {
  so_far : l.sum ≡ pair_sum l.kind l.groups (l.k, l.first) (l.l, l.second) (take l.field-index l.fields);
  bound : All (λ field. IsPlainCharge field.charge) l.fields → IsShare 129600 (l.field-index * 2 ^ 76) l.sum;
}
