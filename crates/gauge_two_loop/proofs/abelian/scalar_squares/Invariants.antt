use Rattle.std.proofs.Common.{◌≡◌, ◌*◌, take}
use Rattle.std.specs.List.{All}
use Rattle.model_core.specs.Multiplet.{scalar_copies, charge_square_sum}
use Rattle.model_core.specs.Plain.{IsPlainCharge}
use Rattle.gauge_two_loop.specs.Refused.{IsSquareSum}
use Rattle.gauge_two_loop.proofs.abelian.scalar_squares.Given as goal

abbrev pub invariant-loop-field : goal.invariant-loop-field
invariant-loop-field l = record {
  so_far : l.sum ≡ charge_square_sum scalar_copies l.groups (take l.field-index l.fields);
  bound : All (λ field. IsPlainCharge field.charge) l.fields → IsSquareSum (l.field-index * 72559411200) l.sum;
}
