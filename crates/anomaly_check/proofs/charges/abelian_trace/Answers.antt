use Rattle.std.proofs.Common.{◌*◌, ◌^◌, pos, sym, subst, ap, ap₂, ◌∙◌, arith}
use Rattle.exact_algebra.specs.Sums.{sum-nil}
use Rattle.frac128.specs.Rational.{whole, ◌+ℚ◌, ◌*ℚ◌}
use Rattle.frac128.specs.RationalLaws.{ring_ℚ}
use Rattle.model_core.specs.Multiplet.{field_size}
use Rattle.model_core.specs.Valid.{is_field}
use Rattle.anomaly_check.specs.Counts.{charge_cubed, IsCubeSum}
use Rattle.anomaly_check.proofs.CubeSums.{none, on_err, cube_at, weighted_sum-more, next_bound, all_bound, fields_few}
use Rattle.anomaly_check.proofs.charges.abelian_trace.Goals as goal

pub loop-field-init : goal.loop-field-init
loop-field-init c = record {
  so_far = c.zero-sum.ensures ∙ sym (sum-nil ring_ℚ.semiring _);
  bound = λ plain. subst (IsCubeSum 0) (sym c.zero-sum.ensures) none;
}

pub loop-field-preserved : goal.loop-field-preserved
loop-field-preserved c =
    let groups = c.args.groups.now in
    let fields = c.args.fields.now in
    let field = c.field-item.result in
    let i = c.loop-field.field-index in
    let cube = cube_at fields i field c.in_ok-charge_cubed.field-0 c.field-item.is c.loop-field-test.true c.in_ok-charge_cubed.ensures.value in
    record {
      so_far =
          c.in_ok-sum.ensures.value ∙ ap₂ (λ k q. c.loop-field.sum +ℚ whole (pos k) *ℚ q) c.field_size.ensures.value c.in_ok-charge_cubed.ensures.value
          ∙ ap (λ k. k +ℚ whole (pos (field_size groups field)) *ℚ charge_cubed field) c.loop-field.invariant.so_far
          ∙ sym (weighted_sum-more (field_size groups) charge_cubed fields i field c.field-item.is c.loop-field-test.true);
      bound = λ plain. next_bound i c.in_ok-sum.sum (c.in_ok-sum.ensures.bound (i * 2 ^ 68) (c.loop-field.invariant.bound plain) (cube plain));
    }

pub returns-in_err-sum-clause-large : goal.returns-in_err-sum-clause-large
returns-in_err-sum-clause-large c =
    let groups = c.args.groups.now in
    let fields = c.args.fields.now in
    let field = c.field-item.result in
    let i = c.loop-field.field-index in
    let cube = cube_at fields i field c.in_ok-charge_cubed.field-0 c.field-item.is c.loop-field-test.true c.in_ok-charge_cubed.ensures.value in
    let few = fields_few (is_field groups) fields c.requires.fields in
    let within = c.loop-field-test.true in
    on_err c.from_residual-in_err-sum.result (λ plain. c.in_err-sum.ensures.large (
      all_bound i c.loop-field.sum (omega (arith, few, within)) (c.loop-field.invariant.bound plain),
      cube plain,
    ))
