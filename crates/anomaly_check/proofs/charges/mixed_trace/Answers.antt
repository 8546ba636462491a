use Rattle.std.proofs.Common.{◌*◌, ◌^◌, pos, sym, subst, ap, ◌∙◌, arith}
use Rattle.exact_algebra.specs.Sums.{sum-nil}
use Rattle.frac128.specs.Rational.{whole, ◌+ℚ◌, ◌*ℚ◌}
use Rattle.frac128.specs.RationalLaws.{ring_ℚ}
use Rattle.model_core.specs.Valid.{is_field}
use Rattle.anomaly_check.specs.Counts.{index_share, charge, IsCubeSum}
use Rattle.anomaly_check.proofs.CubeSums.{none, on_err, charge_of, plain_at, weighted_sum-more, next_bound, all_bound, fields_few}
use Rattle.anomaly_check.proofs.charges.mixed_trace.Goals as goal

pub loop-field-init : goal.loop-field-init
loop-field-init c = record {
  so_far = c.zero-sum.ensures ∙ sym (sum-nil ring_ℚ.semiring _);
  bound = λ plain. subst (IsCubeSum 0) (sym c.zero-sum.ensures) none;
}

pub loop-field-preserved : goal.loop-field-preserved
loop-field-preserved c =
    let groups = c.args.groups.now in
    let fields = c.args.fields.now in
    let field = c.field-item.result in
    let i = c.loop-field.field-index in
    record {
      so_far =
          c.in_ok-sum.ensures.value ∙ ap (λ k. c.loop-field.sum +ℚ whole (pos k) *ℚ field.charge) c.field_index-count.ensures.value
          ∙ ap (λ k. k +ℚ whole (pos (index_share groups c.args.place c.args.group.now field)) *ℚ field.charge) c.loop-field.invariant.so_far
          ∙ sym (weighted_sum-more (index_share groups c.args.place c.args.group.now) charge fields i field c.field-item.is c.loop-field-test.true);
      bound = λ plain. next_bound i c.in_ok-sum.sum (c.in_ok-sum.ensures.bound (i * 2 ^ 68) (c.loop-field.invariant.bound plain) (charge_of field.charge (plain_at fields i field c.field-item.is c.loop-field-test.true plain)));
    }

pub returns-in_err-sum-clause-large : goal.returns-in_err-sum-clause-large
returns-in_err-sum-clause-large c =
    let groups = c.args.groups.now in
    let fields = c.args.fields.now in
    let field = c.field-item.result in
    let i = c.loop-field.field-index in
    let few = fields_few (is_field groups) fields c.requires.fields in
    let within = c.loop-field-test.true in
    on_err c.from_residual.result (λ plain. c.in_err-sum.ensures.large (
      all_bound i c.loop-field.sum (omega (arith, few, within)) (c.loop-field.invariant.bound plain),
      charge_of field.charge (plain_at fields i field c.field-item.is within plain),
    ))
