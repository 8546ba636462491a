use Rattle.std.proofs.Common.{◌*◌, ◌^◌, pos, sym, subst, ap, ◌∙◌, arith}
use Rattle.exact_algebra.specs.Sums.{sum-nil}
use Rattle.frac128.specs.Rational.{whole, ◌+ℚ◌, ◌*ℚ◌}
use Rattle.frac128.specs.RationalLaws.{ring_ℚ}
use Rattle.model_core.specs.Multiplet.{field_size, fermion_copies}
use Rattle.model_core.specs.Valid.{is_field}
use Rattle.gauge_two_loop.specs.Refused.{IsSquareSum}
use Rattle.gauge_two_loop.proofs.Squares.{none, weaker, on_err, plain_at, charge_square_sum-more, next_bound, all_bound, fields_few}
use Rattle.gauge_two_loop.proofs.abelian.fermion_squares.Goals as goal

pub loop-field-init : goal.loop-field-init
loop-field-init c = record {
  so_far = c.zero-sum.ensures ∙ sym (sum-nil ring_ℚ.semiring _);
  bound = λ plain. subst (IsSquareSum 0) (sym c.zero-sum.ensures) none;
}

pub loop-field-preserved : goal.loop-field-preserved
loop-field-preserved c =
    let groups = c.args.groups.now in
    let fields = c.args.fields.now in
    let field = c.field-item.result in
    let i = c.loop-field.field-index in
    record {
      so_far =
          c.in_ok-sum.ensures.value
          ∙ ap (λ k. k +ℚ whole (pos (fermion_copies field * field_size groups field)) *ℚ (field.charge *ℚ field.charge)) c.loop-field.invariant.so_far
          ∙ sym (charge_square_sum-more fermion_copies groups fields i field c.field-item.is c.loop-field-test.true);
      bound = λ plain. next_bound i c.in_ok-sum.sum (c.in_ok-sum.ensures.bound (i * 72559411200) (c.loop-field.invariant.bound plain) (plain_at fields i field c.field-item.is c.loop-field-test.true plain));
    }

pub returns-in_err-sum-clause-large : goal.returns-in_err-sum-clause-large
returns-in_err-sum-clause-large c =
    let groups = c.args.groups.now in
    let fields = c.args.fields.now in
    let i = c.loop-field.field-index in
    let few = fields_few 24 (is_field groups) fields (omega arith) c.requires.fields in
    let within = c.loop-field-test.true in
    on_err c.from_residual.result (λ plain. c.in_err-sum.ensures.large (
      weaker (2 ^ 50) (2 ^ 60) c.loop-field.sum (omega arith) (all_bound i c.loop-field.sum (omega (arith, few, within)) (c.loop-field.invariant.bound plain)),
      plain_at fields i c.field-item.result c.field-item.is within plain,
    ))

pub returns-clause-bound : goal.returns-clause-bound
returns-clause-bound c = λ plain.
    let fields = c.args.fields.now in
    let i = c.loop-field.field-index in
    let few = fields_few 24 (is_field c.args.groups.now) fields (omega arith) c.requires.fields in
    all_bound i c.loop-field.sum (omega (arith, few, c.loop-field.auto.field-index-end)) (c.loop-field.invariant.bound plain)
