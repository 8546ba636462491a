use Rattle.std.proofs.Common.{ℕ, ◌*◌, ◌+◌, ◌^◌, sym, subst, ap, ◌∙◌, arith}
use Rattle.exact_algebra.specs.Sums.{sum-nil}
use Rattle.frac128.specs.Rational.{◌+ℚ◌, ◌*ℚ◌}
use Rattle.frac128.specs.RationalLaws.{ring_ℚ}
use Rattle.model_core.specs.declared.group.Group.{Group}
use Rattle.gauge_two_loop.specs.Refused.{IsShare}
use Rattle.gauge_two_loop.specs.Casimirs.{field_casimir, copies, weight}
use Rattle.gauge_two_loop.proofs.Squares.{on_err, plain_at}
use Rattle.gauge_two_loop.proofs.Shares.{weaker, share_whole}
use Rattle.gauge_two_loop.proofs.CasimirSums.{pair_sum-more}
use Rattle.gauge_two_loop.proofs.casimirs.pair_sum.Goals as goal

pub loop-field-init : goal.loop-field-init
loop-field-init c = record {
  so_far = c.zero-sum.ensures ∙ sym (sum-nil ring_ℚ.semiring _);
  bound = λ plain. subst (IsShare 129600 0) (sym c.zero-sum.ensures) (share_whole 0 129600 (omega arith));
}

pub loop-field-preserved : goal.loop-field-preserved
loop-field-preserved c =
    let groups = c.args.groups.now in
    let fields = c.args.fields.now in
    let field = c.field-item.result in
    let i = c.loop-field.field-index in
    let k : ℕ × Group = (c.args.k, c.args.first.now) in
    let l : ℕ × Group = (c.args.l, c.args.second.now) in
    record {
      so_far =
          c.in_ok-sum.ensures.value ∙ ap (λ n. c.loop-field.sum +ℚ weight groups k n field *ℚ field_casimir l field) c.copies-count.ensures.value
          ∙ ap (λ s. s +ℚ weight groups k (copies c.args.kind field) field *ℚ field_casimir l field) c.loop-field.invariant.so_far
          ∙ sym (pair_sum-more c.args.kind groups k l fields i field c.field-item.is c.loop-field-test.true);
      bound = λ plain.
          weaker 129600 (i * 2 ^ 76 + 2 ^ 76) ((i + 1) * 2 ^ 76) c.in_ok-sum.sum (omega arith)
          (c.in_ok-sum.ensures.bound (i * 2 ^ 76) (c.loop-field.invariant.bound plain) (plain_at fields i field c.field-item.is c.loop-field-test.true plain));
    }

pub returns-in_err-sum-clause-large : goal.returns-in_err-sum-clause-large
returns-in_err-sum-clause-large c =
    let fields = c.args.fields.now in
    let i = c.loop-field.field-index in
    let within = c.loop-field-test.true in
    on_err c.from_residual.result (λ plain. c.in_err-sum.ensures.large (
      weaker 129600 (i * 2 ^ 76) (2 ^ 100) c.loop-field.sum (omega (arith, c.requires.few, within)) (c.loop-field.invariant.bound plain),
      plain_at fields i c.field-item.result c.field-item.is within plain,
    ))

pub returns-clause-bound : goal.returns-clause-bound
returns-clause-bound c = λ plain.
    let i = c.loop-field.field-index in
    weaker 129600 (i * 2 ^ 76) (2 ^ 90) c.loop-field.sum (omega (arith, c.requires.few, c.loop-field.auto.field-index-end)) (c.loop-field.invariant.bound plain)
