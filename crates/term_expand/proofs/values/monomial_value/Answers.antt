use Rattle.std.proofs.Common.{◌∙◌, ◌+◌, ap, sym, drop}
use Rattle.frac128.specs.Rational.{◌*ℚ◌}
use Rattle.model_core.specs.MonomialValue.{factors_at}
use Rattle.term_expand.proofs.FactorProducts.{factor_step, no_factor}
use Rattle.term_expand.proofs.values.monomial_value.Goals as goal

pub loop-factor-preserved : goal.loop-factor-preserved
loop-factor-preserved c =
    let items = c.as_slice-factor-items.result.now in
    let i = c.loop-factor.factor-index in
    ap (λ value. value *ℚ factors_at c.args.model.now (drop (i + 1) items) c.args.slots.now) c.in_ok-value.ensures.value
    ∙ factor_step c.args.model.now c.args.slots.now c.loop-factor.value c.in_ok-number.number items i c.factor-item.result c.loop-factor-test.true c.factor-item.is c.in_ok-number.ensures
    ∙ c.loop-factor.invariant

pub returns-clause-value : goal.returns-clause-value
returns-clause-value c =
    sym (no_factor c.args.model.now c.args.slots.now c.loop-factor.value c.as_slice-factor-items.result.now c.loop-factor.factor-index c.loop-factor-test.false)
    ∙ c.loop-factor.invariant
