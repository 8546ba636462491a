use Rattle.std.proofs.Common.{◌≡◌, drop}
use Rattle.frac128.specs.Rational.{◌*ℚ◌}
use Rattle.model_core.specs.MonomialValue.{factors_at}
use Rattle.term_expand.proofs.values.monomial_value.Given as goal

abbrev pub invariant-loop-factor : goal.invariant-loop-factor
invariant-loop-factor l =
    l.value *ℚ factors_at l.model (drop l.factor-index l.factor-items) l.slots
    ≡ l.monomial.coefficient *ℚ factors_at l.model l.monomial.factors l.slots
