-- The product of the numbers that factors are, factor by factor.
use Rattle.std.proofs.Common.{◌≡◌, ℕ, ◌+◌, ◌<◌, ◌≤◌, List, length, drop, get_or, sym, ap, ◌∙◌}
use Rattle.std.proofs.lemmas.List.{at_drop_more, at_drop_all}
use Rattle.exact_algebra.specs.Ring.{multiplicative}
use Rattle.exact_algebra.specs.Totals.{total-nil, total-cons}
use Rattle.frac128.specs.Rational.{ℚ, ◌*ℚ◌}
use Rattle.frac128.specs.RationalLaws.{ring_ℚ, *ℚ_assoc, *ℚ-one}
use Rattle.model_core.specs.declared.model.Model.{Model}
use Rattle.model_core.specs.declared.term.Factor.{Factor}
use Rattle.model_core.specs.declared.content.LabelValue.{LabelValue}
use Rattle.model_core.specs.MonomialValue.{factor_at, factors_at}

next_factor : (model : Model) (slots : List LabelValue) (factors : List Factor) (i : ℕ) (d : Factor) → i < length factors → factors_at model (drop i factors) slots ≡ factor_at model slots (get_or factors i d) *ℚ factors_at model (drop (i + 1) factors) slots
next_factor model slots factors i d within =
    at_drop_more (λ rest. factors_at model rest slots) factors i d within
    ∙ total-cons (multiplicative ring_ℚ.semiring) (get_or factors i d) (drop (i + 1) factors) (factor_at model slots)

-- the next factor is multiplied in
pub factor_step : (model : Model) (slots : List LabelValue) (value number : ℚ) (factors : List Factor) (i : ℕ) (factor : Factor) → i < length factors → factor ≡ get_or factors i factor → number ≡ factor_at model slots factor → (value *ℚ number) *ℚ factors_at model (drop (i + 1) factors) slots ≡ value *ℚ factors_at model (drop i factors) slots
factor_step model slots value number factors i factor within is known =
    *ℚ_assoc value number (factors_at model (drop (i + 1) factors) slots)
    ∙ ap (λ k. value *ℚ (k *ℚ factors_at model (drop (i + 1) factors) slots)) (known ∙ ap (factor_at model slots) is)
    ∙ ap (λ k. value *ℚ k) (sym (next_factor model slots factors i factor within))

-- no factor is left
pub no_factor : (model : Model) (slots : List LabelValue) (value : ℚ) (factors : List Factor) (i : ℕ) → length factors ≤ i → value *ℚ factors_at model (drop i factors) slots ≡ value
no_factor model slots value factors i past =
    ap (λ k. value *ℚ k) (at_drop_all (λ rest. factors_at model rest slots) factors i past ∙ total-nil (multiplicative ring_ℚ.semiring) (factor_at model slots)) ∙ *ℚ-one value
