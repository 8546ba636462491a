use Rattle.std.proofs.Common.{◌∙◌, ap, sym}
use Rattle.std.specs.Prelude.{if◌then◌else◌}
use Rattle.frac128.specs.Rational.{one_ℚ, neg_ℚ}
use Rattle.term_expand.proofs.Signs.{distinct_sign}
use Rattle.term_expand.proofs.values.levi_civita.Goals as goal

pub returns-then-is_odd : goal.returns-then-is_odd
returns-then-is_odd c =
    c.negated.ensures ∙ ap neg_ℚ c.one.ensures ∙ ap (λ b. if b then neg_ℚ one_ℚ else one_ℚ) (sym c.if-is_odd.true ∙ c.is_odd.ensures)
    ∙ sym (distinct_sign c.args.values.now (sym c.has_repeat.ensures ∙ c.if-has_repeat.false))

pub returns : goal.returns
returns c =
    c.one-2.ensures ∙ ap (λ b. if b then neg_ℚ one_ℚ else one_ℚ) (sym c.if-is_odd.false ∙ c.is_odd.ensures)
    ∙ sym (distinct_sign c.args.values.now (sym c.has_repeat.ensures ∙ c.if-has_repeat.false))
