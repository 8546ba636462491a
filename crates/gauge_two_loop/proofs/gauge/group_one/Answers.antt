use Rattle.std.proofs.Common.{sym, ◌∙◌}
use Rattle.std.proofs.lemmas.Result.{IfOk-weaker}
use Rattle.model_core.proofs.ValidLaws.{valid_parts, parts_groups, special_size}
use Rattle.model_core.proofs.GaugeLaws.{gauge_one_loop-abelian}
use Rattle.model_core.proofs.Dimensions.{group_passes_at}
use Rattle.gauge_two_loop.proofs.Squares.{on_err}
use Rattle.gauge_two_loop.proofs.gauge.group_one.Goals as goal

pub returns-then-is_abelian-clause-value : goal.returns-then-is_abelian-clause-value
returns-then-is_abelian-clause-value c =
    let law = gauge_one_loop-abelian c.args.model.now c.args.place c.args.group.now c.requires.valid (sym c.is_abelian.ensures ∙ c.if-is_abelian.true) in
    IfOk-weaker c.abelian_one.result _ _ (λ x is. is ∙ sym law) c.abelian_one.ensures.value

pub special_one-requires-clause-special : goal.special_one-requires-clause-special
special_one-requires-clause-special c =
    let model = c.args.model.now in
    let passes = group_passes_at model.groups c.args.place c.args.group.now (parts_groups model (valid_parts model c.requires.valid)) c.requires.group in
    special_size c.args.group.now passes (sym c.is_abelian.ensures ∙ c.if-is_abelian.false)

pub returns-then-is_abelian-clause-abelian : goal.returns-then-is_abelian-clause-abelian
returns-then-is_abelian-clause-abelian c = on_err c.abelian_one.result (sym c.is_abelian.ensures ∙ c.if-is_abelian.true)
