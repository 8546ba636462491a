use Rattle.std.proofs.Common.{◌≤◌, ◌*◌, ◌^◌, sym, subst, ◌∙◌, arith}
use Rattle.std.proofs.lemmas.Result.{IfOk-weaker}
use Rattle.model_core.proofs.Dimensions.{group_passes_at}
use Rattle.model_core.proofs.ValidLaws.{special_size}
use Rattle.gauge_two_loop.specs.Refused.{IsShare}
use Rattle.gauge_two_loop.proofs.Shares.{counted_square, counted_index, twice_small}
use Rattle.gauge_two_loop.proofs.casimirs.weight_of.Goals as goal

pub returns-then-is_abelian-clause-bound : goal.returns-then-is_abelian-clause-bound
returns-then-is_abelian-clause-bound c = λ plain.
    let count = 2 * (c.args.count * c.field_size.result) in
    let few : count ≤ 40310784 = omega (arith, twice_small c.args.count c.field_size.result c.requires.count c.field_size.ensures.bound) in
    IfOk-weaker c.squares.result _ (IsShare 360 (2 ^ 60)) (λ x is. subst (IsShare 360 (2 ^ 60)) (sym is) (counted_square count c.args.field.now.charge few plain)) c.squares.ensures.value

pub field_index-requires-clause-special : goal.field_index-requires-clause-special
field_index-requires-clause-special c =
    special_size c.args.group.now (group_passes_at c.args.groups.now c.args.place c.args.group.now c.requires.groups c.requires.group) (sym c.is_abelian.ensures ∙ c.if-is_abelian.false)

pub returns-clause-bound : goal.returns-clause-bound
returns-clause-bound c = λ plain.
    subst (IsShare 360 (2 ^ 60)) (sym c.whole_of.ensures) (counted_index c.args.count c.field_index.result c.requires.count c.field_index.ensures.bound)
