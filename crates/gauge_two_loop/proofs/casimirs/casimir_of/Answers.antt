use Rattle.std.proofs.Common.{sym, subst, ◌∙◌, arith}
use Rattle.std.proofs.lemmas.Option.{slice_get_within}
use Rattle.std.proofs.lemmas.Result.{on_err_weaker, IfOk-weaker}
use Rattle.frac128.specs.Rational.{◌*ℚ◌}
use Rattle.model_core.proofs.Dimensions.{group_passes_at, group_limit_at}
use Rattle.model_core.proofs.ValidLaws.{field_reps, length-reps, special_size}
use Rattle.gauge_two_loop.specs.Refused.{IsShare}
use Rattle.gauge_two_loop.proofs.Shares.{charge_share, casimir_share, share_small}
use Rattle.gauge_two_loop.proofs.casimirs.casimir_of.Goals as goal

pub returns-then-is_abelian-clause-large : goal.returns-then-is_abelian-clause-large
returns-then-is_abelian-clause-large c =
    let q = c.args.field.now.charge in
    on_err_weaker c.product_of.result (λ large plain. large (share_small 360 36000 (q *ℚ q) (omega arith) (omega arith) (omega arith) (charge_share q plain))) c.product_of.ensures.large

pub returns-then-is_abelian-clause-bound : goal.returns-then-is_abelian-clause-bound
returns-then-is_abelian-clause-bound c = λ plain.
    IfOk-weaker c.product_of.result _ (IsShare 360 36000) (λ x is. subst (IsShare 360 36000) (sym is) (charge_share c.args.field.now.charge plain)) c.product_of.ensures.value

pub item-rep-requires : goal.item-rep-requires
item-rep-requires c =
    let within = slice_get_within c.args.groups.now c.args.place c.args.group.now c.requires.group in
    omega (arith, within, length-reps c.args.groups.now c.args.field.now.reps (field_reps c.args.groups.now c.args.field.now c.requires.field))

pub casimir-requires-clause-low : goal.casimir-requires-clause-low
casimir-requires-clause-low c =
    special_size c.args.group.now (group_passes_at c.args.groups.now c.args.place c.args.group.now c.requires.groups c.requires.group) (sym c.is_abelian.ensures ∙ c.if-is_abelian.false)

pub casimir-requires-clause-high : goal.casimir-requires-clause-high
casimir-requires-clause-high c = group_limit_at c.args.groups.now c.args.place c.args.group.now c.requires.groups c.requires.group

pub returns-clause-bound : goal.returns-clause-bound
returns-clause-bound c = λ plain.
    let groups = c.args.groups.now in
    let group = c.args.group.now in
    let low = special_size group (group_passes_at groups c.args.place group c.requires.groups c.requires.group) (sym c.is_abelian.ensures ∙ c.if-is_abelian.false) in
    let high = group_limit_at groups c.args.place group c.requires.groups c.requires.group in
    subst (IsShare 360 36000) (sym c.casimir.ensures.value) (casimir_share _ _ low high)
