use Rattle.std.proofs.Common.{◌≡◌, ℕ, ◌+◌, ◌*◌, ◌^◌, pos, false, sym, subst, ap₂, ◌∙◌, arith}
use Rattle.std.specs.Prelude.{◌-ℤ◌}
use Rattle.frac128.specs.Rational.{whole, ◌/ℚ◌}
use Rattle.model_core.specs.declared.group.Group.{Group}
use Rattle.model_core.specs.Groups.{is_abelian}
use Rattle.model_core.specs.Multiplet.{fermion_copies, scalar_copies, doubled_index_sum}
use Rattle.model_core.proofs.Dimensions.{group_passes_at, group_limit_at}
use Rattle.model_core.proofs.ValidLaws.{valid_parts, parts_groups, special_size}
use Rattle.gauge_two_loop.specs.Refused.{IsShare}
use Rattle.gauge_two_loop.proofs.CasimirSums.{own-abelian, own-special}
use Rattle.gauge_two_loop.proofs.Shares.{weaker, share_whole, sixths_share}
use Rattle.gauge_two_loop.proofs.casimirs.own_of.Goals as goal

pub returns-then-is_abelian-clause-value : goal.returns-then-is_abelian-clause-value
returns-then-is_abelian-clause-value c =
    c.zero.ensures ∙ sym (own-abelian c.args.model.now c.requires.valid (c.args.k, c.args.group.now) (sym c.is_abelian.ensures ∙ c.if-is_abelian.true))

pub returns-then-is_abelian-clause-bound : goal.returns-then-is_abelian-clause-bound
returns-then-is_abelian-clause-bound c =
    subst (IsShare 129600 (2 ^ 91)) (sym c.zero.ensures) (weaker 129600 0 (2 ^ 91) _ (omega arith) (share_whole 0 129600 (omega arith)))

pub fermion_index-fermions-requires-clause-special : goal.fermion_index-fermions-requires-clause-special
fermion_index-fermions-requires-clause-special c =
    let model = c.args.model.now in
    let passes = group_passes_at model.groups c.args.k c.args.group.now (parts_groups model (valid_parts model c.requires.valid)) c.requires.group in
    special_size c.args.group.now passes (sym c.is_abelian.ensures ∙ c.if-is_abelian.false)

pub scalar_index-scalars-requires-clause-special : goal.scalar_index-scalars-requires-clause-special
scalar_index-scalars-requires-clause-special c =
    let model = c.args.model.now in
    let passes = group_passes_at model.groups c.args.k c.args.group.now (parts_groups model (valid_parts model c.requires.valid)) c.requires.group in
    special_size c.args.group.now passes (sym c.is_abelian.ensures ∙ c.if-is_abelian.false)

pub sixths-requires-clause-n : goal.sixths-requires-clause-n
sixths-requires-clause-n c =
    let model = c.args.model.now in
    group_limit_at model.groups c.args.k c.args.group.now (parts_groups model (valid_parts model c.requires.valid)) c.requires.group

pub returns-clause-value : goal.returns-clause-value
returns-clause-value c =
    let model = c.args.model.now in
    let group = c.args.group.now in
    let k : ℕ × Group = (c.args.k, group) in
    let fermions : c.fermion_index-fermions.result ≡ doubled_index_sum fermion_copies model.groups c.args.k group model.fermions = cc in
    let scalars : c.scalar_index-scalars.result ≡ doubled_index_sum scalar_copies model.groups c.args.k group model.scalars = cc in
    let other : is_abelian group ≡ false = sym c.is_abelian.ensures ∙ c.if-is_abelian.false in
    c.sixths.ensures
    ∙ ap₂ (λ f s. whole (pos (group.n * (10 * f + s)) -ℤ pos (68 * (group.n * group.n))) /ℚ whole (pos 6)) fermions scalars
    ∙ sym (own-special model c.requires.valid k c.requires.group other)

pub returns-clause-bound : goal.returns-clause-bound
returns-clause-bound c =
    let model = c.args.model.now in
    let group = c.args.group.now in
    let limit = group_limit_at model.groups c.args.k group (parts_groups model (valid_parts model c.requires.valid)) c.requires.group in
    subst (IsShare 129600 (2 ^ 91)) (sym c.sixths.ensures) (sixths_share group.n c.fermion_index-fermions.result c.scalar_index-scalars.result limit c.fermion_index-fermions.ensures.bound c.scalar_index-scalars.ensures.bound)
