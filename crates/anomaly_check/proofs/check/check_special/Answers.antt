use Rattle.std.proofs.Common.{sym, ◌∙◌}
use Rattle.model_core.proofs.ValidLaws.{valid_parts, parts_groups, special_size}
use Rattle.model_core.proofs.Dimensions.{group_passes_at}
use Rattle.anomaly_check.proofs.check.check_special.Goals as goal

pub check_own-requires-clause-special : goal.check_own-requires-clause-special
check_own-requires-clause-special c =
    let model = c.args.model.now in
    let passes = group_passes_at model.groups c.args.place c.args.group.now (parts_groups model (valid_parts model c.requires.valid)) c.requires.group in
    special_size c.args.group.now passes (sym c.is_abelian.ensures ∙ c.if-is_abelian.false)

pub check_mixed-requires-clause-special : goal.check_mixed-requires-clause-special
check_mixed-requires-clause-special c =
    let model = c.args.model.now in
    let passes = group_passes_at model.groups c.args.place c.args.group.now (parts_groups model (valid_parts model c.requires.valid)) c.requires.group in
    special_size c.args.group.now passes (sym c.is_abelian.ensures ∙ c.if-is_abelian.false)
