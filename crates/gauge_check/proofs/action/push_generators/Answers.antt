use Rattle.std.proofs.Common.{◌∙◌, sym}
use Rattle.gauge_check.proofs.ActionRuns.{group_special}
use Rattle.gauge_check.proofs.action.push_generators.Goals as goal

pub push_special-requires-clause-special : goal.push_special-requires-clause-special
push_special-requires-clause-special c =
    group_special c.args.model.now c.args.place c.args.group.now c.requires.valid c.requires.group (sym c.is_abelian.ensures ∙ c.if-is_abelian.false)
