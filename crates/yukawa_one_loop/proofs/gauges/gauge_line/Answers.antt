use Rattle.std.proofs.Common.{ap₂, arith}
use Rattle.std.proofs.lemmas.Option.{slice_get_within}
use Rattle.model_core.proofs.ValidLaws.{valid_parts, parts_groups, group_limit}
use Rattle.yukawa_one_loop.proofs.gauges.gauge_line.Goals as goal

pub gauge_factor-requires : goal.gauge_factor-requires
gauge_factor-requires c =
    let groups = c.args.model.now.groups in
    omega (arith, slice_get_within groups c.args.place c.args.group.now c.requires.group, group_limit groups (parts_groups c.args.model.now (valid_parts c.args.model.now c.requires.valid)))

pub returns-clause-value : goal.returns-clause-value
returns-clause-value c = ap₂ (λ cs f. record { casimirs = cs; factor = f }) c.in_ok-casimirs.ensures.value c.in_ok-factor.ensures
