use Rattle.std.proofs.Common.{arith}
use Rattle.gauge_check.proofs.ActionRuns.{groups_more, groups_end}
use Rattle.gauge_check.proofs.action.actions_of.Goals as goal

pub loop-place-preserved : goal.loop-place-preserved
loop-place-preserved c =
    groups_more c.args.model.now c.loop-place.place c.item-group.result.now c.loop-place.actions c.push_generators.new.actions c.item-group.ensures c.loop-place.invariant c.in_ok-push_generators.ensures

pub returns : goal.returns
returns c =
    groups_end c.args.model.now c.loop-place.place c.loop-place.actions (omega (arith, c.loop-place-test.false, c.loop-place.auto.place-end, c.len-place-end.ensures)) c.loop-place.invariant
