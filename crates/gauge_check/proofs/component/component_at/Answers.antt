use Rattle.gauge_check.proofs.Components.{has_place, legs_step, legs_end, legs_room}
use Rattle.gauge_check.proofs.component.component_at.Goals as goal

pub leg_at-requires-clause-inside : goal.leg_at-requires-clause-inside
leg_at-requires-clause-inside c =
    has_place c.args.model.now c.args.kind c.args.key.now c.loop-leg.leg c.requires.inside c.loop-leg-test.true

pub push-requires : goal.push-requires
push-requires c =
    legs_room c.args.model.now c.args.kind c.args.side c.args.key.now c.loop-leg.leg c.loop-leg.component c.requires.inside c.loop-leg-test.true c.loop-leg.invariant

pub loop-leg-preserved : goal.loop-leg-preserved
loop-leg-preserved c =
    legs_step c.args.model.now c.args.side c.args.kind c.args.key.now c.loop-leg.leg c.loop-leg.component c.push.new.self c.leg_at.result c.loop-leg-test.true c.loop-leg.invariant c.leg_at.ensures c.push.ensures

pub returns : goal.returns
returns c =
    legs_end c.args.model.now c.args.side c.args.kind c.args.key.now c.loop-leg.leg c.loop-leg.component c.requires.inside c.loop-leg-test.false c.loop-leg.invariant
