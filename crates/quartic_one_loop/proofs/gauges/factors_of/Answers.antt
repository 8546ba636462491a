use Rattle.std.proofs.Common.{arith}
use Rattle.model_core.specs.Generators.{generators}
use Rattle.neighbour_laws.proofs.Members.{in_at}
use Rattle.quartic_one_loop.proofs.GaugeFactors.{action_there, factors_all, factors_more, factors_none}
use Rattle.quartic_one_loop.proofs.PairSums.{of_group}
use Rattle.quartic_one_loop.proofs.gauges.factors_of.Goals as goal

pub loop-place-init : goal.loop-place-init
loop-place-init c = factors_none c.args.model.now (generators c.args.model.now) c.new-factors.result c.new-factors.ensures

pub factor_of-requires-clause-generator : goal.factor_of-requires-clause-generator
factor_of-requires-clause-generator c =
    let model = c.args.model.now in
    let x = c.item.result.now.generator in
    of_group model c.requires.valid x (in_at (generators model) c.loop-place.place x (action_there model (generators model) c.args.actions.now c.loop-place.place c.item.result.now c.requires.actions c.item.ensures))

pub loop-place-preserved : goal.loop-place-preserved
loop-place-preserved c =
    let model = c.args.model.now in
    let x = c.item.result.now.generator in
    factors_more model (generators model) c.loop-place.place x c.loop-place.factors c.push.new.self c.in_ok-factor_of.field-0
    (action_there model (generators model) c.args.actions.now c.loop-place.place c.item.result.now c.requires.actions c.item.ensures)
    c.loop-place.invariant c.in_ok-factor_of.ensures.value c.in_ok-factor_of.ensures.generator c.in_ok-push.ensures.ok

pub returns-clause-value : goal.returns-clause-value
returns-clause-value c =
    factors_all c.args.model.now c.args.actions.now c.loop-place.place c.loop-place.factors c.requires.actions (omega (arith, c.loop-place-test.false, c.len-place-end.ensures)) c.loop-place.invariant
