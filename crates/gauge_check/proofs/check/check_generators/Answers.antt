use Rattle.std.proofs.Common.{arith, refl}
use Rattle.std.proofs.lemmas.Result.{err_from_is_err_and}
use Rattle.model_core.specs.Generators.{generators}
use Rattle.model_core.specs.Invariance.{failures_under, direction_failures}
use Rattle.gauge_check.proofs.ActionWalks.{action_at, actions_length, action_group}
use Rattle.gauge_check.proofs.Walks.{checks_exit, walk_step, walk_stop, walk_end}
use Rattle.gauge_check.proofs.check.check_generators.Goals as goal

pub check_sides-requires-clause-action : goal.check_sides-requires-clause-action
check_sides-requires-clause-action c =
    (action_at c.args.model.now (generators c.args.model.now) c.args.actions.now c.loop-action.action-index c.action-item.result c.requires.actions c.loop-action-test.true c.action-item.is).is

pub check_sides-requires-clause-group : goal.check_sides-requires-clause-group
check_sides-requires-clause-group c =
    action_group c.args.model.now c.loop-action.action-index c.action-item.result
    (action_at c.args.model.now (generators c.args.model.now) c.args.actions.now c.loop-action.action-index c.action-item.result c.requires.actions c.loop-action-test.true c.action-item.is)

pub loop-action-init : goal.loop-action-init
loop-action-init c meant places kinds plain conjugate = refl

pub loop-action-preserved : goal.loop-action-preserved
loop-action-preserved c meant places kinds plain conjugate =
    let model = c.args.model.now in
    let i = c.loop-action.action-index in
    let at = action_at model (generators model) c.args.actions.now i c.action-item.result c.requires.actions c.loop-action-test.true c.action-item.is in
    walk_step model (failures_under model c.args.term.now meant) (generators model) i c.action-item.result.generator at.here (c.in_ok-check_sides.ensures meant places kinds plain conjugate) (c.loop-action.invariant meant places kinds plain conjugate)

pub returns-in_err-check_sides : goal.returns-in_err-check_sides
returns-in_err-check_sides c meant places kinds plain conjugate =
    let model = c.args.model.now in
    let i = c.loop-action.action-index in
    let at = action_at model (generators model) c.args.actions.now i c.action-item.result c.requires.actions c.loop-action-test.true c.action-item.is in
    let given = err_from_is_err_and c.from_residual.result c.from_residual.ensures.1 in
    checks_exit model (direction_failures model c.args.term.now meant) c.from_residual.result _ given.0 given.1 given.2
    (walk_stop model (failures_under model c.args.term.now meant) (generators model) i c.action-item.result.generator _ at.here (c.loop-action.invariant meant places kinds plain conjugate) (c.in_err-check_sides.ensures meant places kinds plain conjugate))

pub returns : goal.returns
returns c meant places kinds plain conjugate =
    let model = c.args.model.now in
    let long = actions_length model (generators model) c.args.actions.now c.requires.actions in
    let over = c.loop-action-test.false in
    walk_end model (failures_under model c.args.term.now meant) (generators model) c.loop-action.action-index (omega (arith, long, over)) (c.loop-action.invariant meant places kinds plain conjugate)
