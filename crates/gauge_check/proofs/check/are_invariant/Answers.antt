use Rattle.std.proofs.Common.{arith}
use Rattle.std.proofs.lemmas.Result.{err_from_is_err_and}
use Rattle.model_core.specs.Generators.{generators}
use Rattle.model_core.specs.Invariance.{direction_failures}
use Rattle.gauge_check.specs.Steps.{near_failures}
use Rattle.gauge_check.proofs.ActionWalks.{action_at, actions_length, action_group}
use Rattle.gauge_check.proofs.NearGenerators.{near_tell, near_told, tells_none, tells_some, tells_exit}
use Rattle.gauge_check.proofs.Walks.{walk_step, walk_end}
use Rattle.gauge_check.proofs.check.are_invariant.Goals as goal

pub is_invariant-requires-clause-action : goal.is_invariant-requires-clause-action
is_invariant-requires-clause-action c =
    (action_at c.args.model.now (generators c.args.model.now) c.args.actions.now c.loop-action.action-index c.action-item.result c.requires.actions c.loop-action-test.true c.action-item.is).is

pub is_invariant-requires-clause-group : goal.is_invariant-requires-clause-group
is_invariant-requires-clause-group c =
    action_group c.args.model.now c.loop-action.action-index c.action-item.result
    (action_at c.args.model.now (generators c.args.model.now) c.args.actions.now c.loop-action.action-index c.action-item.result c.requires.actions c.loop-action-test.true c.action-item.is)

pub returns-in_err-is_invariant : goal.returns-in_err-is_invariant
returns-in_err-is_invariant c meant places kinds plain conjugate =
    let model = c.args.model.now in
    let term = c.args.term.now in
    let given = err_from_is_err_and c.from_residual.result c.from_residual.ensures.1 in
    tells_exit model (near_failures model term meant c.action-item.result.generator) (direction_failures model term meant) c.from_residual.result _ given.0 given.1 given.2 (c.in_err-is_invariant.ensures meant places kinds plain conjugate)

pub returns-then-not-branch : goal.returns-then-not-branch
returns-then-not-branch c meant places kinds plain conjugate =
    let model = c.args.model.now in
    let term = c.args.term.now in
    let i = c.loop-action.action-index in
    let x = c.action-item.result.generator in
    let at = action_at model (generators model) c.args.actions.now i c.action-item.result c.requires.actions c.loop-action-test.true c.action-item.is in
    near_told model term meant i x at.here
    (tells_some model (near_failures model term meant x) c.in_ok-is_invariant.field-0 c.if-not-branch.true (c.in_ok-is_invariant.ensures meant places kinds plain conjugate))

pub loop-action-preserved : goal.loop-action-preserved
loop-action-preserved c meant places kinds plain conjugate =
    let model = c.args.model.now in
    let term = c.args.term.now in
    let i = c.loop-action.action-index in
    let x = c.action-item.result.generator in
    let at = action_at model (generators model) c.args.actions.now i c.action-item.result c.requires.actions c.loop-action-test.true c.action-item.is in
    walk_step model (near_failures model term meant) (generators model) i x at.here
    (tells_none model (near_failures model term meant x) c.in_ok-is_invariant.field-0 c.if-not-branch.false (c.in_ok-is_invariant.ensures meant places kinds plain conjugate))
    (c.loop-action.invariant meant places kinds plain conjugate)

pub returns : goal.returns
returns c meant places kinds plain conjugate =
    let model = c.args.model.now in
    let term = c.args.term.now in
    let long = actions_length model (generators model) c.args.actions.now c.requires.actions in
    let over = c.loop-action-test.false in
    near_tell model term meant c.requires.valid
    (walk_end model (near_failures model term meant) (generators model) c.loop-action.action-index (omega (arith, long, over)) (c.loop-action.invariant meant places kinds plain conjugate))
