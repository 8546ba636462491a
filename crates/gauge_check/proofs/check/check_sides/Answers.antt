use Rattle.std.proofs.Common.{◌++◌, Err}
use Rattle.std.proofs.lemmas.Result.{err_from_is_err_and}
use Rattle.model_core.specs.Invariance.{failures_under}
use Rattle.gauge_check.specs.Steps.{side_failures}
use Rattle.gauge_check.proofs.Walks.{checks_before, checks_after, checks_same, checks_exit, under_sides}
use Rattle.gauge_check.proofs.check.check_sides.Goals as goal

pub returns-in_err-check_side : goal.returns-in_err-check_side
returns-in_err-check_side c meant places kinds plain conjugate =
    let model = c.args.model.now in
    let term = c.args.term.now in
    let x = c.args.action.now.generator in
    let given = err_from_is_err_and c.from_residual.result c.from_residual.ensures.1 in
    let first = side_failures model term meant x 0 in
    let second = side_failures model term meant x 1 in
    checks_exit model (failures_under model term meant x) c.from_residual.result _ given.0 given.1 given.2
    (checks_same model (first ++ second) (failures_under model term meant x) (Err _) (under_sides model term meant x) (checks_before model _ first second (c.in_err-check_side.ensures meant places kinds plain)))

pub returns : goal.returns
returns c meant places kinds plain conjugate =
    let model = c.args.model.now in
    let term = c.args.term.now in
    let x = c.args.action.now.generator in
    let first = side_failures model term meant x 0 in
    let second = side_failures model term meant x 1 in
    checks_same model (first ++ second) (failures_under model term meant x) c.check_side-2.result (under_sides model term meant x)
    (checks_after model first second c.check_side-2.result (c.in_ok-check_side.ensures meant places kinds plain) (c.check_side-2.ensures meant places kinds conjugate))
