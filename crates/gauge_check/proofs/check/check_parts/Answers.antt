use Rattle.std.proofs.lemmas.Result.{err_from_is_err_and}
use Rattle.model_core.specs.Invariance.{direction_failures}
use Rattle.gauge_check.proofs.NearGenerators.{tells_none, tells_checks}
use Rattle.gauge_check.proofs.check.check_parts.Goals as goal

pub returns-in_err-are_invariant : goal.returns-in_err-are_invariant
returns-in_err-are_invariant c meant places kinds plain conjugate =
    let failing = direction_failures c.args.model.now c.args.term.now meant in
    let given = err_from_is_err_and c.from_residual.result c.from_residual.ensures.1 in
    tells_checks c.args.model.now failing failing c.from_residual.result _ given.0 given.1 given.2 (c.in_err-are_invariant.ensures meant places kinds plain conjugate)

pub returns-then-branch : goal.returns-then-branch
returns-then-branch c meant places kinds plain conjugate =
    tells_none c.args.model.now (direction_failures c.args.model.now c.args.term.now meant) c.in_ok-are_invariant.field-0 c.if-branch.true (c.in_ok-are_invariant.ensures meant places kinds plain conjugate)
