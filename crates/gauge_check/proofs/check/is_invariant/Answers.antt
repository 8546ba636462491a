use Rattle.std.proofs.Common.{sym, subst, ◌∙◌}
use Rattle.model_core.specs.Invariance.{failures_under}
use Rattle.gauge_check.specs.Faults.{Tells}
use Rattle.gauge_check.specs.Steps.{near_failures}
use Rattle.gauge_check.proofs.NearGenerators.{near_same, tells_found, tells_same}
use Rattle.gauge_check.proofs.check.is_invariant.Goals as goal

pub returns : goal.returns
returns c meant places kinds plain conjugate =
    let model = c.args.model.now in
    let term = c.args.term.now in
    let x = c.args.action.now.generator in
    subst (Tells model (near_failures model term meant x)) (sym c.found_none.ensures)
    (tells_same model (failures_under model term meant x) (near_failures model term meant x) _ (sym (near_same model term meant x (sym c.is_neighbour.ensures ∙ c.if-not-is_neighbour.false)))
    (tells_found model (failures_under model term meant x) c.check_sides.result (c.check_sides.ensures meant places kinds plain conjugate)))
