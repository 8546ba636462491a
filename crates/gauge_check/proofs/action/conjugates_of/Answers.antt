use Rattle.gauge_check.proofs.MatrixLinks.{conjugate_step}
use Rattle.gauge_check.proofs.action.conjugates_of.Goals as goal

pub loop-component-preserved : goal.loop-component-preserved
loop-component-preserved c =
    conjugate_step c.args.components.now c.loop-component.found c.push.new.self c.loop-component.component-index c.component-item.result c.copy.result c.loop-component.invariant c.loop-component-test.true c.component-item.is c.in_ok-push.ensures.ok c.copy.ensures
