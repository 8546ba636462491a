use Rattle.gauge_check.proofs.ActionRuns.{extends_pushed}
use Rattle.gauge_check.proofs.action.push_action.Goals as goal

pub returns : goal.returns
returns c =
    extends_pushed c.args.model.now c.args.generator c.args.actions.now c.push.new.self c.in_ok-action.action c.in_ok-action.ensures c.in_ok-push.ensures.ok
