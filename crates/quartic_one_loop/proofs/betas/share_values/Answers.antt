use Rattle.quartic_one_loop.proofs.BetaValues.{all_shares}
use Rattle.quartic_one_loop.proofs.betas.share_values.Goals as goal

pub returns-clause-value : goal.returns-clause-value
returns-clause-value c =
    all_shares c.args.model.now c.new-values.result c.push_loops.new.values c.push_boxes.new.values c.push_legs.new.values c.push_charges.new.values c.push_gauges.new.values c.new-values.ensures
    c.in_ok-push_loops.ensures.value c.in_ok-push_boxes.ensures.value c.in_ok-push_legs.ensures.value c.in_ok-push_charges.ensures.value c.in_ok-push_gauges.ensures.value
