use Rattle.std.proofs.Common.{arith, sym, ◌∙◌}
use Rattle.std.proofs.lemmas.Result.{IfOk-weaker}
use Rattle.sparse_tensor.specs.Tensor.{HasValues, rank_of, value}
use Rattle.gauge_check.specs.Actions.{leg_links, acted_along}
use Rattle.sparse_tensor.specs.Operations.{entry, gathered_at}
use Rattle.std.proofs.Common.{map}
use Rattle.gauge_check.proofs.Gathers.{acted_none, acted_step, has_acted}
use Rattle.gauge_check.proofs.parts.acted.Goals as goal

pub loop-leg-init : goal.loop-leg-init
loop-leg-init c = acted_none (leg_links c.args.action.now c.args.kind c.args.side) c.args.part.now c.new-values.result c.new-values.ensures

pub loop-leg-preserved : goal.loop-leg-preserved
loop-leg-preserved c =
    acted_step (leg_links c.args.action.now c.args.kind c.args.side) c.args.part.now c.loop-leg.leg c.leg_links.result.now c.in_ok-moved.moved c.loop-leg.values c.push_entries.new.values c.leg_links.ensures c.loop-leg.invariant c.in_ok-moved.ensures.value
    c.in_ok-push_entries.ensures

pub gather-requires-clause-keys : goal.gather-requires-clause-keys
gather-requires-clause-keys c k d within = c.loop-leg.invariant.keys k d within ∙ sym c.rank.ensures.value

pub returns-clause-value : goal.returns-clause-value
returns-clause-value c =
    let part = c.args.part.now in
    let links = leg_links c.args.action.now c.args.kind c.args.side in
    let ends = c.rank-leg-end.ensures.value in
    IfOk-weaker c.gather.result (HasValues c.rank.result (gathered_at (map entry c.loop-leg.values))) (HasValues (rank_of part) (acted_along links (rank_of part) (value part)))
    (λ found has. has_acted links part c.loop-leg.leg c.rank.result c.loop-leg.values found (omega (arith, ends, c.loop-leg-test.false, c.loop-leg.auto.leg-end)) c.rank.ensures.value c.loop-leg.invariant has)
    c.gather.ensures.value
