use Rattle.std.proofs.Common.{arith}
use Rattle.yukawa_one_loop.proofs.GaugeSums.{entry_meets}
use Rattle.quartic_one_loop.specs.GaugePairs.{IsGaugeFactor, factor_share}
use Rattle.quartic_one_loop.proofs.Adding.{first_all, first_more, first_none}
use Rattle.quartic_one_loop.proofs.gauges.push_pairs.Goals as goal

pub loop-place-init : goal.loop-place-init
loop-place-init c = first_none c.args.model.now c.args.factors.now (factor_share c.args.model.now c.args.left.now) c.args.values.now

pub push_pair-requires-clause-right : goal.push_pair-requires-clause-right
push_pair-requires-clause-right c =
    entry_meets (IsGaugeFactor c.args.model.now) c.args.factors.now c.loop-place.place c.item.result.now c.requires.factors.each c.item.ensures

pub loop-place-preserved : goal.loop-place-preserved
loop-place-preserved c =
    first_more c.args.model.now c.args.factors.now (factor_share c.args.model.now c.args.left.now) c.loop-place.place c.item.result.now c.args.values.now c.loop-place.values c.push_pair.new.values c.item.ensures c.loop-place.invariant c.in_ok-push_pair.ensures.value

pub returns-clause-value : goal.returns-clause-value
returns-clause-value c =
    first_all c.args.model.now c.args.factors.now (factor_share c.args.model.now c.args.left.now) c.loop-place.place c.args.values.now c.loop-place.values (omega (arith, c.loop-place-test.false, c.len-place-end.ensures)) c.loop-place.invariant
