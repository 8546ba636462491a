use Rattle.std.proofs.Common.{arith}
use Rattle.exact_algebra.specs.Sums.{sum}
use Rattle.beta_poly.specs.Polynomial.{poly_ring}
use Rattle.yukawa_one_loop.proofs.GaugeSums.{entry_meets}
use Rattle.quartic_one_loop.specs.GaugePairs.{IsGaugeFactor, shares_of}
use Rattle.quartic_one_loop.specs.OrderShares.{gauge_share}
use Rattle.quartic_one_loop.proofs.Adding.{adds_same, first_all, first_more, first_none}
use Rattle.quartic_one_loop.proofs.PairSums.{factors_share}
use Rattle.quartic_one_loop.proofs.gauges.push_all.Goals as goal

pub loop-place-init : goal.loop-place-init
loop-place-init c = first_none c.args.model.now c.args.factors.now (shares_of c.args.model.now c.args.factors.now) c.args.values.now

pub push_pairs-requires-clause-left : goal.push_pairs-requires-clause-left
push_pairs-requires-clause-left c =
    entry_meets (IsGaugeFactor c.args.model.now) c.args.factors.now c.loop-place.place c.item-left.result.now c.requires.factors.each c.item-left.ensures

pub loop-place-preserved : goal.loop-place-preserved
loop-place-preserved c =
    let model = c.args.model.now in
    let factors = c.args.factors.now in
    first_more model factors (shares_of model factors) c.loop-place.place c.item-left.result.now c.args.values.now c.loop-place.values c.push_pairs.new.values c.item-left.ensures c.loop-place.invariant c.in_ok-push_pairs.ensures.value

pub returns-clause-value : goal.returns-clause-value
returns-clause-value c =
    let model = c.args.model.now in
    let factors = c.args.factors.now in
    adds_same model (λ a b e d. sum poly_ring.semiring factors (λ left. shares_of model factors left a b e d)) (gauge_share model) c.args.values.now c.loop-place.values
    (λ a b e d. factors_share model c.requires.valid a b e d factors c.requires.factors)
    (first_all model factors (shares_of model factors) c.loop-place.place c.args.values.now c.loop-place.values (omega (arith, c.loop-place-test.false, c.len-place-end.ensures)) c.loop-place.invariant)
