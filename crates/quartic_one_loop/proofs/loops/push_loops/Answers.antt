use Rattle.std.proofs.Common.{arith}
use Rattle.beta_poly.specs.Polynomial.{scale_poly, constant}
use Rattle.su_reps.specs.Operators.{fraction}
use Rattle.yukawa_one_loop.proofs.Coordinates.{coordinates_count}
use Rattle.yukawa_one_loop.proofs.Entrywise.{times_additive}
use Rattle.quartic_one_loop.specs.LoopSums.{loop_over}
use Rattle.quartic_one_loop.proofs.Adding.{over_image_none, over_image_more, over_image_all}
use Rattle.quartic_one_loop.proofs.loops.push_loops.Goals as goal

pub loop-place-init : goal.loop-place-init
loop-place-init c =
    let model = c.args.model.now in
    over_image_none model (loop_over model) (scale_poly (fraction 1 8)) (times_additive (constant (fraction 1 8))) c.args.values.now

pub push_loop-requires-clause-place : goal.push_loop-requires-clause-place
push_loop-requires-clause-place c = omega (arith, c.loop-place-test.true, c.scalar_count-place-end.ensures)

pub loop-place-preserved : goal.loop-place-preserved
loop-place-preserved c =
    let model = c.args.model.now in
    over_image_more model (loop_over model) (scale_poly (fraction 1 8)) (times_additive (constant (fraction 1 8))) c.loop-place.place c.args.values.now c.loop-place.values c.push_loop.new.values (let count = coordinates_count model in omega (arith, c.loop-place-test.true, c.scalar_count-place-end.ensures, count)) c.loop-place.invariant c.in_ok-push_loop.ensures.value

pub returns-clause-value : goal.returns-clause-value
returns-clause-value c =
    let model = c.args.model.now in
    over_image_all model (loop_over model) (scale_poly (fraction 1 8)) (times_additive (constant (fraction 1 8))) c.loop-place.place c.args.values.now c.loop-place.values (let count = coordinates_count model in omega (arith, c.loop-place-test.false, c.scalar_count-place-end.ensures, count)) c.loop-place.invariant
