use Rattle.std.proofs.Common.{get_or, arith}
use Rattle.std.proofs.lemmas.Option.{slice_get-get_or}
use Rattle.model_core.specs.Scalar.{scalar_coordinates}
use Rattle.term_expand.proofs.Conjugates.{place_inside, partners_step, partners_end}
use Rattle.term_expand.proofs.multiples.partners.Goals as goal

pub place_at-requires-clause-inside : goal.place_at-requires-clause-inside
place_at-requires-clause-inside c behind =
    let key = c.args.key.now in
    place_inside c.args.model.now c.args.kind key c.loop-leg.leg (get_or key c.loop-leg.leg 0) c.requires.inside (slice_get-get_or key c.loop-leg.leg 0 c.loop-leg-test.true) (rw (← c.first_scalar-first.ensures) behind)

pub loop-leg-preserved : goal.loop-leg-preserved
loop-leg-preserved c =
    partners_step (scalar_coordinates c.args.model.now) c.args.key.now c.loop-leg.found c.push.new.self c.first_scalar-first.result c.loop-leg.leg c.place_at.result c.loop-leg-test.true c.loop-leg.invariant c.place_at.ensures c.in_ok-push.ensures.ok

pub returns : goal.returns
returns c =
    partners_end c.args.model.now c.args.kind c.args.key.now c.loop-leg.found c.first_scalar-first.result c.loop-leg.leg (omega (arith, c.loop-leg-test.false)) c.first_scalar-first.ensures c.loop-leg.invariant
