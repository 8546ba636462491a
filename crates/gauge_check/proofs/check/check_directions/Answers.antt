use Rattle.std.proofs.Common.{arith, refl}
use Rattle.std.specs.List.{flat_map}
use Rattle.std.proofs.lemmas.Result.{err_from_is_err_and}
use Rattle.model_core.specs.Directions.{entry_directions}
use Rattle.model_core.specs.Invariance.{direction_failures}
use Rattle.gauge_check.proofs.TermDirections.{direction_at, directions_length}
use Rattle.gauge_check.proofs.Walks.{checks_exit, walk_step, walk_stop, walk_end}
use Rattle.gauge_check.proofs.check.check_directions.Goals as goal

pub check_direction-requires-clause-direction : goal.check_direction-requires-clause-direction
check_direction-requires-clause-direction c =
    let some = c.requires.directions in
    let at = direction_at c.args.model.now c.args.place c.args.term.now some.entries c.args.directions.now c.loop-direction.direction-index c.direction-item.result some.are c.loop-direction-test.true c.direction-item.is in
    record { meant = at.meant; is = at.is }

pub loop-direction-init : goal.loop-direction-init
loop-direction-init c es are = refl

pub loop-direction-preserved : goal.loop-direction-preserved
loop-direction-preserved c es are =
    let model = c.args.model.now in
    let i = c.loop-direction.direction-index in
    let at = direction_at model c.args.place c.args.term.now es c.args.directions.now i c.direction-item.result are c.loop-direction-test.true c.direction-item.is in
    walk_step model (direction_failures model c.args.term.now) (flat_map (entry_directions model) es) i at.meant at.here (c.in_ok-check_direction.ensures at.meant at.is) (c.loop-direction.invariant es are)

pub returns-in_err-check_direction : goal.returns-in_err-check_direction
returns-in_err-check_direction c es are =
    let model = c.args.model.now in
    let i = c.loop-direction.direction-index in
    let meants = flat_map (entry_directions model) es in
    let at = direction_at model c.args.place c.args.term.now es c.args.directions.now i c.direction-item.result are c.loop-direction-test.true c.direction-item.is in
    let given = err_from_is_err_and c.from_residual.result c.from_residual.ensures.1 in
    checks_exit model (flat_map (direction_failures model c.args.term.now) meants) c.from_residual.result _ given.0 given.1 given.2
    (walk_stop model (direction_failures model c.args.term.now) meants i at.meant _ at.here (c.loop-direction.invariant es are) (c.in_err-check_direction.ensures at.meant at.is))

pub returns : goal.returns
returns c es are =
    let model = c.args.model.now in
    let long = directions_length model c.args.place c.args.term.now es c.args.directions.now are in
    let over = c.loop-direction-test.false in
    walk_end model (direction_failures model c.args.term.now) (flat_map (entry_directions model) es) c.loop-direction.direction-index (omega (arith, long, over)) (c.loop-direction.invariant es are)
