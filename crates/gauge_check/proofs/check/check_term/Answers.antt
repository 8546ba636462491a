use Rattle.std.proofs.lemmas.Result.{err_from_is_err_and}
use Rattle.std.specs.List.{flat_map}
use Rattle.model_core.specs.Directions.{entry_directions}
use Rattle.model_core.specs.Invariance.{direction_failures, hermitian_failures, term_failures}
use Rattle.gauge_check.proofs.Walks.{checks_before, checks_after, checks_exit}
use Rattle.gauge_check.proofs.check.check_term.Goals as goal

pub returns-in_err-check_directions : goal.returns-in_err-check_directions
returns-in_err-check_directions c es are =
    let model = c.args.model.now in
    let term = c.args.term.now in
    let given = err_from_is_err_and c.from_residual.result c.from_residual.ensures.1 in
    checks_exit model (term_failures model c.args.place term es) c.from_residual.result _ given.0 given.1 given.2
    (checks_before model _ (flat_map (direction_failures model term) (flat_map (entry_directions model) es)) (hermitian_failures model c.args.place term es) (c.in_err-check_directions.ensures es are))

pub returns : goal.returns
returns c es are =
    let model = c.args.model.now in
    let term = c.args.term.now in
    checks_after model (flat_map (direction_failures model term) (flat_map (entry_directions model) es)) (hermitian_failures model c.args.place term es) c.check_hermitian.result (c.in_ok-check_directions.ensures es are) (c.check_hermitian.ensures es are)
