use Rattle.std.proofs.Common.{◌+◌, subst, sym, ◌≤◌, length}
use Rattle.std.proofs.lemmas.List.Sums.{prefix_len-le-length}
use Rattle.std.proofs.lemmas.Result.{err_from_is_err_and}
use Rattle.model_core.specs.Invariance.{failures}
use Rattle.gauge_check.proofs.TermRuns.{has_place, run_found, rest_after, stop_at}
use Rattle.gauge_check.proofs.Walks.{checks_exit}
use Rattle.gauge_check.proofs.check.check_terms.Goals as goal

pub split_at-requires : goal.split_at-requires
split_at-requires c =
    let rest = c.loop-place.rest.now in
    subst (λ n. n ≤ length rest) (sym c.run_length.ensures) (prefix_len-le-length (has_place (c.loop-place.place + 1)) rest)

pub check_term-requires-clause-directions : goal.check_term-requires-clause-directions
check_term-requires-clause-directions c =
    let run = run_found c.args.model.now c.loop-place.place c.item.result.now c.loop-place.rest.now c.split_at.result.0.now c.split_at.result.1.now c.run_length.result c.item.ensures c.run_length.ensures c.split_at.ensures.front c.split_at.ensures.back c.loop-place.invariant in
    record { entries = run.entries; are = run.are }

pub returns-in_err-check_term : goal.returns-in_err-check_term
returns-in_err-check_term c =
    let model = c.args.model.now in
    let place = c.loop-place.place in
    let term = c.item.result.now in
    let own = c.split_at.result.0.now in
    let others = c.split_at.result.1.now in
    let run = run_found model place term c.loop-place.rest.now own others c.run_length.result c.item.ensures c.run_length.ensures c.split_at.ensures.front c.split_at.ensures.back c.loop-place.invariant in
    let given = err_from_is_err_and c.from_residual-in_err-check_term.result c.from_residual-in_err-check_term.ensures.1 in
    checks_exit model (failures model) c.from_residual-in_err-check_term.result _ given.0 given.1 given.2
    (stop_at model place term own others run _ (c.in_err-check_term.ensures run.entries run.are))

pub loop-place-preserved : goal.loop-place-preserved
loop-place-preserved c =
    let model = c.args.model.now in
    let place = c.loop-place.place in
    let term = c.item.result.now in
    let own = c.split_at.result.0.now in
    let others = c.split_at.result.1.now in
    let run = run_found model place term c.loop-place.rest.now own others c.run_length.result c.item.ensures c.run_length.ensures c.split_at.ensures.front c.split_at.ensures.back c.loop-place.invariant in
    rest_after model place term own others run (c.in_ok-check_term.ensures run.entries run.are)
