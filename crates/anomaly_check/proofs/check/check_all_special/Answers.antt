use Rattle.std.proofs.Common.{◌≡◌, ◌+◌, ◌≤◌, length, drop, Some, sym, subst, ap, ◌∙◌, arith, rules}
use Rattle.std.specs.Prelude.{filter, slice_get}
use Rattle.std.specs.List.{flat_map}
use Rattle.model_core.specs.Anomaly.{is_bad, special_traces, places}
use Rattle.anomaly_check.specs.Answers.{Answers}
use Rattle.anomaly_check.proofs.AnswerLaws.{stopped, passed, next_place, no_place}
use Rattle.anomaly_check.proofs.check.check_all_special.Goals as goal

pub returns-in_err-check_special : goal.returns-in_err-check_special
returns-in_err-check_special c =
    let model = c.args.model.now in
    let place = c.loop-place.place in
    let group = c.item.result.now in
    let f = special_traces model in
    let found : slice_get model.groups place ≡ Some group = search rules in
    let next = c.loop-place.invariant.passed ∙ ap (λ ats. filter is_bad (flat_map f ats)) (next_place model.groups place group found) in
    subst (λ bad. Answers model bad c.from_residual.result) (sym next)
    (stopped model (f (place, group)) (flat_map f (drop (place + 1) (places model))) c.in_err-check_special.field-0.0 c.from_residual.result c.from_residual.ensures.1 c.in_err-check_special.ensures)

pub loop-place-preserved : goal.loop-place-preserved
loop-place-preserved c =
    let model = c.args.model.now in
    let place = c.loop-place.place in
    let group = c.item.result.now in
    let f = special_traces model in
    let found : slice_get model.groups place ≡ Some group = search rules in
    let next = c.loop-place.invariant.passed ∙ ap (λ ats. filter is_bad (flat_map f ats)) (next_place model.groups place group found) in
    record { passed = next ∙ passed (f (place, group)) (flat_map f (drop (place + 1) (places model))) c.in_ok-check_special.ensures }

pub returns : goal.returns
returns c =
    let model = c.args.model.now in
    let place = c.loop-place.place in
    let past : length model.groups ≤ place = omega arith in
    c.loop-place.invariant.passed ∙ ap (λ ats. filter is_bad (flat_map (special_traces model) ats)) (no_place model.groups place past)
