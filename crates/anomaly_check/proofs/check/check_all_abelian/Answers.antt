use Rattle.std.proofs.Common.{◌≡◌, ◌+◌, ◌≤◌, [], ◌∷◌, length, drop, Some, sym, subst, ap, ◌∙◌, arith, rules}
use Rattle.std.specs.Prelude.{filter, slice_get}
use Rattle.std.specs.List.{flat_map}
use Rattle.model_core.specs.Groups.{is_abelian}
use Rattle.model_core.specs.Anomaly.{is_bad, charge_traces, places}
use Rattle.anomaly_check.specs.Answers.{Answers}
use Rattle.anomaly_check.proofs.AnswerLaws.{stopped, passed, next_abelian, no_place}
use Rattle.anomaly_check.proofs.check.check_all_abelian.Goals as goal

pub returns-in_err-check_abelian : goal.returns-in_err-check_abelian
returns-in_err-check_abelian c =
    let model = c.args.model.now in
    let place = c.loop-place.place in
    let group = c.item.result.now in
    let f = charge_traces model in
    let found : slice_get model.groups place ≡ Some group = search rules in
    let next = c.loop-place.invariant.passed ∙ ap (filter is_bad) (next_abelian f model.groups place group found) in
    let later = filter (λ at. is_abelian at.1) (drop (place + 1) (places model)) in
    subst (λ bad. Answers model bad c.from_residual.result) (sym next)
    (stopped model (flat_map f (filter (λ at. is_abelian at.1) ((place, group) ∷ []))) (flat_map f later) c.in_err-check_abelian.field-0.0 c.from_residual.result c.from_residual.ensures.1 (c.in_err-check_abelian.ensures place))

pub loop-place-preserved : goal.loop-place-preserved
loop-place-preserved c =
    let model = c.args.model.now in
    let place = c.loop-place.place in
    let group = c.item.result.now in
    let f = charge_traces model in
    let found : slice_get model.groups place ≡ Some group = search rules in
    let next = c.loop-place.invariant.passed ∙ ap (filter is_bad) (next_abelian f model.groups place group found) in
    let later = filter (λ at. is_abelian at.1) (drop (place + 1) (places model)) in
    record { passed = next ∙ passed (flat_map f (filter (λ at. is_abelian at.1) ((place, group) ∷ []))) (flat_map f later) (c.in_ok-check_abelian.ensures place) }

pub returns : goal.returns
returns c =
    let model = c.args.model.now in
    let place = c.loop-place.place in
    let past : length model.groups ≤ place = omega arith in
    c.loop-place.invariant.passed ∙ ap (λ ats. filter is_bad (flat_map (charge_traces model) (filter (λ at. is_abelian at.1) ats))) (no_place model.groups place past)
