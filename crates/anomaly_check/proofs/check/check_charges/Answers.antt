use Rattle.std.proofs.Common.{[], ◌∷◌}
use Rattle.model_core.specs.Anomaly.{Trace, gravity_trace, abelian_trace}
use Rattle.model_core.specs.Anomaly.TraceKind.{Gravity, Abelian}
use Rattle.anomaly_check.proofs.AnswerLaws.{stopped, went_on}
use Rattle.anomaly_check.proofs.check.check_charges.Goals as goal

pub returns-in_err-check_gravity : goal.returns-in_err-check_gravity
returns-in_err-check_gravity c = λ place.
    let model = c.args.model.now in
    let group = c.args.group.now in
    let gravity : Trace = record { kind = Gravity; group = group; value = gravity_trace model (place, group) } in
    let cube : Trace = record { kind = Abelian; group = group; value = abelian_trace model (place, group) } in
    stopped model (gravity ∷ []) (cube ∷ []) c.in_err-check_gravity.field-0.0 c.from_residual.result c.from_residual.ensures.1 (c.in_err-check_gravity.ensures place)

pub returns : goal.returns
returns c = λ place.
    let model = c.args.model.now in
    let group = c.args.group.now in
    let gravity : Trace = record { kind = Gravity; group = group; value = gravity_trace model (place, group) } in
    let cube : Trace = record { kind = Abelian; group = group; value = abelian_trace model (place, group) } in
    went_on model (gravity ∷ []) (cube ∷ []) c.check_cube.result (c.in_ok-check_gravity.ensures place) (c.check_cube.ensures place)
