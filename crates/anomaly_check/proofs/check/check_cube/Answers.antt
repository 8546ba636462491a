use Rattle.std.proofs.Common.{sym, subst, ap₂, ◌∙◌}
use Rattle.std.specs.List.{All}
use Rattle.model_core.specs.Plain.{IsPlainCharge}
use Rattle.model_core.specs.Anomaly.TraceKind.{Abelian}
use Rattle.model_core.specs.Multiplet.{field_size}
use Rattle.anomaly_check.specs.Counts.{weighted_sum, charge_cubed}
use Rattle.anomaly_check.proofs.AnswerLaws.{told, overflowed}
use Rattle.anomaly_check.proofs.DenseTraces.{abelian_is}
use Rattle.anomaly_check.proofs.check.check_cube.Goals as goal

pub returns-in_err-trace : goal.returns-in_err-trace
returns-in_err-trace c = λ place.
    overflowed c.args.model.now _ c.from_residual.result c.in_err-trace.field-0.0 c.from_residual.ensures.1 c.in_err-trace.ensures.refused
    (λ plain. c.in_err-trace.ensures.large (subst (All (λ field. IsPlainCharge field.charge)) (sym c.as_slice-2.ensures) plain))

pub returns : goal.returns
returns c = λ place.
    let model = c.args.model.now in
    told model Abelian c.args.group.now c.in_ok-trace.trace _ c.check_trace.result
    (c.in_ok-trace.ensures.value ∙ ap₂ (λ g f. weighted_sum (field_size g) charge_cubed f) c.as_slice.ensures c.as_slice-2.ensures ∙ sym (abelian_is model c.requires (place, c.args.group.now)))
    c.check_trace.ensures
