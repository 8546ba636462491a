use Rattle.std.proofs.Common.{◌≡◌, false, map, sym, subst, ap, ap₂, ◌∙◌}
use Rattle.std.specs.Prelude.{filter}
use Rattle.std.specs.List.{All, list_any}
use Rattle.model_core.specs.Plain.{IsPlainCharge}
use Rattle.model_core.specs.Anomaly.{is_bad, mixed_with}
use Rattle.model_core.specs.Anomaly.TraceKind.{Mixed}
use Rattle.model_core.specs.Groups.{is_abelian}
use Rattle.model_core.specs.Valid.{has_one_abelian}
use Rattle.model_core.proofs.ValidLaws.{both, valid_parts, parts_groups}
use Rattle.anomaly_check.specs.Counts.{index_share, weighted_sum, charge}
use Rattle.anomaly_check.specs.Answers.{Answers}
use Rattle.anomaly_check.proofs.AnswerLaws.{told, overflowed, no_abelian, one_abelian}
use Rattle.anomaly_check.proofs.DenseTraces.{mixed_is}
use Rattle.anomaly_check.proofs.check.check_mixed.Goals as goal

pub returns-then-not-has_abelian : goal.returns-then-not-has_abelian
returns-then-not-has_abelian c =
    let model = c.args.model.now in
    let none : list_any is_abelian model.groups ≡ false = ap (list_any is_abelian) (sym c.as_slice-groups.ensures) ∙ sym c.has_abelian.ensures ∙ c.if-not-has_abelian.true in
    ap (λ ats. filter is_bad (map (mixed_with model (c.args.place, c.args.group.now)) ats)) (no_abelian 0 model.groups none)

pub returns-in_err-trace : goal.returns-in_err-trace
returns-in_err-trace c =
    overflowed c.args.model.now _ c.from_residual.result c.in_err-trace.field-0.0 c.from_residual.ensures.1 c.in_err-trace.ensures.refused
    (λ plain. c.in_err-trace.ensures.large (subst (All (λ field. IsPlainCharge field.charge)) (sym c.as_slice.ensures) plain))

pub returns : goal.returns
returns c =
    let model = c.args.model.now in
    let place = c.args.place in
    let group = c.args.group.now in
    let some = ap (list_any is_abelian) (sym c.as_slice-groups.ensures) ∙ sym c.has_abelian.ensures ∙ c.if-not-has_abelian.false in
    let one = one_abelian 0 model.groups some (both _ (has_one_abelian model.groups) (parts_groups model (valid_parts model c.requires.valid))).1 in
    subst (λ ats. Answers model (filter is_bad (map (mixed_with model (place, group)) ats)) c.check_trace.result) (sym one.1)
    (told model Mixed group c.in_ok-trace.trace _ c.check_trace.result
    (c.in_ok-trace.ensures.value ∙ ap₂ (λ g f. weighted_sum (index_share g place group) charge f) c.as_slice-groups.ensures c.as_slice.ensures
    ∙ sym (mixed_is model c.requires.valid place group c.requires.group c.requires.special one.0))
    c.check_trace.ensures)
