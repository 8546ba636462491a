use Rattle.std.proofs.Common.{◌≡◌, true, cond, [], ◌∷◌, sym, subst, ◌∙◌}
use Rattle.std.specs.Prelude.{filter}
use Rattle.std.specs.List.{flat_map}
use Rattle.model_core.specs.Groups.{is_abelian}
use Rattle.model_core.specs.Anomaly.{is_bad, charge_traces}
use Rattle.anomaly_check.specs.Answers.{Answers}
use Rattle.anomaly_check.proofs.check.check_abelian.Goals as goal

pub returns-then-is_abelian : goal.returns-then-is_abelian
returns-then-is_abelian c = λ place.
    let model = c.args.model.now in
    let group = c.args.group.now in
    let abelian : is_abelian group ≡ true = sym c.is_abelian.ensures ∙ c.if-is_abelian.true in
    subst (λ b. Answers model (filter is_bad (flat_map (charge_traces model) (cond b ((place, group) ∷ []) []))) c.check_charges.result) (sym abelian) (c.check_charges.ensures place)
