use Rattle.std.proofs.Common.{Some, sym, ap, ◌∙◌, refl}
use Rattle.derive_core.proofs.Surveyed.{few_found, four_found, form_found, free_solver, dependent_found, free_before_found, solver_there, covers_there, covers_solver, covers_dependent}
use Rattle.derive_core.proofs.survey.survey_block.Goals as goal

pub returns-then-has_solver-clause-step : goal.returns-then-has_solver-clause-step
returns-then-has_solver-clause-step c =
    covers_there c.args.model.now c.args.name.now c.args.survey.now c.args.survey.now
    (solver_there c.args.name.now c.args.survey.now.solvers (sym c.has_solver.ensures ∙ c.if-has_solver.true)) refl

pub new-requires-clause-few : goal.new-requires-clause-few
new-requires-clause-few c = few_found c.args.model.now c.args.directions.now c.requires.valid c.requires.directions

pub new-requires-clause-four : goal.new-requires-clause-four
new-requires-clause-four c = four_found c.args.model.now c.args.directions.now c.requires.valid c.requires.directions c.args.name.now c.requires.named

pub new-requires-clause-form : goal.new-requires-clause-form
new-requires-clause-form c = form_found c.args.model.now c.args.directions.now c.requires.valid c.requires.directions c.args.name.now

pub returns-in_ok-push_solver-in-Ok-clause-step : goal.returns-in_ok-push_solver-in-Ok-clause-step
returns-in_ok-push_solver-in-Ok-clause-step c =
    covers_solver c.args.model.now c.args.survey.now c.push_solver.new.survey (record { name = c.args.name.now; block = c.in-Ok.block })
    (free_solver c.args.model.now c.args.directions.now c.requires.valid c.requires.directions (record { name = c.args.name.now; block = c.in-Ok.block }) c.in-Ok.ensures.is c.in-Ok.ensures.independent c.in-Ok.ensures.rank)
    c.in_ok-push_solver-in-Ok.ensures.solvers c.in_ok-push_solver-in-Ok.ensures.dependent

pub returns-in-Err-Dependent-clause-step : goal.returns-in-Err-Dependent-clause-step
returns-in-Err-Dependent-clause-step c =
    let found = rw c.in-Err-Dependent.field-0-is at c.in-Err-Dependent.ensures.fault in
    let model = c.args.model.now in
    let founds = c.args.directions.now in
    covers_dependent model c.args.name.now c.args.survey.now _ c.in-Err-Dependent.place
    (dependent_found model founds c.requires.valid c.requires.directions c.args.name.now c.in-Err-Dependent.place found)
    (free_before_found model founds c.requires.valid c.requires.directions c.args.name.now c.in-Err-Dependent.place found)
    refl (ap Some (rw c.in-Err-Dependent.field-0-is at c.earliest.ensures))
