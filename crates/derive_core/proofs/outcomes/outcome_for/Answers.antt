use Rattle.std.proofs.Common.{[], refl, sym, subst}
use Rattle.model_core.specs.Directions.{directions}
use Rattle.derive_core.specs.Blocks.{numbers_of}
use Rattle.derive_core.specs.Surveys.{HasSolver}
use Rattle.derive_core.specs.Works.{IsSolverAmong}
use Rattle.derive_core.proofs.Solvers.{named_block, named_rank, outcome_found}
use Rattle.derive_core.proofs.Spanning.{no_directions}
use Rattle.derive_core.proofs.outcomes.outcome_for.Goals as goal

pub outcome_of-requires-clause-block : goal.outcome_of-requires-clause-block
outcome_of-requires-clause-block g c κs within =
    let name = c.args.name.now in
    named_rank c.args.accepted.now.model c.args.accepted.now.solvers name c.in-Some.solver.now c.in_ok-tensor.tensor c.requires.solvers
    (subst (λ s. IsSolverAmong s name c.in-Some.solver.now) c.as_slice.ensures c.in-Some.ensures) c.in_ok-tensor.ensures.value.rank_is

pub returns-in-Some-clause-value : goal.returns-in-Some-clause-value
returns-in-Some-clause-value g c =
    let model = c.args.accepted.now.model in
    let name = c.args.name.now in
    let numbers = numbers_of name (directions model) in
    outcome_found model name c.in_ok-tensor.tensor c.outcome_of.result numbers c.in_ok-tensor.ensures.value refl
    (c.outcome_of.ensures.value numbers (named_block model c.args.accepted.now.solvers name c.in-Some.solver.now c.requires.solvers
    (subst (λ s. IsSolverAmong s name c.in-Some.solver.now) c.as_slice.ensures c.in-Some.ensures)))

pub returns-clause-value : goal.returns-clause-value
returns-clause-value g c =
    let model = c.args.accepted.now.model in
    let name = c.args.name.now in
    outcome_found model name c.in_ok-tensor.tensor c.bare_outcome.result [] c.in_ok-tensor.ensures.value
    (sym (no_directions model c.args.accepted.now.solvers name c.requires.solvers
    (subst (λ s. ¬ HasSolver name s) c.as_slice.ensures c.in-None.ensures)))
    c.bare_outcome.ensures.value
