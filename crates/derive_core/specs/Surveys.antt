-- The blocks of a model's directions, and the first direction that is dependent.
use Rattle.std.specs.Prelude.{◌≡◌, ◌⊎◌, ℕ, suc, List, [], ◌∷◌, length, slice_get, Option, Some, None}
use Rattle.std.specs.List.{All}
use Rattle.model_core.specs.declared.model.Model.{Model}
use Rattle.model_core.specs.Directions.{Direction, directions}
use Rattle.term_expand.specs.declared.token.Token.{Token}
use Rattle.span_solver.specs.Block.{IsBlock, IsOfRank}
use Rattle.derive_core.specs.Blocks.{name_of, numbers_of, NoneIsDependent, IsFirstDependent}
use Rattle.derive_core.specs.declared.survey.Solver.{Solver}
use Rattle.derive_core.specs.declared.survey.Survey.{Survey}

-- the block of the directions with a name, whose keys have a side before the places of the legs
pub record IsSolver (model : Model) (solver : Solver) : Type 0 where
  pub block : IsBlock (numbers_of solver.name (directions model)) solver.block
  pub rank : IsOfRank (suc (length solver.name)) solver.block

-- a block of a name is among some
abbrev pub HasSolver : List Token → List Solver → Type 0
HasSolver name [] = ⊥
HasSolver name (first ∷ others) = (first.name ≡ name) ⊎ HasSolver name others

-- which direction is the first dependent one
abbrev pub TellsDependence : Model → Option ℕ → Type 0
TellsDependence model None = NoneIsDependent (directions model)
TellsDependence model (Some place) = IsFirstDependent (directions model) place

-- the survey of a model: where no direction is dependent, each has its block
pub record IsSurvey (model : Model) (survey : Survey) : Type 0 where
  pub dependence : TellsDependence model survey.dependent
  pub each : All (IsSolver model) survey.solvers
  pub every : survey.dependent ≡ None → (place : ℕ) (direction : Direction) → slice_get (directions model) place ≡ Some direction → HasSolver (name_of direction) survey.solvers
