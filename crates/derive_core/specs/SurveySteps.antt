-- What a survey has after the first directions.
use Rattle.std.specs.Prelude.{◌≡◌, ◌<◌, ◌⊎◌, ⊤, ℕ, min, List, take, slice_get, Option, Some, None}
use Rattle.std.specs.List.{All}
use Rattle.model_core.specs.declared.model.Model.{Model}
use Rattle.model_core.specs.Directions.{Direction, directions}
use Rattle.term_expand.specs.declared.token.Token.{Token}
use Rattle.span_solver.specs.Dependence.{AreIndependent}
use Rattle.derive_core.specs.Blocks.{name_of, numbers_of, IsDependentAt}
use Rattle.derive_core.specs.Surveys.{IsSolver, HasSolver}
use Rattle.derive_core.specs.declared.survey.Solver.{Solver}
use Rattle.derive_core.specs.declared.survey.Survey.{Survey}

-- ---- what is right in a survey

-- the block of a name, of which no direction is dependent
pub record IsFreeSolver (model : Model) (solver : Solver) : Type 0 where
  pub is : IsSolver model solver
  pub independent : AreIndependent (numbers_of solver.name (directions model))

-- the place that is told is that of a dependent direction
abbrev pub MayDepend : Model → Option ℕ → Type 0
MayDepend model None = ⊤
MayDepend model (Some place) = IsDependentAt (directions model) place

pub record IsSound (model : Model) (survey : Survey) : Type 0 where
  pub dependent : MayDepend model survey.dependent
  pub each : All (IsFreeSolver model) survey.solvers

-- of two places the first
abbrev pub earliest : Option ℕ → ℕ → ℕ
earliest None place = place
earliest (Some known) place = min known place

-- ---- what is known of a block

-- no direction of a block is dependent before the place that is told
abbrev pub IsFreeBefore : Model → List Token → Option ℕ → Type 0
IsFreeBefore model name None = ⊥
IsFreeBefore model name (Some place) = AreIndependent (numbers_of name (take place (directions model)))

-- a block has its solver, or none of its directions is dependent before the place that is told
abbrev pub IsCovered : Model → List Token → Survey → Type 0
IsCovered model name survey = HasSolver name survey.solvers ⊎ IsFreeBefore model name survey.dependent

-- a direction has the name
pub record HasName (model : Model) (name : List Token) : Type 0 where
  pub place : ℕ
  pub direction : Direction
  pub stands : slice_get (directions model) place ≡ Some direction
  pub named : name ≡ name_of direction

-- a block more: what was right stays so, and the blocks that were covered too
pub record Covers (model : Model) (name : List Token) (old new : Survey) : Type 0 where
  pub sound : IsSound model old → IsSound model new
  pub covered : IsCovered model name new
  pub kept : (other : List Token) → IsCovered model other old → IsCovered model other new

-- after so many directions
pub record IsSurveyed (model : Model) (count : ℕ) (survey : Survey) : Type 0 where
  pub sound : IsSound model survey
  pub covered : (place : ℕ) (direction : Direction) → place < count → slice_get (directions model) place ≡ Some direction → IsCovered model (name_of direction) survey
