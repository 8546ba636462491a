-- A model that is accepted, with what is kept of it for its derivation.
use Rattle.std.specs.Prelude.{◌≡◌, ℕ, List, [], ⊤, slice_get, Some}
use Rattle.std.specs.List.{All}
use Rattle.model_core.specs.declared.model.Model.{Model}
use Rattle.model_core.specs.Anomaly.{anomalies}
use Rattle.model_core.specs.Directions.{Direction, directions}
use Rattle.model_core.specs.Valid.{IsValid}
use Rattle.term_expand.specs.Expansion.{IsExpansion}
use Rattle.derive_core.specs.Blocks.{name_of}
use Rattle.derive_core.specs.Derivation.{IsSound}
use Rattle.derive_core.specs.Surveys.{IsSolver, HasSolver}
use Rattle.derive_core.specs.TermFaults.{HaveNoFault}
use Rattle.derive_core.specs.declared.accept.Accepted.{Accepted}
use Rattle.derive_core.specs.declared.survey.Solver.{Solver}

-- each direction has its block
pub record HaveSolvers (model : Model) (solvers : List Solver) : Type 0 where
  pub each : All (IsSolver model) solvers
  pub every : (place : ℕ) (direction : Direction) → slice_get (directions model) place ≡ Some direction → HasSolver (name_of direction) solvers

-- the terms have no fault, and each direction has its block
pub record AreSoundTerms (solvers : List Solver) (model : Model) : Type 0 where
  pub terms : HaveNoFault model
  pub blocks : HaveSolvers model solvers

-- no anomaly
abbrev pub HasNoAnomaly : ⊤ → Model → Type 0
HasNoAnomaly nothing model = anomalies model ≡ []

-- the model is accepted, and this is kept of it
pub record IsAccepted (found : Accepted) (model : Model) : Type 0 where
  pub same : found.model ≡ model
  pub valid : IsValid found.model
  pub tensors : IsExpansion found.model found.tensors
  pub sound : IsSound found.model
  pub solvers : HaveSolvers found.model found.solvers
