-- The first fault of a model's terms: in the order of the terms, and in a term invariance first, then hermiticity, then dependence.
use Rattle.std.specs.Prelude.{◌≡◌, ◌≤◌, ◌<◌, ◌⊎◌, ⊤, ℕ, List, [], ◌∷◌, slice_get, Some}
use Rattle.model_core.specs.declared.model.Model.{Model}
use Rattle.model_core.specs.Directions.{Direction, directions}
use Rattle.model_core.specs.Invariance.{Failure, failures}
use Rattle.model_core.specs.Invariance.Failure.{NotInvariant, NotHermitian}
use Rattle.gauge_check.specs.Faults.{fault_of}
use Rattle.gauge_check.specs.declared.fault.TermFault.{TermFault}
use Rattle.gauge_check.specs.declared.fault.TermFault.TheVariants.{Dependent}
use Rattle.derive_core.specs.Blocks.{IsDependentAt, NoneIsDependent, IsFirstDependent}
use Rattle.derive_core.specs.Targets.{targets}
use Rattle.derive_core.specs.declared.betas.Target.{Target}

-- the place of the term that fails, which counts from 1
abbrev pub failing_term : Failure → ℕ
failing_term (NotInvariant place term x key value) = place
failing_term (NotHermitian place term key) = place

-- a dependent direction as it is answered: by its symbol's term, name, row and column
pub record IsDependentFault (model : Model) (direction : Direction) (fault : TermFault) : Type 0 where
  pub target : Target
  pub named : slice_get (targets model) direction.symbol.id ≡ Some target
  pub is : fault ≡ Dependent direction.place target.name direction.symbol target.row target.column

-- a failure of invariance or hermiticity comes first: no earlier term has a dependent direction
pub record FailsFirst (model : Model) (fault : TermFault) : Type 0 where
  pub failure : Failure
  pub others : List Failure
  pub failures_are : failures model ≡ failure ∷ others
  pub is : fault ≡ fault_of model failure
  pub before : (place : ℕ) (at : IsDependentAt (directions model) place) → failing_term failure ≤ at.direction.place

-- all failures are of later terms
abbrev pub FailAfter : ℕ → List Failure → Type 0
FailAfter place [] = ⊤
FailAfter place (failure ∷ others) = place < failing_term failure

-- a dependent direction comes first: neither its term nor an earlier one fails
pub record DependsFirst (model : Model) (fault : TermFault) : Type 0 where
  pub place : ℕ
  pub dependent : IsFirstDependent (directions model) place
  pub is : IsDependentFault model dependent.dependent.direction fault
  pub before : FailAfter dependent.dependent.direction.place (failures model)

abbrev pub IsFirstFault : Model → TermFault → Type 0
IsFirstFault model fault = FailsFirst model fault ⊎ DependsFirst model fault

-- the terms have no fault
pub record HaveNoFault (model : Model) : Type 0 where
  pub failures_are : failures model ≡ []
  pub independent : NoneIsDependent (directions model)
