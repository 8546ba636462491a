-- The first fault of a model's terms, as it is answered.
use Rattle.std.specs.Prelude.{◌≡◌, ℕ, [], Option, Some, None}
use Rattle.model_core.specs.declared.model.Model.{Model}
use Rattle.model_core.specs.Invariance.{failures}
use Rattle.gauge_check.specs.Faults.{IsFirstOf}
use Rattle.gauge_check.specs.declared.fault.TermFault.{TermFault}
use Rattle.gauge_check.specs.declared.fault.TermFault.TheVariants.{NotInvariant, NotHermitian, Dependent}
use Rattle.derive_core.specs.TermFaults.{IsFirstFault, HaveNoFault}

-- the place of a fault's term, which counts from 1
abbrev pub faulty_term : TermFault → ℕ
faulty_term (NotInvariant term coupling group i j component value) = term
faulty_term (NotHermitian term coupling component) = term
faulty_term (Dependent term coupling symbol row column) = term

-- no term fails, or the fault is the first failure
abbrev pub TellsFailure : Model → Option TermFault → Type 0
TellsFailure model None = failures model ≡ []
TellsFailure model (Some fault) = IsFirstOf model (failures model) fault

-- the terms have no fault, or it is the first
abbrev pub TellsFault : Model → Option TermFault → Type 0
TellsFault model None = HaveNoFault model
TellsFault model (Some fault) = IsFirstFault model fault
