-- The failures of terms as they are answered.
use Rattle.std.specs.Prelude.{◌≡◌, ⊤, ◌≢◌, ℕ, Bool, true, false, List, [], ◌∷◌, slice_get, Option, Some, None, Result, Ok, Err}
use Rattle.beta_poly.specs.Refusals.{IsRefusedPair}
use Rattle.sparse_tensor.specs.declared.fault.TensorFault.{TensorFault}
use Rattle.sparse_tensor.specs.declared.fault.TensorFault.TheVariants as tensor
use Rattle.model_core.specs.declared.group.Group.{Group}
use Rattle.model_core.specs.declared.model.Model.{Model}
use Rattle.model_core.specs.declared.term.TermKind.TheVariants.{Scalar}
use Rattle.model_core.specs.Invariance.{Failure, component_legs}
use Rattle.model_core.specs.Invariance.Failure.{NotInvariant, NotHermitian}
use Rattle.gauge_check.specs.declared.fault.TermFault.{TermFault}
use Rattle.gauge_check.specs.declared.fault.TermFault.TheVariants as fault
use Rattle.gauge_check.specs.declared.fault.CheckError.{CheckError}
use Rattle.gauge_check.specs.declared.fault.CheckError.TheVariants as error

-- the name of the group at a place
abbrev pub name_of : Option Group → List ℕ
name_of (Some group) = group.name
name_of None = []

abbrev pub group_name : Model → ℕ → List ℕ
group_name model place = name_of (slice_get model.groups place)

-- a failure as it is answered
abbrev pub fault_of : Model → Failure → TermFault
fault_of model (NotInvariant place term x key value) =
    fault.NotInvariant place term.coupling (group_name model x.place) x.i x.j (component_legs model term.kind key) value
fault_of model (NotHermitian place term key) =
    fault.NotHermitian place term.coupling (component_legs model Scalar (0 ∷ key))

-- the fault is the first of the failures
abbrev pub IsFirstOf : Model → List Failure → TermFault → Type 0
IsFirstOf model [] f = ⊥
IsFirstOf model (first ∷ others) f = f ≡ fault_of model first

-- Nothing is answered where nothing fails, and else the first failure. A refused sum or product says nothing but that there
-- is a term; neither does want of memory.
abbrev pub Checks : Model → List Failure → Result ⊤ CheckError → Type 0
Checks model failures (Ok nothing) = failures ≡ []
Checks model failures (Err (error.Fault f)) = IsFirstOf model failures f
Checks model failures (Err (error.Overflow pair)) = (model.terms ≢ []) × IsRefusedPair pair.a pair.b
Checks model failures (Err error.NoMemory) = ⊤

-- the fault of an operation on tensors
abbrev pub check_error : TensorFault → CheckError
check_error (tensor.Overflow pair) = error.Overflow pair
check_error tensor.NoMemory = error.NoMemory

-- whether a check found no failure
abbrev pub found_none : Result ⊤ CheckError → Result Bool CheckError
found_none (Ok nothing) = Ok true
found_none (Err (error.Fault f)) = Ok false
found_none (Err (error.Overflow pair)) = Err (error.Overflow pair)
found_none (Err error.NoMemory) = Err error.NoMemory

-- The answer is true where nothing fails, and else false. A refused sum or product, or want of memory, answers any check.
abbrev pub Tells : Model → List Failure → Result Bool CheckError → Type 0
Tells model failures (Ok true) = failures ≡ []
Tells model failures (Ok false) = failures ≢ []
Tells model failures (Err e) = (others : List Failure) → Checks model others (Err e)
