-- What the keeper tells of a call.
use Rattle.std.specs.Prelude.{Result, Ok, Err}
use Rattle.register_core.specs.declared.keeper.KeepFault.{KeepFault}
use Rattle.register_core.specs.declared.keeper.KeepFault.TheVariants as keep
use Rattle.register_sqlite.specs.declared.refusal.Refusal.{Refusal}
use Rattle.register_sqlite.specs.declared.refusal.Refusal.TheVariants as refusal

-- a refusal as a keeper's fault
abbrev pub fault_of : Refusal → KeepFault
fault_of refusal.NoMemory = keep.NoMemory
fault_of refusal.Failed = keep.Failed

-- an answer is handed on as it is, and a refusal as its fault
abbrev pub told_of : {T : Type 0} → Result T Refusal → Result T KeepFault
told_of (Ok value) = Ok value
told_of (Err refused) = Err (fault_of refused)
