-- What a call does to the tables and to the count of faults.
use Rattle.std.specs.Prelude.{◌≡◌, ℕ, ◌≤◌, Result, Ok, Err}
use Rattle.register_core.specs.declared.keeper.KeepFault.{KeepFault}
use Rattle.register_core.specs.declared.keeper.KeepFault.TheVariants as keep
use Rattle.register_core.specs.declared.register_fault.RegisterFault.{RegisterFault}
use Rattle.register_core.specs.declared.register_fault.RegisterFault.TheVariants as register
use Rattle.register_core.specs.Counts.{Rose, one_more}
use Rattle.register_core.specs.Register.{Register}

-- Where the tables are told after a call, they were told before it and are the same.
abbrev pub Stays : {K : Type 0} → (K → Type 0) → (K → Register) → K → K → Type 0
Stays is_told tables old new = is_told new → is_told old × (tables new ≡ tables old)

-- Where the tables are told after a call, they were told before it, and this was done to them.
abbrev pub Changes : {K : Type 0} → (K → Type 0) → (K → Register) → (Register → Register) → K → K → Type 0
Changes is_told tables change old new = is_told new → is_told old × (tables new ≡ change (tables old))

-- A failure comes only where the count rose, and every other answer leaves the count.
abbrev pub IsCaused : {T : Type 0} → ℕ → ℕ → Result T KeepFault → Type 0
IsCaused before now (Ok answer) = now ≡ before
IsCaused before now (Err keep.Failed) = (before ≤ now) × Rose before now
IsCaused before now (Err keep.NoMemory) = now ≡ before

-- The same of a call of the register: `Keeper` comes only where the keeper's count rose.
abbrev pub HasReason : {T : Type 0} → ℕ → ℕ → Result T RegisterFault → Type 0
HasReason before now (Ok answer) = now ≡ before
HasReason before now (Err register.NoSuchName) = now ≡ before
HasReason before now (Err (register.NoSuchVersion count)) = now ≡ before
HasReason before now (Err (register.Full count)) = now ≡ before
HasReason before now (Err register.Keeper) = (before ≤ now) × Rose before now
HasReason before now (Err register.NoMemory) = now ≡ before

-- what the register says of a keeper's fault
abbrev pub fault_of : KeepFault → RegisterFault
fault_of keep.Failed = register.Keeper
fault_of keep.NoMemory = register.NoMemory

-- a call that failed: the count rose by one, and stays at its last value
pub record Breaks {T : Type 0} (before now : ℕ) (result : Result T KeepFault) : Type 0 where
  pub failed : result ≡ Err keep.Failed
  pub counted : now ≡ one_more before
  pub later : before ≤ now
