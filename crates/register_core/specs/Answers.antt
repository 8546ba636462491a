-- What the calls of the register promise, beside the machine.
use Rattle.std.specs.Prelude.{◌≡◌, ℕ, ◌≤◌, ⊤, Result, Ok, Err}
use Rattle.register_core.specs.declared.register_fault.RegisterFault.{RegisterFault}
use Rattle.register_core.specs.declared.register_fault.RegisterFault.TheVariants.{NoSuchName, NoSuchVersion, Full, Keeper, NoMemory}
use Rattle.register_core.specs.Register.{Register, most_versions}

-- A call that only reads gives the machine's answer, but for a fault of the keeper and want of memory.
abbrev pub Answers : {T : Type 0} → Result T RegisterFault → Result T RegisterFault → Type 0
Answers due (Err Keeper) = ⊤
Answers due (Err NoMemory) = ⊤
Answers due result = result ≡ due

-- So does one that changes the register, and it leaves the machine's. A fault of the keeper and want of memory leave the register as it was.
abbrev pub Ends : {T : Type 0} → Register → Result T RegisterFault × Register → Register → Result T RegisterFault → Type 0
Ends old due new (Err Keeper) = new ≡ old
Ends old due new (Err NoMemory) = new ≡ old
Ends old due new result = (result, new) ≡ due

-- the refusals of a call that looks for nothing
abbrev pub FailsOnly : {T : Type 0} → Result T RegisterFault → Type 0
FailsOnly (Ok answer) = ⊤
FailsOnly (Err NoSuchName) = ⊥
FailsOnly (Err (NoSuchVersion count)) = ⊥
FailsOnly (Err (Full count)) = ⊥
FailsOnly (Err Keeper) = ⊤
FailsOnly (Err NoMemory) = ⊤

-- Of any keeper: a version is counted from 1, and a name without a version is no name.
abbrev pub IsShown : {T : Type 0} → ℕ → Result T RegisterFault → Type 0
IsShown version (Ok answer) = 1 ≤ version
IsShown version (Err NoSuchName) = ⊤
IsShown version (Err (NoSuchVersion count)) = 1 ≤ count
IsShown version (Err (Full count)) = ⊥
IsShown version (Err Keeper) = ⊤
IsShown version (Err NoMemory) = ⊤

-- Of any keeper: a stored version has a number from 1 to the most that a name may have, and a full name has no fewer.
abbrev pub IsStored : Result ℕ RegisterFault → Type 0
IsStored (Ok number) = (1 ≤ number) × (number ≤ most_versions)
IsStored (Err NoSuchName) = ⊥
IsStored (Err (NoSuchVersion count)) = ⊥
IsStored (Err (Full count)) = most_versions ≤ count
IsStored (Err Keeper) = ⊤
IsStored (Err NoMemory) = ⊤
