-- What a refused statement is told as, and what is told of rows.
use Rattle.std.specs.Prelude.{◌≡◌, ⊤, Option, Some, None, Result, Ok, Err}
use Rattle.sqlite.specs.declared.error.Error.{Error}
use Rattle.sqlite.specs.declared.error.Error.TheVariants.{SqliteFailure}
use Rattle.sqlite.specs.declared.error.ErrorCode.{ErrorCode}
use Rattle.sqlite.specs.declared.error.ErrorCode.TheVariants.{OutOfMemory}
use Rattle.register_sqlite.specs.declared.refusal.Refusal.{Refusal}
use Rattle.register_sqlite.specs.declared.refusal.Refusal.TheVariants.{NoMemory, Failed}

-- the code of want of memory, and no other, is want of memory
abbrev pub refusal_of_code : ErrorCode → Refusal
refusal_of_code OutOfMemory = NoMemory
refusal_of_code _ = Failed

-- an error of a statement as a refusal
abbrev pub refusal_of : Error → Refusal
refusal_of (SqliteFailure code) = refusal_of_code code
refusal_of _ = Failed

-- Rows are read as their meaning, and fail where they have none. Memory may run out.
abbrev pub Reads : {T : Type 0} → Option T → Result T Refusal → Type 0
Reads meaning (Ok value) = meaning ≡ Some value
Reads meaning (Err Failed) = meaning ≡ None
Reads meaning (Err NoMemory) = ⊤
