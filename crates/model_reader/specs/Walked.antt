-- What a step of the walk answers.
use Rattle.std.specs.Prelude.{◌≡◌, List, [], ◌∷◌, Option, Some, None, Result, Ok, Err}
use Rattle.model_core.specs.declared.fault.ReadFault.{ReadFault}
use Rattle.model_reader.specs.declared.error.ReadError.{ReadError}
use Rattle.model_reader.specs.declared.error.ReadError.TheVariants.{Fault, NoMemory}

-- the first of some bad places
abbrev pub first_of : List ReadFault → Option ReadFault
first_of [] = None
first_of (first ∷ others) = Some first

-- the fault stands at the first of these bad places; want of memory says nothing
abbrev pub IsFirst : ReadError → List ReadFault → Type 0
IsFirst NoMemory places = Unit {0}
IsFirst (Fault fault) places = first_of places ≡ Some fault

-- none of these places is bad, and what was answered, seen by view, is the meaning
abbrev pub Walked : {X Y : Type 0} → (X → Y) → List ReadFault → Y → Result X ReadError → Type 0
Walked view places meaning (Ok x) = (places ≡ []) × (view x ≡ meaning)
Walked view places meaning (Err error) = IsFirst error places

-- none of these places is bad
abbrev pub Passes : {X : Type 0} → List ReadFault → Result X ReadError → Type 0
Passes places (Ok x) = places ≡ []
Passes places (Err error) = IsFirst error places
