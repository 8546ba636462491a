-- The register as a machine: what each call answers, and the register that it leaves.
use Rattle.std.specs.Prelude.{ℕ, ◌+◌, ◌==◌, nat_lt, if◌then◌else◌, List, [], ◌∷◌, map, length, Option, Some, None, option_map, Result, Ok, Err}
use Rattle.std.specs.Str.{bytes_eq}
use Rattle.std.specs.FinMap.{keys}
use Rattle.register_core.specs.declared.register_fault.RegisterFault.{RegisterFault}
use Rattle.register_core.specs.declared.register_fault.RegisterFault.TheVariants.{NoSuchName, NoSuchVersion, Full}
use Rattle.register_core.specs.declared.register.NameCount.{NameCount}
use Rattle.register_core.specs.declared.register.RunState.{RunState}
use Rattle.register_core.specs.declared.register.RunState.TheVariants.{Kept, Fresh}
use Rattle.register_core.specs.Register.{Register, Key, most_versions, versions_of, version_of, run_of, with_version}

-- the number of versions that a name has
abbrev pub count_of : Register → List ℕ → ℕ
count_of register name = length (versions_of register name)

-- ---- store

-- the number of the first version with these bytes, counted from 1
abbrev pub number_of : List ℕ → List (List ℕ) → Option ℕ
number_of bytes [] = None
number_of bytes (version ∷ versions) = if bytes_eq version bytes then Some 1 else option_map (λ number. number + 1) (number_of bytes versions)

-- bytes that no version has become the next one, while there is room
abbrev pub store_new : Register → List ℕ → List ℕ → Result ℕ RegisterFault × Register
store_new register name bytes = if nat_lt (count_of register name) most_versions then (Ok (count_of register name + 1), with_version register name bytes) else (Err (Full (count_of register name)), register)

-- bytes that a version has keep its number
abbrev pub store_at : Register → List ℕ → List ℕ → Option ℕ → Result ℕ RegisterFault × Register
store_at register name bytes (Some number) = (Ok number, register)
store_at register name bytes None = store_new register name bytes

-- the answer of `store`, and the register that it leaves
abbrev pub store : Register → List ℕ → List ℕ → Result ℕ RegisterFault × Register
store register name bytes = store_at register name bytes (number_of bytes (versions_of register name))

-- ---- show

-- why a name has no such version, by the number of versions that it has
abbrev pub missing : ℕ → RegisterFault
missing count = if count == 0 then NoSuchName else NoSuchVersion count

-- the bytes, or else the fault
abbrev pub show_or : RegisterFault → Option (List ℕ) → Result (List ℕ) RegisterFault
show_or fault (Some bytes) = Ok bytes
show_or fault None = Err fault

-- the bytes of a version, or why there are none
abbrev pub show : Register → List ℕ → ℕ → Result (List ℕ) RegisterFault
show register name version = show_or (missing (count_of register name)) (version_of register name version)

-- ---- list

-- each name with its number of versions, in byte order
abbrev pub list : Register → List NameCount
list register = map (λ name. record { name = name; count = count_of register name }) (keys register.models)

-- ---- run

-- where there are bytes to show, the output that is kept, or else these bytes
abbrev pub run_with : Option (List ℕ) → Result (List ℕ) RegisterFault → Result RunState RegisterFault
run_with kept (Err fault) = Err fault
run_with (Some output) (Ok bytes) = Ok (Kept output)
run_with None (Ok bytes) = Ok (Fresh bytes)

-- the run that is kept, or the model's bytes where none is, where the version is there
abbrev pub run : Register → Key → Result RunState RegisterFault
run register key = run_with (run_of register key) (show register key.name key.version)
