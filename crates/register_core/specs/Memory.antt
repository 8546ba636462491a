-- What a keeper in memory holds, and what its calls do.
use Rattle.std.specs.Prelude.{◌≡◌, ℕ, ◌≤◌, ◌==◌, Bool, true, false, if◌then◌else◌, List, refl, Result, Ok, Err, IfOk, OnOk, OnErr}
use Rattle.std.specs.List.{list_any}
use Rattle.std.specs.Coded.{Coded, code_by, coded×, coded_ℕ, coded_list}
use Rattle.register_core.specs.declared.keeper.KeepFault.{KeepFault}
use Rattle.register_core.specs.declared.keeper.KeepFault.TheVariants.{Failed, NoMemory}
use Rattle.register_core.specs.Counts.{one_more}
use Rattle.register_core.specs.Register.{Register}
use Rattle.register_core.specs.Codes.{coded_register}

-- a keeper that fails on some calls: its tables, the numbers of the calls that fail, and how many calls and faults there were
pub record MemoryRegister : Type 0 where
  pub register : Register
  pub fails : List ℕ
  pub calls : ℕ
  pub faults : ℕ

-- such a keeper as the tuple of its fields
abbrev pub coded_memory : Coded MemoryRegister
coded_memory =
    code_by (Register × (List ℕ × (ℕ × ℕ))) (coded× coded_register (coded× (coded_list coded_ℕ) (coded× coded_ℕ coded_ℕ)))
    (λ m. (m.register, (m.fails, (m.calls, m.faults)))) (λ p. record { register = p.0; fails = p.1.0; calls = p.1.1.0; faults = p.1.1.1 }) (λ _. refl)

-- whether the number of a call stands in the list
abbrev pub is_listed : List ℕ → ℕ → Bool
is_listed fails call = list_any (λ number. number == call) fails

-- whether a call failed, which want of memory isn't
abbrev pub is_failed : {T : Type 0} → Result T KeepFault → Bool
is_failed (Ok answer) = false
is_failed (Err Failed) = true
is_failed (Err NoMemory) = false

-- whether the next call is one of those that fail
abbrev pub next_fails : MemoryRegister → Bool
next_fails keeper = is_listed keeper.fails (one_more keeper.calls)

-- A call is counted, and fails exactly where its number stands in the list, which stays.
pub record Counted {T : Type 0} (old new : MemoryRegister) (result : Result T KeepFault) : Type 0 where
  pub failed : is_failed result ≡ next_fails old
  pub calls : new.calls ≡ one_more old.calls
  pub faults : new.faults ≡ (if next_fails old then one_more old.faults else old.faults)
  pub later : old.faults ≤ new.faults
  pub fails : new.fails ≡ old.fails

-- a call that reads: it is counted, it leaves the tables, and its answer is right
pub record Reads {T : Type 0} (old new : MemoryRegister) (result : Result T KeepFault) (IsRight : Register → T → Type 0) : Type 0 where
  pub counted : Counted old new result
  pub same : new.register ≡ old.register
  pub answer : IfOk result (IsRight old.register)

-- a call that writes: it is counted, and it changes the tables where it answers Ok
pub record Writes {T : Type 0} (old new : MemoryRegister) (result : Result T KeepFault) (change : Register → Register) : Type 0 where
  pub counted : Counted old new result
  pub changed : OnOk result (new.register ≡ change old.register)
  pub kept : OnErr result (new.register ≡ old.register)
