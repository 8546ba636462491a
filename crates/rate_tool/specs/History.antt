-- Commands one after another.
use Rattle.std.specs.Prelude.{◌≡◌, ◌≢◌, ℕ, ◌<◌, ◌≤◌, Bool, true, false, if◌then◌else◌, List, [], ◌∷◌, length, slice_get, take, Some, Ok}
use Rattle.std.specs.FinMap.{get}
use Rattle.register_core.specs.Register.{Register, Key, most_versions, versions_of, version_of, run_of}
use Rattle.rate_tool.specs.Reply.{IsPrinting}
use Rattle.rate_tool.specs.Run.{IsDueOrFault, IsAnswer, Wrote}
use Rattle.rate_tool.specs.declared.status.Status.{Status}
use Rattle.rate_tool.specs.declared.status.Status.TheVariants as status

-- a call of the program: its words, the bytes of its source, how it ended, and the bytes that it wrote
pub record Given : Type 0 where
  pub words : List (List ℕ)
  pub bytes : List ℕ
  pub ended : Status
  pub wrote : List ℕ

-- a call that ended as it was due or with a fault, and wrote what it should
pub record IsCall (given : Given) (register next : Register) : Type 0 where
  pub due : IsDueOrFault given.words register given.bytes given.ended next
  pub wrote : Wrote given.words register given.bytes (Some []) (Some given.wrote) given.ended next

-- Calls lead from one register to another.
abbrev pub Lead : List Given → Register → Register → Type 0
Lead [] register last = last ≡ register
Lead (given ∷ rest) register last = (next : Register) × (IsCall given register next × Lead rest next last)

-- whether an answer was written, whole or in part
abbrev pub answers : Status → Bool
answers status.Done = true
answers status.WriteFault = true
answers _ = false

-- the calls that were answered, in order
abbrev pub answered : List Given → List Given
answered [] = []
answered (given ∷ rest) = if answers given.ended then given ∷ answered rest else answered rest

-- a front of a text
pub record IsFront (front text : List ℕ) : Type 0 where
  pub count : ℕ
  pub is : front ≡ take count text

-- the bytes that a call wrote are the answer's, or after a failed write a front of them
abbrev pub IsTold : Status → List ℕ → List ℕ → Type 0
IsTold status.Done wrote text = wrote ≡ text
IsTold _ wrote text = IsFront wrote text

-- the answer that a call was given by the definition, which it wrote, and the register that it leaves
pub record IsStep (given : Given) (register next : Register) : Type 0 where
  pub text : List ℕ
  pub answer : IsAnswer given.words register given.bytes text next
  pub wrote : IsTold given.ended given.wrote text

-- calls that were all answered lead from one register to another
abbrev pub Step : List Given → Register → Register → Type 0
Step [] register last = last ≡ register
Step (given ∷ rest) register last = (next : Register) × (IsStep given register next × Step rest next last)

-- a kept output is printed of the derivation of its version
pub record IsOutput (register : Register) (key : Key) (output : List ℕ) : Type 0 where
  pub file : List ℕ
  pub there : version_of register key.name key.version ≡ Some file
  pub printed : IsPrinting key.loops key.format file (Ok output)

-- Each name has at least one version, and at most so many as a name may have. The versions of a name differ. Each kept output is printed
-- of the derivation of its version.
pub record IsLawful (register : Register) : Type 0 where
  pub filled : (name : List ℕ) (versions : List (List ℕ)) → get register.models name ≡ Some versions → 1 ≤ length versions
  pub differ : (name : List ℕ) (i j : ℕ) (a b : List ℕ) → i < j → slice_get (versions_of register name) i ≡ Some a → slice_get (versions_of register name) j ≡ Some b → a ≢ b
  pub short : (name : List ℕ) → length (versions_of register name) ≤ most_versions
  pub outputs : (key : Key) (output : List ℕ) → run_of register key ≡ Some output → IsOutput register key output

-- What calls lead to from the register that has no name: the calls that were answered lead there too, each by the answer that it wrote,
-- and the register is lawful.
pub record IsHistory (opening : Register) (calls : List Given) (last : Register) : Type 0 where
  pub steps : Step (answered calls) opening last
  pub lawful : IsLawful last
