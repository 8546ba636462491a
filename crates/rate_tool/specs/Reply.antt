-- What a command answers over the source's bytes and a register, and the register that it leaves.
use Rattle.std.specs.Prelude.{◌≡◌, ◌⊎◌, ℕ, ◌+◌, ◌<◌, ◌≤◌, nat_lt, if◌then◌else◌, List, length, Result, Ok, Err}
use Rattle.model_core.specs.declared.fault.ReadFault.{ReadFault}
use Rattle.model_core.specs.declared.format.Format.{Format}
use Rattle.model_core.specs.declared.model.Model.{Model}
use Rattle.model_core.specs.Reading.{reading}
use Rattle.model_reader.specs.declared.error.ReadError.{ReadError}
use Rattle.model_reader.specs.declared.error.ReadError.TheVariants as error
use Rattle.derive_core.specs.Derivation.{IsDerivation, IsCheck, Overflows}
use Rattle.derive_core.specs.declared.fault.DeriveFault.{DeriveFault}
use Rattle.derive_core.specs.declared.fault.DeriveFault.TheVariants as fault
use Rattle.print_beta.specs.Printed.{printed}
use Rattle.demo_models.specs.Demo.{demo_text}
use Rattle.register_core.specs.Register.{Register, Key, with_run}
use Rattle.register_core.specs.Machine as machine
use Rattle.register_core.specs.declared.register.RunState.{RunState}
use Rattle.register_core.specs.declared.register.RunState.TheVariants.{Kept, Fresh}
use Rattle.register_core.specs.declared.register_fault.RegisterFault.{RegisterFault}
use Rattle.register_core.specs.declared.register_fault.RegisterFault.TheVariants as denial
use Rattle.rate_tool.specs.Lines.{accepted_text, summary_text, stored_text, counts_text}
use Rattle.rate_tool.specs.declared.words.Command.{Command}
use Rattle.rate_tool.specs.declared.words.Command.TheVariants.{Derive, Check, Store, Show, Listing, Run, Demo}
use Rattle.rate_tool.specs.declared.status.Status.{Status}
use Rattle.rate_tool.specs.declared.status.Status.TheVariants as status

-- the most bytes that a file may have
abbrev pub limit : ℕ
limit = 1048576

-- the most bytes that a source is asked for: one more, which tells that there are too many
abbrev pub most_asked : ℕ
most_asked = limit + 1

-- ---- statuses of refusals

-- of a model file
abbrev pub refusal_of : DeriveFault → Status
refusal_of (fault.Read bad) = status.Malformed bad
refusal_of (fault.Term bad) = status.BadTerm bad
refusal_of (fault.Anomalous bad) = status.Anomalous bad
refusal_of (fault.Overflow pair) = status.Overflow pair
refusal_of fault.NoMemory = status.NoMemory

-- of a file that is no model's
abbrev pub unreadable : ReadError → Status
unreadable (error.Fault bad) = status.Malformed bad
unreadable error.NoMemory = status.NoMemory

-- of a call of the register
abbrev pub denial_of : RegisterFault → Status
denial_of denial.NoSuchName = status.NoSuch
denial_of (denial.NoSuchVersion count) = status.NoSuch
denial_of (denial.Full count) = status.Full
denial_of denial.Keeper = status.KeeperFault
denial_of denial.NoMemory = status.NoMemory

-- ---- answers to a model file

-- the text is printed of something of which this holds
pub record IsPrinted {X : Type 0} (text_of : X → List ℕ) (Holds : X → Type 0) (text : List ℕ) : Type 0 where
  pub found : X
  pub holds : Holds found
  pub printed : text ≡ text_of found

-- its beta functions to so many loops in a printed form, or why it is refused
abbrev pub IsPrinting : ℕ → Format → List ℕ → Result (List ℕ) DeriveFault → Type 0
IsPrinting loops format file (Ok text) = IsPrinted (printed format) (λ betas. IsDerivation loops file (Ok betas)) text
IsPrinting loops format file (Err bad) = IsDerivation loops file (Err bad)

-- that it is accepted, or why it is refused
abbrev pub IsAcceptance : List ℕ → Result (List ℕ) DeriveFault → Type 0
IsAcceptance file (Ok text) = IsPrinted accepted_text (λ found. IsCheck file (Ok found)) text
IsAcceptance file (Err bad) = IsCheck file (Err bad)

-- how much there is of its beta functions to two loops, or why it is refused
abbrev pub IsSummary : ℕ → List ℕ → Result (List ℕ) DeriveFault → Type 0
IsSummary seed file (Ok text) = IsPrinted (summary_text seed) (λ betas. IsDerivation 2 file (Ok betas)) text
IsSummary seed file (Err bad) = IsDerivation 2 file (Err bad)

-- The reply to a file: the answer, or the status of the refusal. Where the file stands for a model, two fractions may be refused because
-- their numbers are too large.
abbrev pub IsReplyTo : (List ℕ → Result (List ℕ) DeriveFault → Type 0) → List ℕ → Result (List ℕ) Status → Type 0
IsReplyTo Answers file (Ok text) = Answers file (Ok text)
IsReplyTo Answers file (Err (status.Malformed bad)) = Answers file (Err (fault.Read bad))
IsReplyTo Answers file (Err (status.BadTerm bad)) = Answers file (Err (fault.Term bad))
IsReplyTo Answers file (Err (status.Anomalous bad)) = Answers file (Err (fault.Anomalous bad))
IsReplyTo Answers file (Err (status.Overflow pair)) = Overflows file pair
IsReplyTo Answers file (Err _) = ⊥

-- the reply to a source's bytes, which are a file where they are not too many
abbrev pub IsReplyToSource : (List ℕ → Result (List ℕ) DeriveFault → Type 0) → List ℕ → Result (List ℕ) Status → Type 0
IsReplyToSource Answers bytes reply = ((limit < length bytes) × (reply ≡ Err status.TooLong)) ⊎ ((length bytes ≤ limit) × IsReplyTo Answers bytes reply)

-- ---- answers of the register

-- the number of a version that was stored, or why none was
abbrev pub stored : List ℕ → Result ℕ RegisterFault × Register → Result (List ℕ) Status × Register
stored name (Ok number, next) = (Ok (stored_text name number), next)
stored name (Err bad, next) = (Err (denial_of bad), next)

-- a file is stored where it stands for a model
abbrev pub store_file : Register → List ℕ → List ℕ → Result Model ReadFault → Result (List ℕ) Status × Register
store_file register name file (Ok model) = stored name (machine.store register name file)
store_file register name file (Err bad) = (Err (status.Malformed bad), register)

-- a source's bytes are a file where they are not too many
abbrev pub store_bytes : Register → List ℕ → List ℕ → Result (List ℕ) Status × Register
store_bytes register name bytes = if nat_lt limit (length bytes) then (Err status.TooLong, register) else store_file register name bytes (reading bytes)

-- the bytes of a version, or why there are none
abbrev pub shown : Result (List ℕ) RegisterFault → Result (List ℕ) Status
shown (Ok bytes) = Ok bytes
shown (Err bad) = Err (denial_of bad)

-- the register that has the output of a run too
abbrev pub keeping : Register → Key → Result (List ℕ) Status → Register
keeping register key (Ok text) = with_run register key text
keeping register key (Err refusal) = register

-- The reply to a run, by what the register has for its key: the output that is kept, or else that of the version, which is kept from now on.
abbrev pub IsRunReply : Register → Key → Result RunState RegisterFault → Result (List ℕ) Status → Register → Type 0
IsRunReply register key (Ok (Kept output)) reply next = (reply ≡ Ok output) × (next ≡ register)
IsRunReply register key (Ok (Fresh file)) reply next = IsReplyTo (IsPrinting key.loops key.format) file reply × (next ≡ keeping register key reply)
IsRunReply register key (Err bad) reply next = (reply ≡ Err (denial_of bad)) × (next ≡ register)

-- ---- commands

-- What a command answers over the source's bytes and a register, and the register that it leaves. The number of workers doesn't matter.
abbrev pub IsReply : Command → Register → List ℕ → Result (List ℕ) Status → Register → Type 0
IsReply (Derive loops format workers) register bytes reply next = IsReplyToSource (IsPrinting loops format) bytes reply × (next ≡ register)
IsReply Check register bytes reply next = IsReplyToSource IsAcceptance bytes reply × (next ≡ register)
IsReply (Store name) register bytes reply next = (reply, next) ≡ store_bytes register name bytes
IsReply (Show name version) register bytes reply next = (reply ≡ shown (machine.show register name version)) × (next ≡ register)
IsReply Listing register bytes reply next = (reply ≡ Ok (counts_text (machine.list register))) × (next ≡ register)
IsReply (Run key workers) register bytes reply next = IsRunReply register key (machine.run register key) reply next
IsReply (Demo seed) register bytes reply next = IsReplyTo (IsSummary seed) (demo_text seed) reply × (next ≡ register)
