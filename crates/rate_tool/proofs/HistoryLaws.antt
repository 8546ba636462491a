-- What calls one after another lead to.
use Rattle.std.proofs.Common.{◌≡◌, ◌≢◌, ◌⊎◌, ℕ, ◌<◌, ◌≤◌, ◌+◌, Bool, true, false, if◌then◌else◌, nat_lt, List, [], ◌∷◌, ◌++◌, length, length-append, slice_get, Option, None, Some, Result, Ok, Err, refl, sym, ap, subst, subst₂, ◌∙◌, arith, inl, inr}
use Rattle.std.proofs.lemmas.Bool.Decides.{nat_tests}
use Rattle.std.proofs.lemmas.Bool.{false≢true}
use Rattle.model_core.specs.declared.fault.ReadFault.{ReadFault}
use Rattle.model_core.specs.declared.model.Model.{Model}
use Rattle.model_core.specs.Reading.{reading}
use Rattle.register_core.specs.Register.{Register, Key, opening, most_versions, versions_of, version_of, run_of, with_version, with_run}
use Rattle.register_core.specs.Machine as machine
use Rattle.register_core.specs.Machine.{number_of, count_of, store_at, show_or, missing, run_with}
use Rattle.register_core.specs.declared.register.RunState.{RunState}
use Rattle.register_core.specs.declared.register.RunState.TheVariants.{Kept, Fresh}
use Rattle.register_core.specs.declared.register_fault.RegisterFault.{RegisterFault}
use Rattle.register_core.specs.declared.register_fault.RegisterFault.TheVariants as denial
use Rattle.rate_tool.specs.Reply.{limit, denial_of, IsRunReply, IsReply, stored, store_file, store_bytes}
use Rattle.rate_tool.specs.Words.{command_of}
use Rattle.rate_tool.specs.Run.{IsStatusFor, IsDueOrFault, Wrote, status_of}
use Rattle.rate_tool.specs.History.{Given, IsCall, Lead, answers, answered, IsStep, Step, IsOutput, IsLawful, IsHistory}
use Rattle.rate_tool.specs.declared.words.Command.{Command}
use Rattle.rate_tool.specs.declared.words.Command.TheVariants.{Derive, Check, Store, Show, Listing, Run, Demo}
use Rattle.rate_tool.specs.declared.status.Status.{Status}
use Rattle.rate_tool.specs.declared.status.Status.TheVariants as status
use Rattle.rate_tool.proofs.RegisterLaws.{AllDiffer, differ_pushed, versions_after, version_kept, kept_new, with_run_new, run_after, no_versions, no_runs, filled_with, none_filled}

abbrev Reply : Type 0
Reply = Result (List ℕ) Status

-- ---- lawful registers

-- the register that has no name is lawful
pub opening_lawful : IsLawful opening
opening_lawful = record {
  filled = none_filled;
  differ = λ name i j a b before at_i at_j same. nothing_at name i a at_i;
  short = λ name. omega (arith, ap length (no_versions name));
  outputs = λ key output there. absurd (no_output output (sym (no_runs key) ∙ there));
}
  where
    nothing_at : (name : List ℕ) (i : ℕ) (a : List ℕ) → slice_get (versions_of opening name) i ≡ Some a → ⊥
    nothing_at name i a there = let none : slice_get {X = List ℕ} [] i ≡ Some a = ap (λ xs. slice_get xs i) (sym (no_versions name)) ∙ there in let never : ⊥ = cc in never

    no_output : (output : List ℕ) → None ≡ Some output → ⊥
    no_output output there = cc

-- bytes that no version has become one more, while there is room
record AddsVersion (register : Register) (name bytes : List ℕ) (next : Register) : Type 0 where
  none : number_of bytes (versions_of register name) ≡ None
  room : count_of register name < most_versions
  is : next ≡ with_version register name bytes

module _ (register : Register) (lawful : IsLawful register) where
  version_lawful : (name bytes : List ℕ) → number_of bytes (versions_of register name) ≡ None → count_of register name < most_versions → IsLawful (with_version register name bytes)
  version_lawful name bytes none room = record {
    filled = filled_with register name bytes lawful.filled;
    differ = λ other. elim (versions_after register name bytes other) [
      | inl more ↦ subst AllDiffer (sym more.1) (differ_pushed (versions_of register other) bytes (lawful.differ other) (ap (λ n. number_of bytes (versions_of register n)) more.0 ∙ none))
      | inr same ↦ subst AllDiffer (sym same) (lawful.differ other)
    ];
    short = λ other. elim (versions_after register name bytes other) [
      | inl more ↦ few other (ap (count_of register) more.0) (ap length more.1)
      | inr same ↦ subst (λ xs. length xs ≤ most_versions) (sym same) (lawful.short other)
    ];
    outputs = λ key output there. kept key output (lawful.outputs key output there);
  }
    where
      few : (other : List ℕ) → count_of register other ≡ count_of register name → length (versions_of (with_version register name bytes) other) ≡ length (versions_of register other ++ bytes ∷ [])
          → length (versions_of (with_version register name bytes) other) ≤ most_versions
      few other count more = omega (arith, count, more, room, length-append (versions_of register other) (bytes ∷ []))

      kept : (key : Key) (output : List ℕ) → IsOutput register key output → IsOutput (with_version register name bytes) key output
      kept key output it = record { file = it.file; there = version_kept register name bytes key.name key.version it.file it.there; printed = it.printed }

  -- an output that is printed of its version may be kept
  run_lawful : (key : Key) (output : List ℕ) → run_of register key ≡ None → IsOutput register key output → IsLawful (with_run register key output)
  run_lawful key output none it = subst IsLawful (sym (with_run_new register key output none)) (record {
    filled = lawful.filled;
    differ = lawful.differ;
    short = lawful.short;
    outputs = λ other found there. elim (run_after register key output other found there) [
      | inl new ↦ subst₂ (IsOutput (kept_new register key output)) (sym new.0) (sym new.1) (carried key output it)
      | inr old ↦ carried other found (lawful.outputs other found old)
    ];
  })
    where
      carried : (other : Key) (found : List ℕ) → IsOutput register other found → IsOutput (kept_new register key output) other found
      carried other found it = record { file = it.file; there = it.there; printed = it.printed }

-- ---- what a reply leaves

-- bytes that were stored are a version more or change nothing, and a refusal changes nothing and is one
abbrev IsLeft : Register → List ℕ → List ℕ → Reply × Register → Type 0
IsLeft register name bytes (Ok text, next) = (next ≡ register) ⊎ AddsVersion register name bytes next
IsLeft register name bytes (Err refusal, next) = (next ≡ register) × (refusal ≢ status.Done)

denial_no_answer : (bad : RegisterFault) → denial_of bad ≢ status.Done
denial_no_answer denial.NoSuchName same = cc
denial_no_answer (denial.NoSuchVersion count) same = cc
denial_no_answer (denial.Full count) same = cc
denial_no_answer denial.Keeper same = cc
denial_no_answer denial.NoMemory same = cc

module _ (register : Register) (name bytes : List ℕ) where
  left_new : (b : Bool) → nat_lt (count_of register name) most_versions ≡ b → number_of bytes (versions_of register name) ≡ None
      → IsLeft register name bytes (stored name (if b then (Ok (count_of register name + 1), with_version register name bytes) else (Err (denial.Full (count_of register name)), register)))
  left_new true room none = inr (record { none = none; room = grind (arith, nat_tests, room); is = refl })
  left_new false room none = (refl, denial_no_answer (denial.Full (count_of register name)))

  left_at : (found : Option ℕ) → number_of bytes (versions_of register name) ≡ found → IsLeft register name bytes (stored name (store_at register name bytes found))
  left_at (Some number) is = inl refl
  left_at None is = left_new _ refl is

  left_file : (read : Result Model ReadFault) → IsLeft register name bytes (store_file register name bytes read)
  left_file (Ok model) = left_at _ refl
  left_file (Err bad) = (refl, λ same. cc)

  left_bytes : (b : Bool) → IsLeft register name bytes (if b then (Err status.TooLong, register) else store_file register name bytes (reading bytes))
  left_bytes true = (refl, λ same. cc)
  left_bytes false = left_file (reading bytes)

  left_by : (reply : Reply) (next : Register) → (reply, next) ≡ store_bytes register name bytes → IsLeft register name bytes (reply, next)
  left_by reply next is = subst (IsLeft register name bytes) (sym is) (left_bytes (nat_lt limit (length bytes)))

-- ---- refused calls leave the register

module _ (register next : Register) (bytes : List ℕ) where
  run_refused : (key : Key) (state : Result RunState RegisterFault) (refusal : Status) → IsRunReply register key state (Err refusal) next → next ≡ register
  run_refused key (Ok (Kept output)) refusal is = is.1
  run_refused key (Ok (Fresh file)) refusal is = is.1
  run_refused key (Err bad) refusal is = is.1

  refused_leaves : (command : Command) (refusal : Status) → IsReply command register bytes (Err refusal) next → next ≡ register
  refused_leaves (Derive loops format workers) refusal is = is.1
  refused_leaves Check refusal is = is.1
  refused_leaves (Store name) refusal is = (left_by register name bytes (Err refusal) next is).0
  refused_leaves (Show name version) refusal is = is.1
  refused_leaves Listing refusal is = is.1
  refused_leaves (Run key workers) refusal is = run_refused key (machine.run register key) refusal is
  refused_leaves (Demo seed) refusal is = is.1

-- ---- an answer leaves a lawful register lawful

module _ (register next : Register) (lawful : IsLawful register) where
  unchanged : next ≡ register → IsLawful next
  unchanged same = subst IsLawful (sym same) lawful

  store_lawful : (name bytes text : List ℕ) → IsLeft register name bytes (Ok text, next) → IsLawful next
  store_lawful name bytes text (inl same) = unchanged same
  store_lawful name bytes text (inr more) = subst IsLawful (sym more.is) (version_lawful register lawful name bytes more.none more.room)

  -- a fresh run has a version and no output
  fresh : (file : List ℕ) (kept version : Option (List ℕ)) (fault : RegisterFault) → run_with kept (show_or fault version) ≡ Ok (Fresh file) → (kept ≡ None) × (version ≡ Some file)
  fresh file kept None fault is = let never : ⊥ = cc in absurd never
  fresh file None (Some bytes) fault is = (refl, cc)
  fresh file (Some output) (Some bytes) fault is = let never : ⊥ = cc in absurd never

  ran_lawful : (key : Key) (text : List ℕ) (state : Result RunState RegisterFault) → machine.run register key ≡ state → IsRunReply register key state (Ok text) next → IsLawful next
  ran_lawful key text (Ok (Kept output)) state is = unchanged is.1
  ran_lawful key text (Ok (Fresh file)) state is =
      let new = fresh file (run_of register key) (version_of register key.name key.version) (missing (count_of register key.name)) state in
      subst IsLawful (sym is.1) (run_lawful register lawful key text new.0 (record { file = file; there = new.1; printed = is.0 }))
  ran_lawful key text (Err bad) state is = unchanged is.1

  answer_lawful : (bytes text : List ℕ) (command : Command) → IsReply command register bytes (Ok text) next → IsLawful next
  answer_lawful bytes text (Derive loops format workers) is = unchanged is.1
  answer_lawful bytes text Check is = unchanged is.1
  answer_lawful bytes text (Store name) is = store_lawful name bytes text (left_by register name bytes (Ok text) next is)
  answer_lawful bytes text (Show name version) is = unchanged is.1
  answer_lawful bytes text Listing is = unchanged is.1
  answer_lawful bytes text (Run key workers) is = ran_lawful key text (machine.run register key) refl is
  answer_lawful bytes text (Demo seed) is = unchanged is.1

steps_lawful : (calls : List Given) (register last : Register) → IsLawful register → Step calls register last → IsLawful last
steps_lawful [] register last lawful same = subst IsLawful (sym same) lawful
steps_lawful (given ∷ calls) register last lawful (next, (step, rest)) =
    steps_lawful calls next last (answer_lawful register next lawful given.bytes step.text step.answer.command step.answer.replies) rest

-- ---- calls by their answers alone

-- a call is a step, or leaves the register
abbrev IsStepIf : Bool → Given → Register → Register → Type 0
IsStepIf true given register next = IsStep given register next
IsStepIf false given register next = next ≡ register

module _ (given : Given) (register next : Register) where
  left_reply : (due : Status) → due ≢ status.Done → (command : Command) (reply : Reply) → IsReply command register given.bytes reply next → due ≡ status_of reply → next ≡ register
  left_reply due other command (Ok text) replies is = absurd (other is)
  left_reply due other command (Err refusal) replies is = refused_leaves register next given.bytes command refusal replies

  left_call : (due : Status) → due ≢ status.Done → (asked : Option Command) → IsStatusFor asked register given.bytes due next → next ≡ register
  left_call due other None is = is.1
  left_call due other (Some command) is = left_reply due other command is.reply is.replies is.is

  -- an unanswered call leaves the register
  unanswered : (ended : Status) → answers ended ≡ false → IsDueOrFault given.words register given.bytes ended next → next ≡ register
  unanswered status.Done silent is = absurd (false≢true (sym silent))
  unanswered status.NoMemory silent is = is
  unanswered status.Usage silent is = left_call status.Usage (λ same. cc) (command_of given.words) is
  unanswered status.ReadFault silent is = is.0
  unanswered status.TooLong silent is = left_call status.TooLong (λ same. cc) (command_of given.words) is
  unanswered (status.Malformed bad) silent is = left_call (status.Malformed bad) (λ same. cc) (command_of given.words) is
  unanswered (status.BadTerm bad) silent is = left_call (status.BadTerm bad) (λ same. cc) (command_of given.words) is
  unanswered (status.Anomalous bad) silent is = left_call (status.Anomalous bad) (λ same. cc) (command_of given.words) is
  unanswered (status.Overflow pair) silent is = left_call (status.Overflow pair) (λ same. cc) (command_of given.words) is
  unanswered status.NoSuch silent is = left_call status.NoSuch (λ same. cc) (command_of given.words) is
  unanswered status.Full silent is = left_call status.Full (λ same. cc) (command_of given.words) is
  unanswered status.KeeperFault silent is = is.0
  unanswered status.WriteFault silent is = absurd (false≢true (sym silent))

answered_step : (words : List (List ℕ)) (bytes wrote : List ℕ) (register next : Register) (ended : Status) → answers ended ≡ true
    → Wrote words register bytes (Some []) (Some wrote) ended next → IsStep (record { words = words; bytes = bytes; ended = ended; wrote = wrote }) register next
answered_step words bytes wrote register next status.Done loud is = record { text = is.text; answer = is.answer; wrote = is.took }
answered_step words bytes wrote register next status.WriteFault loud is =
    record { text = is.text; answer = is.answer; wrote = record { count = is.took.front; is = is.took.took } }
answered_step words bytes wrote register next status.NoMemory loud is = absurd (false≢true loud)
answered_step words bytes wrote register next status.Usage loud is = absurd (false≢true loud)
answered_step words bytes wrote register next status.ReadFault loud is = absurd (false≢true loud)
answered_step words bytes wrote register next status.TooLong loud is = absurd (false≢true loud)
answered_step words bytes wrote register next (status.Malformed bad) loud is = absurd (false≢true loud)
answered_step words bytes wrote register next (status.BadTerm bad) loud is = absurd (false≢true loud)
answered_step words bytes wrote register next (status.Anomalous bad) loud is = absurd (false≢true loud)
answered_step words bytes wrote register next (status.Overflow pair) loud is = absurd (false≢true loud)
answered_step words bytes wrote register next status.NoSuch loud is = absurd (false≢true loud)
answered_step words bytes wrote register next status.Full loud is = absurd (false≢true loud)
answered_step words bytes wrote register next status.KeeperFault loud is = absurd (false≢true loud)

call_step : (given : Given) (register next : Register) (b : Bool) → answers given.ended ≡ b → IsCall given register next → IsStepIf b given register next
call_step given register next true loud is = answered_step given.words given.bytes given.wrote register next given.ended loud is.wrote
call_step given register next false silent is = unanswered given register next given.ended silent is.due

step_before : (b : Bool) (given : Given) (calls : List Given) (register next last : Register) → IsStepIf b given register next → Step calls next last → Step (if b then given ∷ calls else calls) register last
step_before true given calls register next last step rest = (next, (step, rest))
step_before false given calls register next last same rest = subst (λ r. Step calls r last) same rest

lead_steps : (calls : List Given) (register last : Register) → Lead calls register last → Step (answered calls) register last
lead_steps [] register last same = same
lead_steps (given ∷ calls) register last (next, (due, rest)) =
    step_before (answers given.ended) given (answered calls) register next last (call_step given register next (answers given.ended) refl due) (lead_steps calls next last rest)

pub history : (calls : List Given) (last : Register) → Lead calls opening last → IsHistory opening calls last
history calls last lead = let steps = lead_steps calls opening last lead in record { steps = steps; lawful = steps_lawful (answered calls) opening last opening_lawful steps }
