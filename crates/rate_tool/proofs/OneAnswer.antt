-- A command has one reply, and words one status.
use Rattle.std.proofs.Common.{◌≡◌, ℕ, ◌<◌, ◌≤◌, List, length, Option, None, Some, Result, Ok, Err, refl, sym, ap, subst, ◌∙◌, inl, inr, arith}
use Rattle.std.specs.Prelude.{option_map}
use Rattle.model_core.specs.declared.format.Format.{Format}
use Rattle.derive_core.specs.Derivation.{IsDerivation, IsCheck}
use Rattle.derive_core.specs.declared.betas.Betas.{Betas}
use Rattle.derive_core.specs.declared.betas.Checked.{Checked}
use Rattle.derive_core.specs.declared.fault.DeriveFault.{DeriveFault}
use Rattle.derive_core.specs.declared.fault.DeriveFault.TheVariants as fault
use Rattle.derive_core.proofs.OneAnswer.{one_derivation, one_check}
use Rattle.print_beta.specs.Printed.{printed}
use Rattle.demo_models.specs.Demo.{demo_text}
use Rattle.register_core.specs.Register.{Register, Key}
use Rattle.register_core.specs.Machine as machine
use Rattle.register_core.specs.declared.register.RunState.{RunState}
use Rattle.register_core.specs.declared.register.RunState.TheVariants.{Kept, Fresh}
use Rattle.register_core.specs.declared.register_fault.RegisterFault.{RegisterFault}
use Rattle.rate_tool.specs.Laws.{with_one_worker, IsSettled, IsSettledReply, CommandHasOneReply, WordsHaveOneStatus}
use Rattle.rate_tool.specs.Lines.{accepted_text, summary_text}
use Rattle.rate_tool.specs.Reply.{limit, refusal_of, IsPrinted, IsPrinting, IsAcceptance, IsSummary, IsReplyTo, IsReplyToSource, keeping, IsRunReply, IsReply}
use Rattle.rate_tool.specs.Run.{status_of, IsAnswered, IsStatusFor}
use Rattle.rate_tool.specs.Words.{command_of}
use Rattle.rate_tool.specs.declared.words.Command.{Command}
use Rattle.rate_tool.specs.declared.words.Command.TheVariants.{Derive, Check, Store, Show, Listing, Run, Demo}
use Rattle.rate_tool.specs.declared.status.Status.{Status}
use Rattle.rate_tool.specs.declared.status.Status.TheVariants as status

abbrev Reply : Type 0
Reply = Result (List ℕ) Status

abbrev Answer : Type 0
Answer = Result (List ℕ) DeriveFault

-- a file has one answer
abbrev IsSingle : (List ℕ → Answer → Type 0) → Type 0
IsSingle Answers = (file : List ℕ) (first second : Answer) → Answers file first → Answers file second → first ≡ second

-- ---- texts of what is found

one_text : {X : Type 0} (text_of : X → List ℕ) (Holds : X → Type 0) → ((x y : X) → Holds x → Holds y → x ≡ y) → (a b : List ℕ) → IsPrinted text_of Holds a → IsPrinted text_of Holds b → a ≡ b
one_text text_of Holds once a b first second = first.printed ∙ ap text_of (once first.found second.found first.holds second.holds) ∙ sym second.printed

one_betas : (loops : ℕ) (file : List ℕ) (x y : Betas) → IsDerivation loops file (Ok x) → IsDerivation loops file (Ok y) → x ≡ y
one_betas loops file x y first second = let same : Ok x ≡ Ok y = one_derivation loops file (Ok x) (Ok y) first second in cc

one_checked : (file : List ℕ) (x y : Checked) → IsCheck file (Ok x) → IsCheck file (Ok y) → x ≡ y
one_checked file x y first second = let same : Ok x ≡ Ok y = one_check file (Ok x) (Ok y) first second in cc

printing_once : (loops : ℕ) (format : Format) → IsSingle (IsPrinting loops format)
printing_once loops format file (Ok a) (Ok b) first second = ap Ok (one_text (printed format) (λ betas. IsDerivation loops file (Ok betas)) (one_betas loops file) a b first second)
printing_once loops format file (Ok a) (Err b) first second = let never : Ok first.found ≡ Err b = one_derivation loops file (Ok first.found) (Err b) first.holds second in let none : ⊥ = cc in absurd none
printing_once loops format file (Err a) (Ok b) first second = let never : Ok second.found ≡ Err a = one_derivation loops file (Ok second.found) (Err a) second.holds first in let none : ⊥ = cc in absurd none
printing_once loops format file (Err a) (Err b) first second = let same : Err a ≡ Err b = one_derivation loops file (Err a) (Err b) first second in ap Err cc

acceptance_once : IsSingle IsAcceptance
acceptance_once file (Ok a) (Ok b) first second = ap Ok (one_text accepted_text (λ found. IsCheck file (Ok found)) (one_checked file) a b first second)
acceptance_once file (Ok a) (Err b) first second = let never : Ok first.found ≡ Err b = one_check file (Ok first.found) (Err b) first.holds second in let none : ⊥ = cc in absurd none
acceptance_once file (Err a) (Ok b) first second = let never : Ok second.found ≡ Err a = one_check file (Ok second.found) (Err a) second.holds first in let none : ⊥ = cc in absurd none
acceptance_once file (Err a) (Err b) first second = let same : Err a ≡ Err b = one_check file (Err a) (Err b) first second in ap Err cc

summary_once : (seed : ℕ) → IsSingle (IsSummary seed)
summary_once seed file (Ok a) (Ok b) first second = ap Ok (one_text (summary_text seed) (λ betas. IsDerivation 2 file (Ok betas)) (one_betas 2 file) a b first second)
summary_once seed file (Ok a) (Err b) first second = let never : Ok first.found ≡ Err b = one_derivation 2 file (Ok first.found) (Err b) first.holds second in let none : ⊥ = cc in absurd none
summary_once seed file (Err a) (Ok b) first second = let never : Ok second.found ≡ Err a = one_derivation 2 file (Ok second.found) (Err a) second.holds first in let none : ⊥ = cc in absurd none
summary_once seed file (Err a) (Err b) first second = let same : Err a ≡ Err b = one_derivation 2 file (Err a) (Err b) first second in ap Err cc

-- ---- replies to a file

-- an answer as a reply
reply_of : Answer → Reply
reply_of (Ok text) = Ok text
reply_of (Err bad) = Err (refusal_of bad)

-- the answer that a settled reply is
record IsOfAnswer (Answers : List ℕ → Answer → Type 0) (file : List ℕ) (reply : Reply) : Type 0 where
  answer : Answer
  answers : Answers file answer
  is : reply ≡ reply_of answer

module _ (Answers : List ℕ → Answer → Type 0) where
  of_answer : (file : List ℕ) (reply : Reply) → IsSettledReply reply → IsReplyTo Answers file reply → IsOfAnswer Answers file reply
  unfolding reply_of
  of_answer file (Ok text) settled replies = record { answer = Ok text; answers = replies; is = refl }
  of_answer file (Err (status.Malformed bad)) settled replies = record { answer = Err (fault.Read bad); answers = replies; is = refl }
  of_answer file (Err (status.BadTerm bad)) settled replies = record { answer = Err (fault.Term bad); answers = replies; is = refl }
  of_answer file (Err (status.Anomalous bad)) settled replies = record { answer = Err (fault.Anomalous bad); answers = replies; is = refl }
  of_answer file (Err (status.Overflow pair)) settled replies = absurd settled
  of_answer file (Err status.Done) settled replies = absurd replies
  of_answer file (Err status.NoMemory) settled replies = absurd replies
  of_answer file (Err status.Usage) settled replies = absurd replies
  of_answer file (Err status.ReadFault) settled replies = absurd replies
  of_answer file (Err status.TooLong) settled replies = absurd replies
  of_answer file (Err status.NoSuch) settled replies = absurd replies
  of_answer file (Err status.Full) settled replies = absurd replies
  of_answer file (Err status.KeeperFault) settled replies = absurd replies
  of_answer file (Err status.WriteFault) settled replies = absurd replies

  module _ (once : IsSingle Answers) (first second : Reply) (settled : IsSettledReply first) (settled' : IsSettledReply second) where
    file_once : (file : List ℕ) → IsReplyTo Answers file first → IsReplyTo Answers file second → first ≡ second
    file_once file a b =
        let one = of_answer file first settled a in
        let other = of_answer file second settled' b in
        one.is ∙ ap reply_of (once file one.answer other.answer one.answers other.answers) ∙ sym other.is

    never_long : (bytes : List ℕ) → limit < length bytes → length bytes ≤ limit → ⊥
    never_long bytes long short = omega (arith, long, short)

    source_once : (bytes : List ℕ) → IsReplyToSource Answers bytes first → IsReplyToSource Answers bytes second → first ≡ second
    source_once bytes (inl a) (inl b) = a.1 ∙ sym b.1
    source_once bytes (inl a) (inr b) = absurd (never_long bytes a.0 b.0)
    source_once bytes (inr a) (inl b) = absurd (never_long bytes b.0 a.0)
    source_once bytes (inr a) (inr b) = file_once bytes a.1 b.1

-- ---- replies of commands

-- the number of workers doesn't matter
as_one : (command : Command) (register : Register) (bytes : List ℕ) (reply : Reply) (next : Register) → IsReply command register bytes reply next → IsReply (with_one_worker command) register bytes reply next
as_one (Derive loops format workers) register bytes reply next replies = replies
as_one Check register bytes reply next replies = replies
as_one (Store name) register bytes reply next replies = replies
as_one (Show name version) register bytes reply next replies = replies
as_one Listing register bytes reply next replies = replies
as_one (Run key workers) register bytes reply next replies = replies
as_one (Demo seed) register bytes reply next replies = replies

module _ (register : Register) (bytes : List ℕ) (first second : Reply) (settled : IsSettledReply first) (settled' : IsSettledReply second) (next after : Register) where
  abbrev AreSame : Type 0
  AreSame = (first ≡ second) × (next ≡ after)

  -- the register is left
  same_kept : first ≡ second → next ≡ register → after ≡ register → AreSame
  same_kept same a b = (same, a ∙ sym b)

  run_once : (key : Key) (state : Result RunState RegisterFault) → IsRunReply register key state first next → IsRunReply register key state second after → AreSame
  run_once key (Ok (Kept output)) a b = same_kept (a.0 ∙ sym b.0) a.1 b.1
  run_once key (Ok (Fresh file)) a b =
      let same = file_once (IsPrinting key.loops key.format) (printing_once key.loops key.format) first second settled settled' file a.0 b.0 in
      (same, a.1 ∙ ap (keeping register key) same ∙ sym b.1)
  run_once key (Err bad) a b = same_kept (a.0 ∙ sym b.0) a.1 b.1

  reply_once : (command : Command) → IsReply command register bytes first next → IsReply command register bytes second after → AreSame
  reply_once (Derive loops format workers) a b =
      same_kept (source_once (IsPrinting loops format) (printing_once loops format) first second settled settled' bytes a.0 b.0) a.1 b.1
  reply_once Check a b = same_kept (source_once IsAcceptance acceptance_once first second settled settled' bytes a.0 b.0) a.1 b.1
  reply_once (Store name) a b = let both : (first, next) ≡ (second, after) = a ∙ sym b in (ap (λ pair. pair.0) both, ap (λ pair. pair.1) both)
  reply_once (Show name version) a b = same_kept (a.0 ∙ sym b.0) a.1 b.1
  reply_once Listing a b = same_kept (a.0 ∙ sym b.0) a.1 b.1
  reply_once (Run key workers) a b = run_once key (machine.run register key) a b
  reply_once (Demo seed) a b = same_kept (file_once (IsSummary seed) (summary_once seed) first second settled settled' (demo_text seed) a.0 b.0) a.1 b.1

pub one_reply : CommandHasOneReply
one_reply command other register bytes first second next after same settled settled' a b =
    reply_once register bytes first second settled settled' next after (with_one_worker other)
    (subst (λ asked. IsReply asked register bytes first next) same (as_one command register bytes first next a)) (as_one other register bytes second after b)

-- ---- statuses

settled_reply : (reply : Reply) (due : Status) → due ≡ status_of reply → IsSettled due → IsSettledReply reply
settled_reply (Ok text) due is settled = tt
settled_reply (Err refusal) due is settled = subst IsSettled is settled

module _ (register : Register) (bytes : List ℕ) (first second : Status) (settled : IsSettled first) (settled' : IsSettled second) (next after : Register) where
  answer_once : (command other : Command) → with_one_worker command ≡ with_one_worker other → IsAnswered command register bytes first next → IsAnswered other register bytes second after → (first ≡ second) × (next ≡ after)
  answer_once command other same a b =
      let both = one_reply command other register bytes a.reply b.reply next after same (settled_reply a.reply first a.is settled) (settled_reply b.reply second b.is settled') a.replies b.replies in
      (a.is ∙ ap status_of both.0 ∙ sym b.is, both.1)

  some_same : (a b : Command) → Some a ≡ Some b → a ≡ b
  some_same a b same = cc

  never_some : (a : Command) → None ≡ Some a → ⊥
  never_some a same = cc

  status_once : (asked other : Option Command) → option_map with_one_worker asked ≡ option_map with_one_worker other → IsStatusFor asked register bytes first next → IsStatusFor other register bytes second after → (first ≡ second) × (next ≡ after)
  status_once None None same a b = (a.0 ∙ sym b.0, a.1 ∙ sym b.1)
  status_once None (Some other) same a b = absurd (never_some (with_one_worker other) same)
  status_once (Some command) None same a b = absurd (never_some (with_one_worker command) (sym same))
  status_once (Some command) (Some other) same a b = answer_once command other (some_same (with_one_worker command) (with_one_worker other) same) a b

pub one_status : WordsHaveOneStatus
one_status words others register bytes first second next after same settled settled' a b =
    status_once register bytes first second settled settled' next after (command_of words) (command_of others) same a b
