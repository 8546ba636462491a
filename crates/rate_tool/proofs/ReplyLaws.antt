-- How replies end.
use Rattle.std.proofs.Common.{◌≡◌, ℕ, ◌<◌, ◌≤◌, true, false, List, [], length, Option, Result, Ok, Err, refl, sym, ap, subst, ◌∙◌, arith, inl, inr}
use Rattle.std.specs.Prelude.{nat_lt}
use Rattle.std.specs.Result.{IsErrAnd}
use Rattle.std.proofs.lemmas.Bool.Decides.{nat_tests}
use Rattle.std.proofs.lemmas.Bool.{false≢true}
use Rattle.model_core.specs.declared.fault.ReadFault.{ReadFault}
use Rattle.model_core.specs.declared.format.Format.{Format}
use Rattle.model_core.specs.declared.model.Model.{Model}
use Rattle.model_core.specs.Reading.{reading}
use Rattle.demo_models.specs.Demo.{demo_text}
use Rattle.derive_core.specs.declared.fault.DeriveFault.{DeriveFault}
use Rattle.derive_core.specs.declared.fault.DeriveFault.TheVariants as fault
use Rattle.register_core.specs.Register.{Register, Key, with_run}
use Rattle.register_core.specs.Machine as machine
use Rattle.register_core.specs.Causes.{HasReason}
use Rattle.register_core.specs.Answers.{Answers, Ends, FailsOnly, IsShown, IsStored}
use Rattle.register_core.specs.declared.register.NameCount.{NameCount}
use Rattle.register_core.specs.declared.register.RunState.{RunState}
use Rattle.register_core.specs.declared.register.RunState.TheVariants.{Kept, Fresh}
use Rattle.register_core.specs.declared.register_fault.RegisterFault.{RegisterFault}
use Rattle.register_core.specs.declared.register_fault.RegisterFault.TheVariants as denial
use Rattle.rate_tool.specs.Lines.{counts_text, stored_text}
use Rattle.rate_tool.specs.Reply.{limit, refusal_of, denial_of, IsPrinting, IsAcceptance, IsSummary, IsReplyTo, IsReplyToSource, store_bytes, store_file, stored, keeping, shown, IsRunReply, IsReply}
use Rattle.rate_tool.specs.Run.{Call, Counts, GaveFile, IsCaused, Replies, IsFile, ReachesKeeper}
use Rattle.rate_tool.specs.Words.{reads_source, asks_keeper}
use Rattle.rate_tool.specs.Steps.{WasRead, WasTooLong, ReadEnds, AnswerEnds, stopped, RepliesToSource, SourceEnds, MadeEnds, IsQuiet, KeeperReplies, KeeperEnds, IsFresh, FreshEnds, ReplyEnds}
use Rattle.rate_tool.specs.declared.reading.Stop.{Stop}
use Rattle.rate_tool.specs.declared.reading.Stop.TheVariants as stop
use Rattle.rate_tool.specs.declared.words.Command.{Command}
use Rattle.rate_tool.specs.declared.words.Command.TheVariants.{Derive, Check, Store, Show, Listing, Run, Demo}
use Rattle.rate_tool.specs.declared.status.Status.{Status}
use Rattle.rate_tool.specs.declared.status.Status.TheVariants as status

-- what a file may be answered
abbrev FileAnswers : Type 1
FileAnswers = List ℕ → Result (List ℕ) DeriveFault → Type 0

-- the text of the names and their counts
abbrev listed : Result (List NameCount) RegisterFault → Result (List ℕ) Status
listed (Ok counts) = Ok (counts_text counts)
listed (Err bad) = Err (denial_of bad)

-- ---- commands that only read the source

gave_all : (left left' : Option (List ℕ)) (file : List ℕ) → WasRead left left' file → GaveFile left left' file
gave_all left left' file read = record { gave = read.gave; whole = inl read.ended }

gave_more : (left left' : Option (List ℕ)) (long : WasTooLong left left') → GaveFile left left' long.bytes
gave_more left left' long = record { gave = long.gave; whole = inr long.long }

pub replies_to : (Answers : FileAnswers) (left left' : Option (List ℕ)) (file : List ℕ) (answer : Result (List ℕ) Status)
    → WasRead left left' file → IsReplyTo Answers file answer → RepliesToSource Answers left left' answer
replies_to Answers left left' file answer read is = record { bytes = file; read = gave_all left left' file read; answers = inr (read.short, is) }

-- reading stopped
pub stopped_source : (Answers : FileAnswers) (left left' : Option (List ℕ)) (reads reads' : ℕ) (why : Stop) → ReadEnds left left' reads reads' (Err why)
    → SourceEnds Answers left left' reads reads' (Err (stopped why))
stopped_source Answers left left' reads reads' stop.NoMemory ends = ends
stopped_source Answers left left' reads reads' stop.ReadFault ends = ends
stopped_source Answers left left' reads reads' stop.TooLong ends =
    (record { bytes = ends.0.bytes; read = gave_more left left' ends.0; answers = inl (ends.0.long, refl) }, ends.1)

-- the file was refused
pub refused_source : (Answers : FileAnswers) (left left' : Option (List ℕ)) (reads reads' : ℕ) (file : List ℕ) (bad : DeriveFault) → WasRead left left' file → reads' ≡ reads
    → AnswerEnds Answers file (Err bad) → SourceEnds Answers left left' reads reads' (Err (refusal_of bad))
refused_source Answers left left' reads reads' file (fault.Read bad) read quiet ends = (replies_to Answers left left' file (Err (status.Malformed bad)) read ends, quiet)
refused_source Answers left left' reads reads' file (fault.Term bad) read quiet ends = (replies_to Answers left left' file (Err (status.BadTerm bad)) read ends, quiet)
refused_source Answers left left' reads reads' file (fault.Anomalous bad) read quiet ends = (replies_to Answers left left' file (Err (status.Anomalous bad)) read ends, quiet)
refused_source Answers left left' reads reads' file (fault.Overflow pair) read quiet ends = (replies_to Answers left left' file (Err (status.Overflow pair)) read ends, quiet)
refused_source Answers left left' reads reads' file fault.NoMemory read quiet ends = quiet

-- the same at the exit of a `?`
pub refused_source_exit : (Answers : FileAnswers) (left left' : Option (List ℕ)) (reads reads' : ℕ) (file bytes : List ℕ) (bad : DeriveFault) (r : Result (List ℕ) Status)
    → WasRead left left' file × (reads' ≡ reads) → bytes ≡ file → AnswerEnds Answers bytes (Err bad) → IsErrAnd r (λ s. s ≡ refusal_of bad) → SourceEnds Answers left left' reads reads' r
refused_source_exit Answers left left' reads reads' file bytes bad (Ok text) read same ends is = absurd is
refused_source_exit Answers left left' reads reads' file bytes bad (Err s) read same ends is =
    subst (λ x. SourceEnds Answers left left' reads reads' (Err x)) (sym is)
    (refused_source Answers left left' reads reads' file bad read.0 read.1 (subst (λ b. AnswerEnds Answers b (Err bad)) same ends))

-- ---- the command that makes its file

pub refused_made : (Answers : FileAnswers) (file : List ℕ) (bad : DeriveFault) → AnswerEnds Answers file (Err bad) → MadeEnds Answers file (Err (refusal_of bad))
refused_made Answers file (fault.Read bad) ends = ends
refused_made Answers file (fault.Term bad) ends = ends
refused_made Answers file (fault.Anomalous bad) ends = ends
refused_made Answers file (fault.Overflow pair) ends = ends
refused_made Answers file fault.NoMemory ends = tt

-- ---- store

-- whether a source's bytes are too many
short_store : (register : Register) (name file : List ℕ) → length file ≤ limit → store_bytes register name file ≡ store_file register name file (reading file)
short_store register name file short = let fits : nat_lt limit (length file) ≡ false = grind (arith, nat_tests, short) in rw fits refl

pub long_store : (register : Register) (name bytes : List ℕ) → limit < length bytes → store_bytes register name bytes ≡ (Err status.TooLong, register)
long_store register name bytes long = let is : nat_lt limit (length bytes) ≡ true = grind (arith, nat_tests, long) in rw is refl

-- what is told of a store over one source and one keeper
module _ (told : Type 0) (name : List ℕ) (call : Call) (counts : Counts) where
  pub stopped_store : (why : Stop) → ReadEnds call.left call.left' counts.reads counts.reads' (Err why) → call.register' ≡ call.register → counts.keeps' ≡ counts.keeps
      → ReplyEnds told (Store name) call counts (Err (stopped why))
  stopped_store stop.NoMemory ends same keeps = record { reads = ends; keeps = keeps }
  stopped_store stop.ReadFault ends same keeps = record { asked = refl; rose = ends; keeps = keeps }
  stopped_store stop.TooLong ends same keeps = (
    record {
      bytes = ends.0.bytes;
      read = λ _. gave_more call.left call.left' ends.0;
      answers = λ _. ap (λ r. (Err status.TooLong, r)) same ∙ sym (long_store call.register name ends.0.bytes ends.0.long);
      caused = ends.0.long;
    },
    record { reads = ends.1; keeps = keeps },
  )

  pub unread_store : (file : List ℕ) (bad : ReadFault) → WasRead call.left call.left' file → counts.reads' ≡ counts.reads → call.register' ≡ call.register → counts.keeps' ≡ counts.keeps
      → reading file ≡ Err bad → ReplyEnds told (Store name) call counts (Err (status.Malformed bad))
  unread_store file bad read reads same keeps is = (
    record {
      bytes = file;
      read = λ _. gave_all call.left call.left' file read;
      answers = λ _. ap (λ r. (Err (status.Malformed bad), r)) same ∙ sym (short_store call.register name file read.short ∙ ap (store_file call.register name file) is);
      caused = (read.short, is);
    },
    record { reads = reads; keeps = keeps },
  )

  -- what the register's call left stands for what the command leaves
  store_answers : (file : List ℕ) (model : Model) (r : Result ℕ RegisterFault) → length file ≤ limit → reading file ≡ Ok model
      → (r, call.register') ≡ machine.store call.register name file → stored name (r, call.register') ≡ store_bytes call.register name file
  store_answers file model r short is due = sym (short_store call.register name file short ∙ ap (store_file call.register name file) is ∙ ap (stored name) (sym due))

  file_of : (file : List ℕ) (model : Model) → WasRead call.left call.left' file → reading file ≡ Ok model → IsFile file
  file_of file model read is = record { short = read.short; model = model; reads = is }

  pub refused_store : (file : List ℕ) (model : Model) (bad : RegisterFault) → WasRead call.left call.left' file → counts.reads' ≡ counts.reads → reading file ≡ Ok model
      → (told → Ends call.register (machine.store call.register name file) call.register' (Err bad)) → IsStored (Err bad) → HasReason {T = ℕ} counts.keeps counts.keeps' (Err bad)
      → ReplyEnds told (Store name) call counts (Err (denial_of bad))
  refused_store file model denial.NoSuchName read reads is ends numbers reason = absurd numbers
  refused_store file model (denial.NoSuchVersion count) read reads is ends numbers reason = absurd numbers
  refused_store file model (denial.Full count) read reads is ends numbers reason = (
    record {
      bytes = file;
      read = λ _. gave_all call.left call.left' file read;
      answers = λ knows. store_answers file model (Err (denial.Full count)) read.short is (ends (knows refl));
      caused = file_of file model read is;
    },
    record { reads = reads; keeps = reason },
  )
  refused_store file model denial.Keeper read reads is ends numbers reason = record {
    reached = record { bytes = file; read = λ _. gave_all call.left call.left' file read; reaches = file_of file model read is };
    reads = reads;
    rose = reason.1;
  }
  refused_store file model denial.NoMemory read reads is ends numbers reason = record { reads = reads; keeps = reason }

  pub did_store : (file : List ℕ) (model : Model) (number : ℕ) → WasRead call.left call.left' file → counts.reads' ≡ counts.reads → reading file ≡ Ok model
      → (told → Ends call.register (machine.store call.register name file) call.register' (Ok number)) → IsStored (Ok number) → counts.keeps' ≡ counts.keeps
      → Replies told (Store name) call (stored name (Ok number, call.register')).0 × IsQuiet counts
  did_store file model number read reads is ends numbers keeps = (
    record {
      bytes = file;
      read = λ _. gave_all call.left call.left' file read;
      answers = λ knows. store_answers file model (Ok number) read.short is (ends (knows refl));
      caused = record { file = file_of file model read is; number = number; least = numbers.0; most = numbers.1; is = refl };
    },
    record { reads = reads; keeps = keeps },
  )

  -- the same at the exit of a `?`
  pub refused_store_exit : {W : Type 0} (file bytes again : List ℕ) (model : Model) (bad : RegisterFault) (r : Result (List ℕ) Status)
      → WasRead call.left call.left' file × (counts.reads' ≡ counts.reads) → bytes ≡ file → again ≡ file → reading bytes ≡ Ok model
      → (told → W × Ends call.register (machine.store call.register name again) call.register' (Err bad)) → IsStored (Err bad) → HasReason {T = ℕ} counts.keeps counts.keeps' (Err bad)
      → IsErrAnd r (λ s. s ≡ denial_of bad) → ReplyEnds told (Store name) call counts r
  refused_store_exit file bytes again model bad (Ok text) read same same' is ends numbers reason exit = absurd exit
  refused_store_exit file bytes again model bad (Err s) read same same' is ends numbers reason exit =
      subst (λ x. ReplyEnds told (Store name) call counts (Err x)) (sym exit)
      (refused_store file model bad read.0 read.1 (subst (λ b. reading b ≡ Ok model) same is)
      (λ t. subst (λ b. Ends call.register (machine.store call.register name b) call.register' (Err bad)) same' (ends t).1) numbers reason)

  -- the same with the line that is told
  pub did_store_line : {W : Type 0} (file bytes again : List ℕ) (model : Model) (number : ℕ) (line : List ℕ)
      → WasRead call.left call.left' file × (counts.reads' ≡ counts.reads) → bytes ≡ file → again ≡ file → reading bytes ≡ Ok model
      → (told → W × Ends call.register (machine.store call.register name again) call.register' (Ok number)) → IsStored (Ok number) → counts.keeps' ≡ counts.keeps
      → line ≡ stored_text name number → Replies told (Store name) call (Ok line) × IsQuiet counts
  did_store_line file bytes again model number line read same same' is ends numbers keeps told_line =
      subst (λ l. Replies told (Store name) call (Ok l) × IsQuiet counts) (sym told_line)
      (did_store file model number read.0 read.1 (subst (λ b. reading b ≡ Ok model) same is)
      (λ t. subst (λ b. Ends call.register (machine.store call.register name b) call.register' (Ok number)) same' (ends t).1) numbers keeps)

-- ---- commands that ask only the keeper

module _ (told : Type 0) (register register' : Register) (keeps keeps' : ℕ) where
  -- what was found for a key afterwards was there before
  found_before : (key : Key) (found : Result RunState RegisterFault) → found ≡ machine.run register' key → register' ≡ register → found ≡ machine.run register key
  found_before key found due same = due ∙ ap (λ r. machine.run r key) same

  run_replies : (key : Key) (found : Result RunState RegisterFault) (answer : Result (List ℕ) Status) → found ≡ machine.run register key
      → IsRunReply register key found answer register' → IsRunReply register key (machine.run register key) answer register'
  run_replies key found answer is replies = subst (λ f. IsRunReply register key f answer register') is replies

  pub refused_show : (name : List ℕ) (version : ℕ) (bad : RegisterFault) → (told → Answers (machine.show register' name version) (Err bad)) → (told → register' ≡ register)
      → IsShown {T = List ℕ} version (Err bad) → HasReason {T = List ℕ} keeps keeps' (Err bad)
      → KeeperEnds told (Show name version) register register' keeps keeps' (Err (denial_of bad))
  refused_show name version denial.NoSuchName due same numbers reason =
      (record { answers = λ t. (ap shown (due t) ∙ ap (λ r. shown (machine.show r name version)) (same t), same t); caused = tt }, reason)
  refused_show name version (denial.NoSuchVersion count) due same numbers reason =
      (record { answers = λ t. (ap shown (due t) ∙ ap (λ r. shown (machine.show r name version)) (same t), same t); caused = tt }, reason)
  refused_show name version (denial.Full count) due same numbers reason = absurd numbers
  refused_show name version denial.Keeper due same numbers reason = reason.1
  refused_show name version denial.NoMemory due same numbers reason = reason

  pub did_show : (name : List ℕ) (version : ℕ) (bytes : List ℕ) → (told → Answers (machine.show register' name version) (Ok bytes)) → (told → register' ≡ register) → keeps' ≡ keeps
      → KeeperEnds told (Show name version) register register' keeps keeps' (Ok bytes)
  did_show name version bytes due same quiet =
      (record { answers = λ t. (ap shown (due t) ∙ ap (λ r. shown (machine.show r name version)) (same t), same t); caused = tt }, quiet)

  pub refused_list : (bad : RegisterFault) → FailsOnly {T = List NameCount} (Err bad) → HasReason {T = List NameCount} keeps keeps' (Err bad)
      → KeeperEnds told Listing register register' keeps keeps' (Err (denial_of bad))
  refused_list denial.NoSuchName only reason = absurd only
  refused_list (denial.NoSuchVersion count) only reason = absurd only
  refused_list (denial.Full count) only reason = absurd only
  refused_list denial.Keeper only reason = reason.1
  refused_list denial.NoMemory only reason = reason

  pub did_list : (counted : List NameCount) → (told → Answers (Ok (machine.list register')) (Ok counted)) → (told → register' ≡ register) → keeps' ≡ keeps
      → KeeperEnds told Listing register register' keeps keeps' (Ok (counts_text counted))
  did_list counted due same quiet =
      (record { answers = λ t. (ap listed (due t) ∙ ap (λ r. Ok (counts_text (machine.list r))) (same t), same t); caused = record { counts = counted; is = refl } }, quiet)

  -- a run whose key was looked up, and that is refused there
  pub refused_run : (key : Key) (workers : ℕ) (bad : RegisterFault) → (told → Answers (machine.run register' key) (Err bad)) → (told → register' ≡ register)
      → IsShown {T = RunState} key.version (Err bad) → HasReason {T = RunState} keeps keeps' (Err bad)
      → KeeperEnds told (Run key workers) register register' keeps keeps' (Err (denial_of bad))
  refused_run key workers denial.NoSuchName due same numbers reason =
      (record { answers = λ t. run_replies key (Err denial.NoSuchName) (Err status.NoSuch) (found_before key (Err denial.NoSuchName) (due t) (same t)) (refl, same t); caused = tt }, reason)
  refused_run key workers (denial.NoSuchVersion count) due same numbers reason =
      (record { answers = λ t. run_replies key (Err (denial.NoSuchVersion count)) (Err status.NoSuch) (found_before key (Err (denial.NoSuchVersion count)) (due t) (same t)) (refl, same t); caused = tt }, reason)
  refused_run key workers (denial.Full count) due same numbers reason = absurd numbers
  refused_run key workers denial.Keeper due same numbers reason = reason.1
  refused_run key workers denial.NoMemory due same numbers reason = reason

  pub kept_run : (key : Key) (workers : ℕ) (output : List ℕ) → (told → Answers (machine.run register' key) (Ok (Kept output))) → (told → register' ≡ register) → keeps' ≡ keeps
      → KeeperEnds told (Run key workers) register register' keeps keeps' (Ok output)
  kept_run key workers output due same quiet =
      (record { answers = λ t. run_replies key (Ok (Kept output)) (Ok output) (found_before key (Ok (Kept output)) (due t) (same t)) (refl, same t); caused = tt }, quiet)

  -- the version's own file
  fresh_answers : (key : Key) (file : List ℕ) (mid : Register) (answer : Result (List ℕ) Status) → (told → Ok (Fresh file) ≡ machine.run mid key) → (told → mid ≡ register)
      → IsFresh told key file mid register' answer → told → IsRunReply register key (machine.run register key) answer register'
  fresh_answers key file mid answer due same fresh t =
      run_replies key (Ok (Fresh file)) answer (due t ∙ ap (λ r. machine.run r key) (same t)) (fresh.answers, fresh.kept t ∙ ap (λ r. keeping r key answer) (same t))

  pub fresh_run : (key : Key) (workers : ℕ) (file : List ℕ) (mid : Register) (answer : Result (List ℕ) Status) → (told → Ok (Fresh file) ≡ machine.run mid key)
      → (told → mid ≡ register) → FreshEnds told key file mid register' keeps keeps' answer
      → KeeperEnds told (Run key workers) register register' keeps keeps' answer
  fresh_run key workers file mid (Ok text) due same ends = (record { answers = fresh_answers key file mid (Ok text) due same ends.0; caused = tt }, ends.1)
  fresh_run key workers file mid (Err status.Done) due same ends = absurd ends.0.answers
  fresh_run key workers file mid (Err status.NoMemory) due same ends = ends
  fresh_run key workers file mid (Err status.Usage) due same ends = absurd ends.0.answers
  fresh_run key workers file mid (Err status.ReadFault) due same ends = absurd ends.0.answers
  fresh_run key workers file mid (Err status.TooLong) due same ends = absurd ends.0.answers
  fresh_run key workers file mid (Err (status.Malformed bad)) due same ends =
      (record { answers = fresh_answers key file mid (Err (status.Malformed bad)) due same ends.0; caused = record { file = file; refused = ends.0.answers } }, ends.1)
  fresh_run key workers file mid (Err (status.BadTerm bad)) due same ends =
      (record { answers = fresh_answers key file mid (Err (status.BadTerm bad)) due same ends.0; caused = record { file = file; refused = ends.0.answers } }, ends.1)
  fresh_run key workers file mid (Err (status.Anomalous bad)) due same ends =
      (record { answers = fresh_answers key file mid (Err (status.Anomalous bad)) due same ends.0; caused = record { file = file; refused = ends.0.answers } }, ends.1)
  fresh_run key workers file mid (Err (status.Overflow pair)) due same ends =
      (record { answers = fresh_answers key file mid (Err (status.Overflow pair)) due same ends.0; caused = record { file = file; refused = ends.0.answers } }, ends.1)
  fresh_run key workers file mid (Err status.NoSuch) due same ends = absurd ends.0.answers
  fresh_run key workers file mid (Err status.Full) due same ends = absurd ends.0.answers
  fresh_run key workers file mid (Err status.KeeperFault) due same ends = ends
  fresh_run key workers file mid (Err status.WriteFault) due same ends = absurd ends.0.answers

  -- ---- the output of a version's file

  fresh : (key : Key) (file : List ℕ) (answer : Result (List ℕ) Status) → IsReplyTo (IsPrinting key.loops key.format) file answer → (told → register' ≡ keeping register key answer)
      → IsFresh told key file register register' answer
  fresh key file answer answers kept = record { answers = answers; kept = kept }

  pub refused_fresh : (key : Key) (file : List ℕ) (bad : DeriveFault) → AnswerEnds (IsPrinting key.loops key.format) file (Err bad) → register' ≡ register → keeps' ≡ keeps
      → FreshEnds told key file register register' keeps keeps' (Err (refusal_of bad))
  refused_fresh key file (fault.Read bad) ends same quiet = (fresh key file (Err (status.Malformed bad)) ends (λ _. same), quiet)
  refused_fresh key file (fault.Term bad) ends same quiet = (fresh key file (Err (status.BadTerm bad)) ends (λ _. same), quiet)
  refused_fresh key file (fault.Anomalous bad) ends same quiet = (fresh key file (Err (status.Anomalous bad)) ends (λ _. same), quiet)
  refused_fresh key file (fault.Overflow pair) ends same quiet = (fresh key file (Err (status.Overflow pair)) ends (λ _. same), quiet)
  refused_fresh key file fault.NoMemory ends same quiet = quiet

  pub unkept_fresh : (key : Key) (file : List ℕ) (bad : RegisterFault) → FailsOnly {T = Unit {0}} (Err bad) → HasReason {T = Unit {0}} keeps keeps' (Err bad)
      → FreshEnds told key file register register' keeps keeps' (Err (denial_of bad))
  unkept_fresh key file denial.NoSuchName only reason = absurd only
  unkept_fresh key file (denial.NoSuchVersion count) only reason = absurd only
  unkept_fresh key file (denial.Full count) only reason = absurd only
  unkept_fresh key file denial.Keeper only reason = reason.1
  unkept_fresh key file denial.NoMemory only reason = reason

  pub did_fresh : (key : Key) (file text : List ℕ) → IsPrinting key.loops key.format file (Ok text) → (told → register' ≡ with_run register key text) → keeps' ≡ keeps
      → FreshEnds told key file register register' keeps keeps' (Ok text)
  did_fresh key file text ends kept quiet = (fresh key file (Ok text) ends kept, quiet)

-- ---- any command

-- a command that asks the keeper and not the source reaches it at once
reaches_at_once : (command : Command) → reads_source command ≡ false → asks_keeper command ≡ true → ReachesKeeper command []
reaches_at_once (Derive loops format workers) unread asked = absurd (false≢true asked)
reaches_at_once Check unread asked = absurd (false≢true asked)
reaches_at_once (Store name) unread asked = absurd (false≢true (sym unread))
reaches_at_once (Show name version) unread asked = tt
reaches_at_once Listing unread asked = tt
reaches_at_once (Run key workers) unread asked = tt
reaches_at_once (Demo seed) unread asked = absurd (false≢true asked)

module _ (told : Type 0) (command : Command) (call : Call) (counts : Counts) where
  -- one that only reads the source
  module _ (Answers : FileAnswers)
      (make : (bytes : List ℕ) (answer : Result (List ℕ) Status) → IsReplyToSource Answers bytes answer → IsReply command call.register bytes answer call.register')
      (caused : (bytes : List ℕ) (answer : Result (List ℕ) Status) → IsCaused command bytes answer)
      (asked : reads_source command ≡ true) (keeps : counts.keeps' ≡ counts.keeps) where
    from_replies : (answer : Result (List ℕ) Status) → RepliesToSource Answers call.left call.left' answer × (counts.reads' ≡ counts.reads) → Replies told command call answer × IsQuiet counts
    from_replies answer ends = (
      record { bytes = ends.0.bytes; read = λ _. ends.0.read; answers = λ _. make ends.0.bytes answer ends.0.answers; caused = caused ends.0.bytes answer },
      record { reads = ends.1; keeps = keeps },
    )

    pub from_source : (answer : Result (List ℕ) Status) → SourceEnds Answers call.left call.left' counts.reads counts.reads' answer → ReplyEnds told command call counts answer
    from_source (Ok text) ends = from_replies (Ok text) ends
    from_source (Err status.Done) ends = elim ends.0.answers [
      | inl long ↦ let never : ⊥ = cc in absurd never
      | inr short ↦ short.1
    ]
    from_source (Err status.NoMemory) ends = record { reads = ends; keeps = keeps }
    from_source (Err status.Usage) ends = elim ends.0.answers [
      | inl long ↦ let never : ⊥ = cc in absurd never
      | inr short ↦ short.1
    ]
    from_source (Err status.ReadFault) ends = record { asked = asked; rose = ends; keeps = keeps }
    from_source (Err status.TooLong) ends = from_replies (Err status.TooLong) ends
    from_source (Err (status.Malformed bad)) ends = from_replies (Err (status.Malformed bad)) ends
    from_source (Err (status.BadTerm bad)) ends = from_replies (Err (status.BadTerm bad)) ends
    from_source (Err (status.Anomalous bad)) ends = from_replies (Err (status.Anomalous bad)) ends
    from_source (Err (status.Overflow pair)) ends = from_replies (Err (status.Overflow pair)) ends
    from_source (Err status.NoSuch) ends = from_replies (Err status.NoSuch) ends
    from_source (Err status.Full) ends = from_replies (Err status.Full) ends
    from_source (Err status.KeeperFault) ends = elim ends.0.answers [
      | inl long ↦ let never : ⊥ = cc in absurd never
      | inr short ↦ absurd short.1
    ]
    from_source (Err status.WriteFault) ends = elim ends.0.answers [
      | inl long ↦ let never : ⊥ = cc in absurd never
      | inr short ↦ short.1
    ]

  -- one that makes its file
  module _ (Answers : FileAnswers) (file : List ℕ)
      (make : (answer : Result (List ℕ) Status) → IsReplyTo Answers file answer → IsReply command call.register [] answer call.register')
      (unread : reads_source command ≡ false) (caused : (answer : Result (List ℕ) Status) → IsCaused command [] answer) (quiet : IsQuiet counts) where
    from_answer : (answer : Result (List ℕ) Status) → IsReplyTo Answers file answer → Replies told command call answer × IsQuiet counts
    from_answer answer ends = (record { bytes = []; read = λ e. absurd (false≢true (sym unread ∙ e)); answers = λ _. make answer ends; caused = caused answer }, quiet)

    pub from_made : (answer : Result (List ℕ) Status) → MadeEnds Answers file answer → ReplyEnds told command call counts answer
    from_made (Ok text) ends = from_answer (Ok text) ends
    from_made (Err status.Done) ends = ends
    from_made (Err status.NoMemory) ends = quiet
    from_made (Err status.Usage) ends = ends
    from_made (Err status.ReadFault) ends = absurd ends
    from_made (Err status.TooLong) ends = absurd ends
    from_made (Err (status.Malformed bad)) ends = from_answer (Err (status.Malformed bad)) ends
    from_made (Err (status.BadTerm bad)) ends = from_answer (Err (status.BadTerm bad)) ends
    from_made (Err (status.Anomalous bad)) ends = from_answer (Err (status.Anomalous bad)) ends
    from_made (Err (status.Overflow pair)) ends = from_answer (Err (status.Overflow pair)) ends
    from_made (Err status.NoSuch) ends = absurd ends
    from_made (Err status.Full) ends = absurd ends
    from_made (Err status.KeeperFault) ends = absurd ends
    from_made (Err status.WriteFault) ends = ends

  -- one that asks only the keeper
  module _ (unread : reads_source command ≡ false) (asked : asks_keeper command ≡ true) (reads : counts.reads' ≡ counts.reads) where
    of_keeper : (answer : Result (List ℕ) Status) → KeeperReplies told command call.register call.register' answer × (counts.keeps' ≡ counts.keeps)
        → Replies told command call answer × IsQuiet counts
    of_keeper answer ends = (
      record { bytes = []; read = λ e. absurd (false≢true (sym unread ∙ e)); answers = λ knows. ends.0.answers (knows asked); caused = ends.0.caused },
      record { reads = reads; keeps = ends.1 },
    )

    pub from_keeper : (answer : Result (List ℕ) Status) → KeeperEnds told command call.register call.register' counts.keeps counts.keeps' answer
        → ReplyEnds told command call counts answer
    from_keeper (Ok text) ends = of_keeper (Ok text) ends
    from_keeper (Err status.Done) ends = ends
    from_keeper (Err status.NoMemory) ends = record { reads = reads; keeps = ends }
    from_keeper (Err status.Usage) ends = ends
    from_keeper (Err status.ReadFault) ends = absurd ends
    from_keeper (Err status.TooLong) ends = of_keeper (Err status.TooLong) ends
    from_keeper (Err (status.Malformed bad)) ends = of_keeper (Err (status.Malformed bad)) ends
    from_keeper (Err (status.BadTerm bad)) ends = of_keeper (Err (status.BadTerm bad)) ends
    from_keeper (Err (status.Anomalous bad)) ends = of_keeper (Err (status.Anomalous bad)) ends
    from_keeper (Err (status.Overflow pair)) ends = of_keeper (Err (status.Overflow pair)) ends
    from_keeper (Err status.NoSuch) ends = of_keeper (Err status.NoSuch) ends
    from_keeper (Err status.Full) ends = of_keeper (Err status.Full) ends
    from_keeper (Err status.KeeperFault) ends = record {
      reached = record { bytes = []; read = λ e. absurd (false≢true (sym unread ∙ e)); reaches = reaches_at_once command unread asked };
      reads = reads;
      rose = ends;
    }
    from_keeper (Err status.WriteFault) ends = ends

-- each command's reply

pub derive_ends : (told : Type 0) (loops : ℕ) (format : Format) (workers : ℕ) (call : Call) (counts : Counts) (answer given : Result (List ℕ) Status)
    → SourceEnds (IsPrinting loops format) call.left call.left' counts.reads counts.reads' answer → call.register' ≡ call.register → counts.keeps' ≡ counts.keeps → given ≡ answer
    → ReplyEnds told (Derive loops format workers) call counts given
derive_ends told loops format workers call counts answer given ends same keeps is =
    subst (λ a. ReplyEnds told (Derive loops format workers) call counts a) (sym is)
    (from_source told (Derive loops format workers) call counts (IsPrinting loops format) (λ _ _ replies. (replies, same)) (λ _ _. tt) refl keeps answer ends)

pub check_ends : (told : Type 0) (call : Call) (counts : Counts) (answer given : Result (List ℕ) Status)
    → SourceEnds IsAcceptance call.left call.left' counts.reads counts.reads' answer → call.register' ≡ call.register → counts.keeps' ≡ counts.keeps → given ≡ answer
    → ReplyEnds told Check call counts given
check_ends told call counts answer given ends same keeps is =
    subst (λ a. ReplyEnds told Check call counts a) (sym is)
    (from_source told Check call counts IsAcceptance (λ _ _ replies. (replies, same)) (λ _ _. tt) refl keeps answer ends)

-- the same for the command as it is matched
pub derive_exit : (told : Type 0) (command : Command) (loops : ℕ) (format : Format) (workers : ℕ) (call : Call) (counts : Counts) (answer given : Result (List ℕ) Status)
    → command ≡ Derive loops format workers → SourceEnds (IsPrinting loops format) call.left call.left' counts.reads counts.reads' answer → call.register' ≡ call.register
    → counts.keeps' ≡ counts.keeps → given ≡ answer → ReplyEnds told command call counts given
derive_exit told command loops format workers call counts answer given matched ends same keeps is =
    subst (λ x. ReplyEnds told x call counts given) (sym matched) (derive_ends told loops format workers call counts answer given ends same keeps is)

pub check_exit : (told : Type 0) (command : Command) (call : Call) (counts : Counts) (answer given : Result (List ℕ) Status)
    → command ≡ Check → SourceEnds IsAcceptance call.left call.left' counts.reads counts.reads' answer → call.register' ≡ call.register
    → counts.keeps' ≡ counts.keeps → given ≡ answer → ReplyEnds told command call counts given
check_exit told command call counts answer given matched ends same keeps is =
    subst (λ x. ReplyEnds told x call counts given) (sym matched) (check_ends told call counts answer given ends same keeps is)

pub demo_ends : (told : Type 0) (seed : ℕ) (call : Call) (counts : Counts) (answer given : Result (List ℕ) Status) → MadeEnds (IsSummary seed) (demo_text seed) answer
    → call.register' ≡ call.register → IsQuiet counts → given ≡ answer → ReplyEnds told (Demo seed) call counts given
demo_ends told seed call counts answer given ends same quiet is =
    subst (λ a. ReplyEnds told (Demo seed) call counts a) (sym is)
    (from_made told (Demo seed) call counts (IsSummary seed) (demo_text seed) (λ _ replies. (replies, same)) refl (λ _. tt) quiet answer ends)

pub keeper_ends : (told : Type 0) (command : Command) (call : Call) (counts : Counts) (answer given : Result (List ℕ) Status)
    → KeeperEnds told command call.register call.register' counts.keeps counts.keeps' answer → reads_source command ≡ false → asks_keeper command ≡ true
    → counts.reads' ≡ counts.reads → given ≡ answer → ReplyEnds told command call counts given
keeper_ends told command call counts answer given ends unread asked reads is =
    subst (λ a. ReplyEnds told command call counts a) (sym is) (from_keeper told command call counts unread asked reads answer ends)
