-- The status of a run: the one that is due, and what else it may be.
use Rattle.std.proofs.Common.{◌≡◌, ℕ, ◌<◌, ◌≤◌, true, false, List, [], ◌++◌, length, length-append, Option, Some, None, Result, Ok, Err, refl, sym, subst, ap, ◌∙◌, arith, inl, inr, cond}
use Rattle.std.specs.Prelude.{◌⊎◌}
use Rattle.std.specs.Option.{IfSome}
use Rattle.std.proofs.lemmas.List.{append-nil}
use Rattle.std.proofs.lemmas.Bool.{cases_Bool, false≢true}
use Rattle.derive_core.specs.declared.fault.DeriveFault.{DeriveFault}
use Rattle.register_core.specs.Causes.{Stays}
use Rattle.register_core.specs.Register.{Register}
use Rattle.rate_tool.specs.Stream.{Rose, IsEmptied}
use Rattle.rate_tool.specs.Words.{command_of, reads_source, asks_keeper}
use Rattle.rate_tool.specs.Reply.{limit, IsPrinting, IsAcceptance, IsReplyToSource, store_bytes, IsReply}
use Rattle.rate_tool.specs.Run.{Call, Counts, Output, GaveFile, Replies, HasReply, IsFile, ReachesKeeper, ReachedBy, ReachKeeper, Reached, IsSilent, IsStatusFor, IsDue, IsDueOrFault, IsAnswer, Wrote, IsCausedBy, WroteAnswer, WroteFront, RunEnds, AreNoticed, status_of, read_by, read_source, asked_by, ask_keeper, needed}
use Rattle.rate_tool.specs.Steps.{IsQuiet, WritesWhole, WritesFront, CommandEnds}
use Rattle.rate_tool.proofs.ReplyLaws.{long_store}
use Rattle.rate_tool.specs.declared.words.Command.{Command}
use Rattle.rate_tool.specs.declared.words.Command.TheVariants.{Derive, Check, Store, Show, Listing, Run, Demo}
use Rattle.rate_tool.specs.declared.status.Status.{Status}
use Rattle.rate_tool.specs.declared.status.Status.TheVariants as status

pub if_some : {A : Type 0} (P : A → Type 0) (found : Option A) → ((x : A) → found ≡ Some x → P x) → IfSome found P
if_some P None each = tt
if_some P (Some x) each = each x refl

-- ---- what was read of bytes that are told

-- the bytes that were given are all that the source had, or both are too many
prefix : (left' : Option (List ℕ)) (bytes given : List ℕ) → GaveFile (Some bytes) left' given → (given ≡ bytes) ⊎ ((limit < length given) × (limit < length bytes))
prefix None bytes given read = absurd read.gave
prefix (Some rest) bytes given read = elim read.whole [
  | inl ended ↦ inl (sym (read.gave ∙ ap (λ t. given ++ t) ended ∙ append-nil given))
  | inr long ↦ inr (long, omega (arith, ap length read.gave, length-append given rest, long))
]

source_whole : (Answers : List ℕ → Result (List ℕ) DeriveFault → Type 0) (bytes given : List ℕ) (reply : Result (List ℕ) Status)
    → (given ≡ bytes) ⊎ ((limit < length given) × (limit < length bytes)) → IsReplyToSource Answers given reply → IsReplyToSource Answers bytes reply
source_whole Answers bytes given reply (inl same) is = subst (λ b. IsReplyToSource Answers b reply) same is
source_whole Answers bytes given reply (inr long) (inl is) = inl (long.1, is.1)
source_whole Answers bytes given reply (inr long) (inr is) = absurd (omega (arith, long.0, is.0))

store_whole : (register : Register) (name bytes given : List ℕ) → (given ≡ bytes) ⊎ ((limit < length given) × (limit < length bytes))
    → store_bytes register name given ≡ store_bytes register name bytes
store_whole register name bytes given (inl same) = ap (store_bytes register name) same
store_whole register name bytes given (inr long) = long_store register name given long.0 ∙ sym (long_store register name bytes long.1)

module _ (told : Type 0) (call : Call) (bytes : List ℕ) where
  given_whole : (given : List ℕ) → call.left ≡ Some bytes → GaveFile call.left call.left' given → (given ≡ bytes) ⊎ ((limit < length given) × (limit < length bytes))
  given_whole given is read = prefix call.left' bytes given (subst (λ l. GaveFile l call.left' given) is read)

  -- what was replied to the bytes that were given is the reply to all that the source had
  pub to_whole : (command : Command) (reply : Result (List ℕ) Status) → (reads_source command ≡ true → call.left ≡ Some bytes) → (asks_keeper command ≡ true → told)
      → Replies told command call reply → IsReply command call.register bytes reply call.register'
  to_whole (Derive loops format workers) reply source knows how =
      let is = how.answers knows in (source_whole (IsPrinting loops format) bytes how.bytes reply (given_whole how.bytes (source refl) (how.read refl)) is.0, is.1)
  to_whole Check reply source knows how =
      let is = how.answers knows in (source_whole IsAcceptance bytes how.bytes reply (given_whole how.bytes (source refl) (how.read refl)) is.0, is.1)
  to_whole (Store name) reply source knows how =
      how.answers knows ∙ store_whole call.register name bytes how.bytes (given_whole how.bytes (source refl) (how.read refl))
  to_whole (Show name version) reply source knows how = how.answers knows
  to_whole Listing reply source knows how = how.answers knows
  to_whole (Run key workers) reply source knows how = how.answers knows
  to_whole (Demo seed) reply source knows how = how.answers knows

-- the keeper was reached over all bytes that the source had
reached_whole : (call : Call) (bytes : List ℕ) (command : Command) → (reads_source command ≡ true → call.left ≡ Some bytes) → Reached command call → ReachesKeeper command bytes
reached_whole call bytes (Derive loops format workers) source how = absurd how.reaches
reached_whole call bytes Check source how = absurd how.reaches
reached_whole call bytes (Store name) source how = elim (prefix call.left' bytes how.bytes (subst (λ l. GaveFile l call.left' how.bytes) (source refl) (how.read refl))) [
  | inl same ↦ subst IsFile same how.reaches
  | inr long ↦ absurd (omega (arith, long.0, how.reaches.short))
]
reached_whole call bytes (Show name version) source how = tt
reached_whole call bytes Listing source how = tt
reached_whole call bytes (Run key workers) source how = tt
reached_whole call bytes (Demo seed) source how = absurd how.reaches

-- ---- a source that was read to its end

short_answer : (Answers : List ℕ → Result (List ℕ) DeriveFault → Type 0) (bytes text : List ℕ) → IsReplyToSource Answers bytes (Ok text) → length bytes ≤ limit
short_answer Answers bytes text (inl long) = let never : ⊥ = cc in absurd never
short_answer Answers bytes text (inr short) = short.0

ended_short : (left left' : Option (List ℕ)) (bytes : List ℕ) → GaveFile left left' bytes → length bytes ≤ limit → IsEmptied left'
ended_short left left' bytes read short = elim read.whole [
  | inl ended ↦ ended
  | inr long ↦ absurd (omega (arith, long, short))
]

-- the files of the commands that read the source are short where they are answered
emptied_by : (told : Type 0) (command : Command) (call : Call) (text : List ℕ) → Replies told command call (Ok text) → reads_source command ≡ true → IsEmptied call.left'
emptied_by told (Derive loops format workers) call text how reads =
    ended_short call.left call.left' how.bytes (how.read refl) (short_answer (IsPrinting loops format) how.bytes text (how.answers (λ e. absurd (false≢true e))).0)
emptied_by told Check call text how reads =
    ended_short call.left call.left' how.bytes (how.read refl) (short_answer IsAcceptance how.bytes text (how.answers (λ e. absurd (false≢true e))).0)
emptied_by told (Store name) call text how reads = ended_short call.left call.left' how.bytes (how.read refl) how.caused.file.short
emptied_by told (Show name version) call text how reads = absurd (false≢true reads)
emptied_by told Listing call text how reads = absurd (false≢true reads)
emptied_by told (Run key workers) call text how reads = absurd (false≢true reads)
emptied_by told (Demo seed) call text how reads = absurd (false≢true reads)

-- ---- what words ask for

words_read : (words : List (List ℕ)) (command : Command) → command_of words ≡ Some command → read_source words ≡ reads_source command
words_read words command asked = ap read_by asked

pub words_ask : (words : List (List ℕ)) (command : Command) → command_of words ≡ Some command → ask_keeper words ≡ asks_keeper command
words_ask words command asked = ap asked_by asked

-- the bytes that words need are told where their command reads the source
needed_left : (words : List (List ℕ)) (command : Command) (left : Option (List ℕ)) (bytes : List ℕ) → command_of words ≡ Some command → needed words left ≡ Some bytes
    → reads_source command ≡ true → left ≡ Some bytes
needed_left words command left bytes asked is reads = ap (λ b. cond b left (Some [])) (sym (words_read words command asked ∙ reads)) ∙ is

-- ---- how a command ends

module _ (told : Type 0) (words : List (List ℕ)) (command : Command) (call : Call) (counts : Counts) (output : Output) (asked : command_of words ≡ Some command) where
  module _ (bytes : List ℕ) (source : reads_source command ≡ true → call.left ≡ Some bytes) (knows : asks_keeper command ≡ true → told) where
    is_due : (reply : Result (List ℕ) Status) → Replies told command call reply → IsDue words call.register bytes (status_of reply) call.register'
    is_due reply how =
        subst (λ o. IsStatusFor o call.register bytes (status_of reply) call.register') (sym asked)
        (record { reply = reply; replies = to_whole told call bytes command reply source knows how; is = refl })

    reach : Reached command call → ReachKeeper words bytes
    reach how = subst (λ o. ReachedBy o bytes) (sym asked) (reached_whole call bytes command source how)

    -- as it is due, but for want of memory and faults
    due_ended : (ended : Status) → (IsSilent ended → call.register' ≡ call.register) → CommandEnds told command call counts output ended
        → IsDueOrFault words call.register bytes ended call.register'
    due_ended status.Done same how = is_due (Ok how.0.text) how.0.replies
    due_ended status.NoMemory same how = same tt
    due_ended status.Usage same how = absurd how
    due_ended status.ReadFault same how = (same tt, words_read words command asked ∙ how.asked)
    due_ended status.TooLong same how = is_due (Err status.TooLong) how.0
    due_ended (status.Malformed bad) same how = is_due (Err (status.Malformed bad)) how.0
    due_ended (status.BadTerm bad) same how = is_due (Err (status.BadTerm bad)) how.0
    due_ended (status.Anomalous bad) same how = is_due (Err (status.Anomalous bad)) how.0
    due_ended (status.Overflow pair) same how = is_due (Err (status.Overflow pair)) how.0
    due_ended status.NoSuch same how = is_due (Err status.NoSuch) how.0
    due_ended status.Full same how = is_due (Err status.Full) how.0
    due_ended status.KeeperFault same how = (same tt, reach how.reached)
    due_ended status.WriteFault same how = is_due (Ok how.0.text) how.0.replies

    answer_of : (text : List ℕ) → Replies told command call (Ok text) → IsAnswer words call.register bytes text call.register'
    answer_of text how = record { command = command; asked = asked; replies = to_whole told call bytes command (Ok text) source knows how }

    -- what was written
    written : (ended : Status) → (IsSilent ended → output.taken' ≡ output.taken) → CommandEnds told command call counts output ended
        → Wrote words call.register bytes output.taken output.taken' ended call.register'
    written status.Done same how = record { text = how.0.text; answer = answer_of how.0.text how.0.replies; took = how.0.took }
    written status.NoMemory same how = same tt
    written status.Usage same how = same tt
    written status.ReadFault same how = same tt
    written status.TooLong same how = same tt
    written (status.Malformed bad) same how = same tt
    written (status.BadTerm bad) same how = same tt
    written (status.Anomalous bad) same how = same tt
    written (status.Overflow pair) same how = same tt
    written status.NoSuch same how = same tt
    written status.Full same how = same tt
    written status.KeeperFault same how = same tt
    written status.WriteFault same how = record { text = how.0.text; answer = answer_of how.0.text how.0.replies; took = how.0.took }

    -- where no count rose, as it is due, or for want of memory
    completed : (ended : Status) → CommandEnds told command call counts output ended
        → (read_source words ≡ true → ¬ Rose counts.reads counts.reads') → (ReachKeeper words bytes → ¬ Rose counts.keeps counts.keeps') → ¬ Rose output.writes output.writes'
        → IsDue words call.register bytes ended call.register' ⊎ (ended ≡ status.NoMemory)
    completed status.Done how quiet steady sure = inl (is_due (Ok how.0.text) how.0.replies)
    completed status.NoMemory how quiet steady sure = inr refl
    completed status.Usage how quiet steady sure = absurd how
    completed status.ReadFault how quiet steady sure = absurd (quiet (words_read words command asked ∙ how.asked) how.rose)
    completed status.TooLong how quiet steady sure = inl (is_due (Err status.TooLong) how.0)
    completed (status.Malformed bad) how quiet steady sure = inl (is_due (Err (status.Malformed bad)) how.0)
    completed (status.BadTerm bad) how quiet steady sure = inl (is_due (Err (status.BadTerm bad)) how.0)
    completed (status.Anomalous bad) how quiet steady sure = inl (is_due (Err (status.Anomalous bad)) how.0)
    completed (status.Overflow pair) how quiet steady sure = inl (is_due (Err (status.Overflow pair)) how.0)
    completed status.NoSuch how quiet steady sure = inl (is_due (Err status.NoSuch) how.0)
    completed status.Full how quiet steady sure = inl (is_due (Err status.Full) how.0)
    completed status.KeeperFault how quiet steady sure = absurd (steady (reach how.reached) how.rose)
    completed status.WriteFault how quiet steady sure = absurd (sure how.0.rose)

  -- ---- the causes

  has_reply : (reply : Result (List ℕ) Status) → Replies told command call reply → HasReply told words call reply
  has_reply reply how = record { command = command; asked = asked; replies = how }

  wrote_answer : WritesWhole told command call output → WroteAnswer told words call output
  wrote_answer how = record {
    text = how.text;
    reply = has_reply (Ok how.text) how.replies;
    took = how.took;
    emptied = λ reads. emptied_by told command call how.text how.replies (sym (words_read words command asked) ∙ reads);
  }

  wrote_front : WritesFront told command call output → WroteFront told words call output
  wrote_front how = record { text = how.text; reply = has_reply (Ok how.text) how.replies; took = how.took; rose = how.rose }

  caused_by : (ended : Status) → CommandEnds told command call counts output ended → IsCausedBy told words call counts output ended
  caused_by status.Done how = wrote_answer how.0
  caused_by status.NoMemory how = tt
  caused_by status.Usage how = absurd how
  caused_by status.ReadFault how = record { reads = words_read words command asked ∙ how.asked; rose = how.rose }
  caused_by status.TooLong how = has_reply (Err status.TooLong) how.0
  caused_by (status.Malformed bad) how = has_reply (Err (status.Malformed bad)) how.0
  caused_by (status.BadTerm bad) how = has_reply (Err (status.BadTerm bad)) how.0
  caused_by (status.Anomalous bad) how = has_reply (Err (status.Anomalous bad)) how.0
  caused_by (status.Overflow pair) how = has_reply (Err (status.Overflow pair)) how.0
  caused_by status.NoSuch how = has_reply (Err status.NoSuch) how.0
  caused_by status.Full how = has_reply (Err status.Full) how.0
  caused_by status.KeeperFault how = record { command = command; asked = asked; reached = how.reached; rose = how.rose }
  caused_by status.WriteFault how = wrote_front how.0

  some_command : {A : Type 0} → command_of words ≡ None → A
  some_command none = let both : Some command ≡ None = sym asked ∙ none in let never : ⊥ = cc in absurd never

  pub command_run : (untouched steady : Type 0) (ended : Status) → ((asks_keeper command ≡ true → told) → IsSilent ended → call.register' ≡ call.register)
      → (IsSilent ended → untouched) → (IsSilent ended → output.taken' ≡ output.taken) → (IsSilent ended → steady) → CommandEnds told command call counts output ended
      → RunEnds told untouched steady words call counts output ended
  command_run untouched steady ended left silent mute same how = record {
    due = if_some _ (needed words call.left) (λ bytes needs told_where. (
      due_ended bytes (needed_left words command call.left bytes asked needs) (λ asks. told_where (words_ask words command asked ∙ asks)) ended
          (left (λ asks. told_where (words_ask words command asked ∙ asks))) how,
      written bytes (needed_left words command call.left bytes asked needs) (λ asks. told_where (words_ask words command asked ∙ asks)) ended mute how,
    ));
    complete = if_some _ (needed words call.left) (λ bytes needs told_where.
        completed bytes (needed_left words command call.left bytes asked needs) (λ asks. told_where (words_ask words command asked ∙ asks)) ended how);
    caused = caused_by ended how;
    usage = some_command;
    silent = silent;
    same = same;
  }

-- ---- words that are no command

usage_due : (words : List (List ℕ)) (register : Register) (bytes : List ℕ) → command_of words ≡ None → IsDue words register bytes status.Usage register
usage_due words register bytes none = subst (λ o. IsStatusFor o register bytes status.Usage register) (sym none) (refl, refl)

pub usage_run : (told untouched steady : Type 0) (words : List (List ℕ)) (left left' : Option (List ℕ)) (register : Register) (counts : Counts) (output : Output) → command_of words ≡ None
    → untouched → output.taken' ≡ output.taken → steady → RunEnds told untouched steady words (record { left = left; left' = left'; register = register; register' = register }) counts output status.Usage
usage_run told untouched steady words left left' register counts output none silent mute same = record {
  due = if_some _ (needed words left) (λ bytes _ _. (usage_due words register bytes none, mute));
  complete = if_some _ (needed words left) (λ bytes _ _ _ _ _. inl (usage_due words register bytes none));
  caused = none;
  usage = λ _. refl;
  silent = λ _. silent;
  same = λ _. same;
}

-- ---- failed calls

no_rise : (before now : ℕ) → now ≡ before → before < now → ⊥
no_rise before now same rise = omega (arith, same, rise)

unnoticed : (counts : Counts) (output : Output) (ended : Status) → IsQuiet counts → output.writes' ≡ output.writes → AreNoticed counts output ended
unnoticed counts output ended quiet same = record {
  reads = λ rise. absurd (no_rise counts.reads counts.reads' quiet.reads rise);
  keeps = λ rise. absurd (no_rise counts.keeps counts.keeps' quiet.keeps rise);
  writes = λ rise. absurd (no_rise output.writes output.writes' same rise);
}

pub noticed : (told : Type 0) (command : Command) (call : Call) (counts : Counts) (output : Output) (ended : Status) → (IsSilent ended → output.writes' ≡ output.writes)
    → CommandEnds told command call counts output ended → AreNoticed counts output ended
noticed told command call counts output status.Done same how = unnoticed counts output status.Done how.1 how.0.counted
noticed told command call counts output status.NoMemory same how = unnoticed counts output status.NoMemory how (same tt)
noticed told command call counts output status.Usage same how = absurd how
noticed told command call counts output status.ReadFault same how = record {
  reads = λ _. refl;
  keeps = λ rise. absurd (no_rise counts.keeps counts.keeps' how.keeps rise);
  writes = λ rise. absurd (no_rise output.writes output.writes' (same tt) rise);
}
noticed told command call counts output status.TooLong same how = unnoticed counts output status.TooLong how.1 (same tt)
noticed told command call counts output (status.Malformed bad) same how = unnoticed counts output (status.Malformed bad) how.1 (same tt)
noticed told command call counts output (status.BadTerm bad) same how = unnoticed counts output (status.BadTerm bad) how.1 (same tt)
noticed told command call counts output (status.Anomalous bad) same how = unnoticed counts output (status.Anomalous bad) how.1 (same tt)
noticed told command call counts output (status.Overflow pair) same how = unnoticed counts output (status.Overflow pair) how.1 (same tt)
noticed told command call counts output status.NoSuch same how = unnoticed counts output status.NoSuch how.1 (same tt)
noticed told command call counts output status.Full same how = unnoticed counts output status.Full how.1 (same tt)
noticed told command call counts output status.KeeperFault same how = record {
  reads = λ rise. absurd (no_rise counts.reads counts.reads' how.reads rise);
  keeps = λ _. refl;
  writes = λ rise. absurd (no_rise output.writes output.writes' (same tt) rise);
}
noticed told command call counts output status.WriteFault same how = record {
  reads = λ rise. absurd (no_rise counts.reads counts.reads' how.1.reads rise);
  keeps = λ rise. absurd (no_rise counts.keeps counts.keeps' how.1.keeps rise);
  writes = λ _. refl;
}

-- the register of a keeper that a command leaves, or doesn't ask
pub register_same : {K : Type 0} (is_told : K → Type 0) (tables : K → Register) (old new : K) (command : Command) → (asks_keeper command ≡ true → is_told new)
    → Stays is_told tables old new → (asks_keeper command ≡ false → new ≡ old) → tables new ≡ tables old
register_same is_told tables old new command knows stays untouched = elim (cases_Bool (asks_keeper command)) [
  | inl asks ↦ (stays (knows asks)).1
  | inr idle ↦ ap tables (untouched idle)
]
