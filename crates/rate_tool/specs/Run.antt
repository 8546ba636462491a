-- How a run ends, and what it reads, keeps and writes.
use Rattle.std.specs.Prelude.{◌≡◌, ◌⊎◌, ⊤, ℕ, ◌<◌, ◌≤◌, Bool, true, false, if◌then◌else◌, List, [], length, Option, Some, None, Result, Ok, Err}
use Rattle.std.specs.Option.{IfSome}
use Rattle.model_core.specs.declared.model.Model.{Model}
use Rattle.model_core.specs.declared.format.Format.{Format}
use Rattle.model_core.specs.Reading.{reading}
use Rattle.register_core.specs.Register.{Register, most_versions}
use Rattle.register_core.specs.declared.register.NameCount.{NameCount}
use Rattle.rate_tool.specs.Lines.{stored_text, counts_text}
use Rattle.rate_tool.specs.Stream.{Rose, Gave, IsEmptied, Took, TookFront}
use Rattle.rate_tool.specs.Words.{command_of, reads_source, asks_keeper}
use Rattle.rate_tool.specs.Reply.{limit, IsPrinting, IsReplyTo, IsReply}
use Rattle.rate_tool.specs.declared.words.Command.{Command}
use Rattle.rate_tool.specs.declared.words.Command.TheVariants.{Derive, Check, Store, Show, Listing, Run, Demo}
use Rattle.rate_tool.specs.declared.status.Status.{Status}
use Rattle.rate_tool.specs.declared.status.Status.TheVariants as status

-- ---- the status that is due

-- the status of a reply
abbrev pub status_of : Result (List ℕ) Status → Status
status_of (Ok text) = status.Done
status_of (Err refusal) = refusal

-- the status of what a command replies, and the register that it leaves
pub record IsAnswered (command : Command) (register : Register) (bytes : List ℕ) (due : Status) (next : Register) : Type 0 where
  pub reply : Result (List ℕ) Status
  pub replies : IsReply command register bytes reply next
  pub is : due ≡ status_of reply

-- the same of words, which may be no command
abbrev pub IsStatusFor : Option Command → Register → List ℕ → Status → Register → Type 0
IsStatusFor None register bytes due next = (due ≡ status.Usage) × (next ≡ register)
IsStatusFor (Some command) register bytes due next = IsAnswered command register bytes due next

-- The status that is due to these words over these bytes and this register, and the register that is left, where memory suffices and
-- neither a stream nor the keeper fails.
abbrev pub IsDue : List (List ℕ) → Register → List ℕ → Status → Register → Type 0
IsDue words register bytes due next = IsStatusFor (command_of words) register bytes due next

-- ---- what is asked of the source and of the keeper

-- whether words are a command that reads the source
abbrev pub read_by : Option Command → Bool
read_by None = false
read_by (Some command) = reads_source command

abbrev pub read_source : List (List ℕ) → Bool
read_source words = read_by (command_of words)

-- whether words are a command that asks the keeper
abbrev pub asked_by : Option Command → Bool
asked_by None = false
asked_by (Some command) = asks_keeper command

abbrev pub ask_keeper : List (List ℕ) → Bool
ask_keeper words = asked_by (command_of words)

-- the bytes that the status depends on: those that the source tells, and none where the words don't have it read
abbrev pub needed : List (List ℕ) → Option (List ℕ) → Option (List ℕ)
needed words left = if read_source words then left else Some []

-- a file: bytes that aren't too many and stand for a model
pub record IsFile (bytes : List ℕ) : Type 0 where
  pub short : length bytes ≤ limit
  pub model : Model
  pub reads : reading bytes ≡ Ok model

-- A command over the source's bytes asks the keeper: `store` only once it has read a file.
abbrev pub ReachesKeeper : Command → List ℕ → Type 0
ReachesKeeper (Derive loops format workers) bytes = ⊥
ReachesKeeper Check bytes = ⊥
ReachesKeeper (Store name) bytes = IsFile bytes
ReachesKeeper (Show name version) bytes = ⊤
ReachesKeeper Listing bytes = ⊤
ReachesKeeper (Run key workers) bytes = ⊤
ReachesKeeper (Demo seed) bytes = ⊥

-- the same of words
abbrev pub ReachedBy : Option Command → List ℕ → Type 0
ReachedBy None bytes = ⊥
ReachedBy (Some command) bytes = ReachesKeeper command bytes

abbrev pub ReachKeeper : List (List ℕ) → List ℕ → Type 0
ReachKeeper words bytes = ReachedBy (command_of words) bytes

-- ---- the status that is due, or a fault

-- The status is the one that is due, but for want of memory, a failed read of words that read the source, and a failed call of words that
-- reach the keeper, which leave the register, and for a failed write in place of `Done`.
abbrev pub IsDueOrFault : List (List ℕ) → Register → List ℕ → Status → Register → Type 0
IsDueOrFault words register bytes status.NoMemory next = next ≡ register
IsDueOrFault words register bytes status.ReadFault next = (next ≡ register) × (read_source words ≡ true)
IsDueOrFault words register bytes status.KeeperFault next = (next ≡ register) × ReachKeeper words bytes
IsDueOrFault words register bytes status.WriteFault next = IsDue words register bytes status.Done next
IsDueOrFault words register bytes ended next = IsDue words register bytes ended next

-- ---- what is written

-- what words answer over the source's bytes and a register, and the register that they leave
pub record IsAnswer (words : List (List ℕ)) (register : Register) (bytes text : List ℕ) (next : Register) : Type 0 where
  pub command : Command
  pub asked : command_of words ≡ Some command
  pub replies : IsReply command register bytes (Ok text) next

-- the sink took all of the answer
pub record IsWritten (words : List (List ℕ)) (register : Register) (bytes : List ℕ) (taken taken' : Option (List ℕ)) (next : Register) : Type 0 where
  pub text : List ℕ
  pub answer : IsAnswer words register bytes text next
  pub took : Took taken taken' text

-- the sink took a front of the answer
pub record IsPartlyWritten (words : List (List ℕ)) (register : Register) (bytes : List ℕ) (taken taken' : Option (List ℕ)) (next : Register) : Type 0 where
  pub text : List ℕ
  pub answer : IsAnswer words register bytes text next
  pub took : TookFront taken taken' text

-- What was written, by what the sink tells before and after: the answer that is due, after a failed write a front of it, and else nothing.
abbrev pub Wrote : List (List ℕ) → Register → List ℕ → Option (List ℕ) → Option (List ℕ) → Status → Register → Type 0
Wrote words register bytes taken taken' status.Done next = IsWritten words register bytes taken taken' next
Wrote words register bytes taken taken' status.WriteFault next = IsPartlyWritten words register bytes taken taken' next
Wrote words register bytes taken taken' ended next = taken' ≡ taken

-- ---- what was read and answered

-- what was told before and after a call: the bytes that the source had left, and the register
pub record Call : Type 0 where
  pub left : Option (List ℕ)
  pub left' : Option (List ℕ)
  pub register : Register
  pub register' : Register

-- the counts of faults of the source and of the keeper before and after a call
pub record Counts : Type 0 where
  pub reads : ℕ
  pub reads' : ℕ
  pub keeps : ℕ
  pub keeps' : ℕ

-- the counts of the sink's faults, and the bytes that it told before and after a call
pub record Output : Type 0 where
  pub taken : Option (List ℕ)
  pub taken' : Option (List ℕ)
  pub writes : ℕ
  pub writes' : ℕ

-- the source gave these bytes, which were all or are too many
pub record GaveFile (left left' : Option (List ℕ)) (bytes : List ℕ) : Type 0 where
  pub gave : Gave left left' bytes
  pub whole : IsEmptied left' ⊎ (limit < length bytes)

-- ---- the cause of a reply, over any keeper, whether it tells its tables or not

-- a number of a version of a file
pub record IsStoring (name bytes text : List ℕ) : Type 0 where
  pub file : IsFile bytes
  pub number : ℕ
  pub least : 1 ≤ number
  pub most : number ≤ most_versions
  pub is : text ≡ stored_text name number

-- names and numbers of versions
pub record IsListing (text : List ℕ) : Type 0 where
  pub counts : List NameCount
  pub is : text ≡ counts_text counts

-- a file that is refused so
pub record IsOfFile (Refuses : List ℕ → Type 0) : Type 0 where
  pub file : List ℕ
  pub refused : Refuses file

-- What `store` replies, by the source's bytes.
abbrev pub IsStoreCaused : List ℕ → List ℕ → Result (List ℕ) Status → Type 0
IsStoreCaused name bytes (Ok text) = IsStoring name bytes text
IsStoreCaused name bytes (Err status.TooLong) = limit < length bytes
IsStoreCaused name bytes (Err (status.Malformed bad)) = (length bytes ≤ limit) × (reading bytes ≡ Err bad)
IsStoreCaused name bytes (Err status.Full) = IsFile bytes
IsStoreCaused name bytes (Err _) = ⊥

-- What `show` replies: bytes, or that there is no such version.
abbrev pub IsShowCaused : Result (List ℕ) Status → Type 0
IsShowCaused (Ok text) = ⊤
IsShowCaused (Err status.NoSuch) = ⊤
IsShowCaused (Err _) = ⊥

-- What `list` replies.
abbrev pub IsListCaused : Result (List ℕ) Status → Type 0
IsListCaused (Ok text) = IsListing text
IsListCaused (Err _) = ⊥

-- What `run` replies: an output, that there is no such version, or how a file is refused that the keeper gave.
abbrev pub IsRunCaused : ℕ → Format → Result (List ℕ) Status → Type 0
IsRunCaused loops format (Ok text) = ⊤
IsRunCaused loops format (Err status.NoSuch) = ⊤
IsRunCaused loops format (Err (status.Malformed bad)) = IsOfFile (λ file. IsReplyTo (IsPrinting loops format) file (Err (status.Malformed bad)))
IsRunCaused loops format (Err (status.BadTerm bad)) = IsOfFile (λ file. IsReplyTo (IsPrinting loops format) file (Err (status.BadTerm bad)))
IsRunCaused loops format (Err (status.Anomalous bad)) = IsOfFile (λ file. IsReplyTo (IsPrinting loops format) file (Err (status.Anomalous bad)))
IsRunCaused loops format (Err (status.Overflow pair)) = IsOfFile (λ file. IsReplyTo (IsPrinting loops format) file (Err (status.Overflow pair)))
IsRunCaused loops format (Err _) = ⊥

-- The replies of the other commands are those of the source's bytes or of the seed, and have no other cause.
abbrev pub IsCaused : Command → List ℕ → Result (List ℕ) Status → Type 0
IsCaused (Derive loops format workers) bytes reply = ⊤
IsCaused Check bytes reply = ⊤
IsCaused (Store name) bytes reply = IsStoreCaused name bytes reply
IsCaused (Show name version) bytes reply = IsShowCaused reply
IsCaused Listing bytes reply = IsListCaused reply
IsCaused (Run key workers) bytes reply = IsRunCaused key.loops key.format reply
IsCaused (Demo seed) bytes reply = ⊤

-- A command had this reply to the source's bytes, which it read where it reads them, and to the register, where its keeper tells it or isn't
-- asked.
pub record Replies (told : Type 0) (command : Command) (call : Call) (reply : Result (List ℕ) Status) : Type 0 where
  pub bytes : List ℕ
  pub read : reads_source command ≡ true → GaveFile call.left call.left' bytes
  pub answers : (asks_keeper command ≡ true → told) → IsReply command call.register bytes reply call.register'
  pub caused : IsCaused command bytes reply

-- The words are a command, which had this reply.
pub record HasReply (told : Type 0) (words : List (List ℕ)) (call : Call) (reply : Result (List ℕ) Status) : Type 0 where
  pub command : Command
  pub asked : command_of words ≡ Some command
  pub replies : Replies told command call reply

-- A command asked its keeper, after it had read the source's bytes where it reads them.
pub record Reached (command : Command) (call : Call) : Type 0 where
  pub bytes : List ℕ
  pub read : reads_source command ≡ true → GaveFile call.left call.left' bytes
  pub reaches : ReachesKeeper command bytes

-- ---- how a run ends

-- The words are a command that reads the source, and a read failed.
pub record IsReadFault (words : List (List ℕ)) (counts : Counts) : Type 0 where
  pub reads : read_source words ≡ true
  pub rose : Rose counts.reads counts.reads'

-- The words are a command that had reached the keeper, and a call of it failed.
pub record IsKeeperFault (words : List (List ℕ)) (call : Call) (counts : Counts) : Type 0 where
  pub command : Command
  pub asked : command_of words ≡ Some command
  pub reached : Reached command call
  pub rose : Rose counts.keeps counts.keeps'

-- the whole answer was written, and a source that was read has no byte left
pub record WroteAnswer (told : Type 0) (words : List (List ℕ)) (call : Call) (output : Output) : Type 0 where
  pub text : List ℕ
  pub reply : HasReply told words call (Ok text)
  pub took : Took output.taken output.taken' text
  pub emptied : read_source words ≡ true → IsEmptied call.left'

-- a front of the answer was written, and a write failed
pub record WroteFront (told : Type 0) (words : List (List ℕ)) (call : Call) (output : Output) : Type 0 where
  pub text : List ℕ
  pub reply : HasReply told words call (Ok text)
  pub took : TookFront output.taken output.taken' text
  pub rose : Rose output.writes output.writes'

-- The cause of each status. Want of memory has none.
abbrev pub IsCausedBy : Type 0 → List (List ℕ) → Call → Counts → Output → Status → Type 0
IsCausedBy told words call counts output status.Done = WroteAnswer told words call output
IsCausedBy told words call counts output status.NoMemory = ⊤
IsCausedBy told words call counts output status.Usage = command_of words ≡ None
IsCausedBy told words call counts output status.ReadFault = IsReadFault words counts
IsCausedBy told words call counts output status.KeeperFault = IsKeeperFault words call counts
IsCausedBy told words call counts output status.WriteFault = WroteFront told words call output
IsCausedBy told words call counts output refusal = HasReply told words call (Err refusal)

-- After `Done` and `WriteFault` something may have been written and kept. After every other status the sink is untouched, and the
-- register is as before.
abbrev pub IsSilent : Status → Type 0
IsSilent status.Done = ⊥
IsSilent status.WriteFault = ⊥
IsSilent _ = ⊤

-- Where the bytes that the words need are told, and the register too where the words ask for it, the status is the one that is due, or a
-- fault, and what was written is the answer that is due.
abbrev pub EndsDue : Type 0 → List (List ℕ) → Call → Output → Status → Type 0
EndsDue told words call output ended =
    IfSome (needed words call.left) (λ bytes. (ask_keeper words ≡ true → told) →
    IsDueOrFault words call.register bytes ended call.register' × Wrote words call.register bytes output.taken output.taken' ended call.register')

-- There it is the one that is due, or want of memory, where no count rose: not the source's where it is read, not the keeper's where it is
-- reached, and not the sink's.
abbrev pub EndsComplete : Type 0 → List (List ℕ) → Call → Counts → Output → Status → Type 0
EndsComplete told words call counts output ended =
    IfSome (needed words call.left) (λ bytes.
    (ask_keeper words ≡ true → told) → (read_source words ≡ true → ¬ Rose counts.reads counts.reads') → (ReachKeeper words bytes → ¬ Rose counts.keeps counts.keeps')
    → ¬ Rose output.writes output.writes' → IsDue words call.register bytes ended call.register' ⊎ (ended ≡ status.NoMemory))

-- How a run ends. `untouched` says that the sink is, and `steady` that the register is as before.
pub record RunEnds (told untouched steady : Type 0) (words : List (List ℕ)) (call : Call) (counts : Counts) (output : Output) (ended : Status) : Type 0 where
  pub due : EndsDue told words call output ended
  pub complete : EndsComplete told words call counts output ended
  pub caused : IsCausedBy told words call counts output ended
  pub usage : command_of words ≡ None → ended ≡ status.Usage
  pub silent : IsSilent ended → untouched
  pub same : IsSilent ended → steady

-- ---- what always holds

-- No failed call is passed over.
pub record AreNoticed (counts : Counts) (output : Output) (ended : Status) : Type 0 where
  pub reads : counts.reads < counts.reads' → ended ≡ status.ReadFault
  pub keeps : counts.keeps < counts.keeps' → ended ≡ status.KeeperFault
  pub writes : output.writes < output.writes' → ended ≡ status.WriteFault
