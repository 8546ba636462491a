-- The steps of a run.
use Rattle.std.specs.Prelude.{◌≡◌, ◌<◌, ⊤, ℕ, ◌≤◌, true, List, [], ◌++◌, length, Option, Result, Ok, Err, Vec}
use Rattle.std.specs.declared.alloc.Global.{Global}
use Rattle.derive_core.specs.declared.fault.DeriveFault.{DeriveFault}
use Rattle.derive_core.specs.declared.fault.DeriveFault.TheVariants as fault
use Rattle.derive_core.specs.Derivation.{Overflows}
use Rattle.rate_tool.specs.Stream.{Rose, Gave, IsEmptied, Took, TookFront}
use Rattle.register_core.specs.Register.{Register, Key}
use Rattle.rate_tool.specs.Reply.{limit, IsPrinting, IsReplyTo, IsReplyToSource, keeping, IsReply}
use Rattle.rate_tool.specs.Run.{Call, Counts, Output, GaveFile, IsCaused, Replies, Reached}
use Rattle.rate_tool.specs.Words.{reads_source}
use Rattle.rate_tool.specs.declared.reply.Reply.{Reply}
use Rattle.rate_tool.specs.declared.reply.Reply.TheVariants as reply
use Rattle.rate_tool.specs.declared.reading.Stop.{Stop}
use Rattle.rate_tool.specs.declared.reading.Stop.TheVariants as stop
use Rattle.rate_tool.specs.declared.words.Command.{Command}
use Rattle.rate_tool.specs.declared.status.Status.{Status}
use Rattle.rate_tool.specs.declared.status.Status.TheVariants as status

-- ---- reading

-- what one piece adds to the bytes that were read
pub record AddsPiece (left left' : Option (List ℕ)) (old new : List ℕ) (room count : ℕ) : Type 0 where
  pub piece : List ℕ
  pub gave : Gave left left' piece
  pub added : new ≡ old ++ piece
  pub counted : length piece ≡ count
  pub within : count ≤ room
  pub ended : count ≡ 0 → IsEmptied left'

-- how the reading of one piece ends
abbrev pub PieceEnds : Option (List ℕ) → Option (List ℕ) → List ℕ → List ℕ → ℕ → ℕ → ℕ → Result ℕ Stop → Type 0
PieceEnds left left' old new room reads reads' (Ok count) = AddsPiece left left' old new room count × (reads' ≡ reads)
PieceEnds left left' old new room reads reads' (Err stop.NoMemory) = reads' ≡ reads
PieceEnds left left' old new room reads reads' (Err stop.ReadFault) = Rose reads reads'
PieceEnds left left' old new room reads reads' (Err stop.TooLong) = ⊥

-- The file was read whole: the source gave these bytes and has none left, and they are not too many.
pub record WasRead (left left' : Option (List ℕ)) (file : List ℕ) : Type 0 where
  pub gave : Gave left left' file
  pub ended : IsEmptied left'
  pub short : length file ≤ limit

-- the source gave more bytes than a file may have
pub record WasTooLong (left left' : Option (List ℕ)) : Type 0 where
  pub bytes : List ℕ
  pub gave : Gave left left' bytes
  pub long : limit < length bytes

-- how the reading of a whole source ends
abbrev pub ReadEnds : Option (List ℕ) → Option (List ℕ) → ℕ → ℕ → Result (Vec ℕ Global) Stop → Type 0
ReadEnds left left' reads reads' (Ok bytes) = WasRead left left' bytes.items × (reads' ≡ reads)
ReadEnds left left' reads reads' (Err stop.NoMemory) = reads' ≡ reads
ReadEnds left left' reads reads' (Err stop.ReadFault) = Rose reads reads'
ReadEnds left left' reads reads' (Err stop.TooLong) = WasTooLong left left' × (reads' ≡ reads)

-- ---- answering

-- how the answer to a file ends: with the one that is due, with a refused pair, or for want of memory
abbrev pub AnswerEnds : (List ℕ → Result (List ℕ) DeriveFault → Type 0) → List ℕ → Result (List ℕ) DeriveFault → Type 0
AnswerEnds Answers file (Ok text) = Answers file (Ok text)
AnswerEnds Answers file (Err (fault.Overflow pair)) = Overflows file pair
AnswerEnds Answers file (Err fault.NoMemory) = ⊤
AnswerEnds Answers file (Err bad) = Answers file (Err bad)

-- the status with which reading stopped
abbrev pub stopped : Stop → Status
stopped stop.NoMemory = status.NoMemory
stopped stop.ReadFault = status.ReadFault
stopped stop.TooLong = status.TooLong

-- the bytes that a reply has
abbrev pub bytes_of : Reply → List ℕ
bytes_of (reply.Line line) = line
bytes_of (reply.Text text) = text

-- the source gave these bytes, and this is the reply to them
pub record RepliesToSource (Answers : List ℕ → Result (List ℕ) DeriveFault → Type 0) (left left' : Option (List ℕ)) (answer : Result (List ℕ) Status) : Type 0 where
  pub bytes : List ℕ
  pub read : GaveFile left left' bytes
  pub answers : IsReplyToSource Answers bytes answer

-- how a command ends that only reads the source
abbrev pub SourceEnds : (List ℕ → Result (List ℕ) DeriveFault → Type 0) → Option (List ℕ) → Option (List ℕ) → ℕ → ℕ → Result (List ℕ) Status → Type 0
SourceEnds Answers left left' reads reads' (Err status.NoMemory) = reads' ≡ reads
SourceEnds Answers left left' reads reads' (Err status.ReadFault) = Rose reads reads'
SourceEnds Answers left left' reads reads' answer = RepliesToSource Answers left left' answer × (reads' ≡ reads)

-- how a command ends that makes its file
abbrev pub MadeEnds : (List ℕ → Result (List ℕ) DeriveFault → Type 0) → List ℕ → Result (List ℕ) Status → Type 0
MadeEnds Answers file (Err status.NoMemory) = ⊤
MadeEnds Answers file answer = IsReplyTo Answers file answer

-- no call failed
pub record IsQuiet (counts : Counts) : Type 0 where
  pub reads : counts.reads' ≡ counts.reads
  pub keeps : counts.keeps' ≡ counts.keeps

-- a call of the keeper failed, which the command had reached, and no read did
pub record IsKeepersFault (command : Command) (call : Call) (counts : Counts) : Type 0 where
  pub reached : Reached command call
  pub reads : counts.reads' ≡ counts.reads
  pub rose : Rose counts.keeps counts.keeps'

-- the command reads the source and a read failed, and no call of the keeper did
pub record IsSourcesFault (command : Command) (counts : Counts) : Type 0 where
  pub asked : reads_source command ≡ true
  pub rose : Rose counts.reads counts.reads'
  pub keeps : counts.keeps' ≡ counts.keeps

-- how a command ends before anything is written
abbrev pub ReplyEnds : Type 0 → Command → Call → Counts → Result (List ℕ) Status → Type 0
ReplyEnds told command call counts (Err status.Done) = ⊥
ReplyEnds told command call counts (Err status.NoMemory) = IsQuiet counts
ReplyEnds told command call counts (Err status.Usage) = ⊥
ReplyEnds told command call counts (Err status.ReadFault) = IsSourcesFault command counts
ReplyEnds told command call counts (Err status.KeeperFault) = IsKeepersFault command call counts
ReplyEnds told command call counts (Err status.WriteFault) = ⊥
ReplyEnds told command call counts answer = Replies told command call answer × IsQuiet counts

-- what a command that asks only the keeper replied, and which register it left
pub record KeeperReplies (told : Type 0) (command : Command) (register register' : Register) (answer : Result (List ℕ) Status) : Type 0 where
  pub answers : told → IsReply command register [] answer register'
  pub caused : IsCaused command [] answer

-- how a command ends that asks only the keeper
abbrev pub KeeperEnds : Type 0 → Command → Register → Register → ℕ → ℕ → Result (List ℕ) Status → Type 0
KeeperEnds told command register register' keeps keeps' (Err status.Done) = ⊥
KeeperEnds told command register register' keeps keeps' (Err status.NoMemory) = keeps' ≡ keeps
KeeperEnds told command register register' keeps keeps' (Err status.Usage) = ⊥
KeeperEnds told command register register' keeps keeps' (Err status.ReadFault) = ⊥
KeeperEnds told command register register' keeps keeps' (Err status.KeeperFault) = Rose keeps keeps'
KeeperEnds told command register register' keeps keeps' (Err status.WriteFault) = ⊥
KeeperEnds told command register register' keeps keeps' answer = KeeperReplies told command register register' answer × (keeps' ≡ keeps)

-- the output of a file, and the register that it is kept in
pub record IsFresh (told : Type 0) (key : Key) (file : List ℕ) (register register' : Register) (answer : Result (List ℕ) Status) : Type 0 where
  pub answers : IsReplyTo (IsPrinting key.loops key.format) file answer
  pub kept : told → register' ≡ keeping register key answer

-- how a run ends that nothing is kept of yet
abbrev pub FreshEnds : Type 0 → Key → List ℕ → Register → Register → ℕ → ℕ → Result (List ℕ) Status → Type 0
FreshEnds told key file register register' keeps keeps' (Err status.NoMemory) = keeps' ≡ keeps
FreshEnds told key file register register' keeps keeps' (Err status.KeeperFault) = Rose keeps keeps'
FreshEnds told key file register register' keeps keeps' answer = IsFresh told key file register register' answer × (keeps' ≡ keeps)

-- the bytes of a reply that is given
abbrev pub written : Result Reply Status → Result (List ℕ) Status
written (Ok given) = Ok (bytes_of given)
written (Err refusal) = Err refusal

-- ---- writing

-- the whole reply was written
pub record WritesWhole (told : Type 0) (command : Command) (call : Call) (output : Output) : Type 0 where
  pub text : List ℕ
  pub replies : Replies told command call (Ok text)
  pub took : Took output.taken output.taken' text
  pub counted : output.writes' ≡ output.writes

-- a front of the reply was written
pub record WritesFront (told : Type 0) (command : Command) (call : Call) (output : Output) : Type 0 where
  pub text : List ℕ
  pub replies : Replies told command call (Ok text)
  pub took : TookFront output.taken output.taken' text
  pub rose : Rose output.writes output.writes'

-- how a command ends, status by status
abbrev pub CommandEnds : Type 0 → Command → Call → Counts → Output → Status → Type 0
CommandEnds told command call counts output status.Done = WritesWhole told command call output × IsQuiet counts
CommandEnds told command call counts output status.WriteFault = WritesFront told command call output × IsQuiet counts
CommandEnds told command call counts output refusal = ReplyEnds told command call counts (Err refusal)
