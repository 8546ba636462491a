-- A command has one answer.
use Rattle.std.specs.Prelude.{◌≡◌, ⊤, List, ℕ, Option, option_map, Result, Ok, Err}
use Rattle.register_core.specs.Register.{Register}
use Rattle.rate_tool.specs.Words.{command_of}
use Rattle.rate_tool.specs.Reply.{IsReply}
use Rattle.rate_tool.specs.Run.{IsDue}
use Rattle.rate_tool.specs.declared.words.Command.{Command}
use Rattle.rate_tool.specs.declared.words.Command.TheVariants.{Derive, Run}
use Rattle.rate_tool.specs.declared.status.Status.{Status}
use Rattle.rate_tool.specs.declared.status.Status.TheVariants as status

-- the same command with one worker
abbrev pub with_one_worker : Command → Command
with_one_worker (Derive loops format workers) = Derive loops format 1
with_one_worker (Run key workers) = Run key 1
with_one_worker command = command

-- what words ask for, whatever the number of workers
abbrev pub asked_for : List (List ℕ) → Option Command
asked_for words = option_map with_one_worker (command_of words)

-- The definitions leave open which two fractions are refused because their numbers are too large, and whether any are.
abbrev pub IsSettled : Status → Type 0
IsSettled (status.Overflow pair) = ⊥
IsSettled _ = ⊤

abbrev pub IsSettledReply : Result (List ℕ) Status → Type 0
IsSettledReply (Ok text) = ⊤
IsSettledReply (Err refusal) = IsSettled refusal

-- Commands that differ at most in their workers have one reply over the same bytes and register, a text or a refusal, and leave one register.
abbrev pub CommandHasOneReply : Type 0
CommandHasOneReply =
    (command other : Command) (register : Register) (bytes : List ℕ) (first second : Result (List ℕ) Status) (next after : Register) → with_one_worker command ≡ with_one_worker other
    → IsSettledReply first → IsSettledReply second → IsReply command register bytes first next → IsReply other register bytes second after → (first ≡ second) × (next ≡ after)

-- Words that ask for the same have one status over the same bytes and register, and leave one register.
abbrev pub WordsHaveOneStatus : Type 0
WordsHaveOneStatus =
    (words others : List (List ℕ)) (register : Register) (bytes : List ℕ) (first second : Status) (next after : Register) → asked_for words ≡ asked_for others
    → IsSettled first → IsSettled second → IsDue words register bytes first next → IsDue others register bytes second after → (first ≡ second) × (next ≡ after)
