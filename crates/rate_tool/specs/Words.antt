-- Which lists of words are commands.
use Rattle.std.specs.Prelude.{ℕ, ◌≤◌, nat_le, ◌&&◌, if◌then◌else◌, ⊤, Bool, true, false, List, [], ◌∷◌, map, Option, Some, None, option_map, option_and_then, codes, decimal}
use Rattle.std.specs.Option.{option_or}
use Rattle.std.specs.Str.{bytes_eq}
use Rattle.std.specs.Str.Parse.{digits_value}
use Rattle.std.specs.Rc.{rc_str_bytes}
use Rattle.std.specs.declared.rc.RcStr.{RcStr}
use Rattle.std.specs.declared.alloc.Global.{Global}
use Rattle.model_core.specs.declared.format.Format.{Format}
use Rattle.model_core.specs.declared.format.Format.TheVariants.{Text, Latex, Csv}
use Rattle.rate_tool.specs.declared.words.Command.{Command}
use Rattle.model_core.specs.Name.{is_name}
use Rattle.register_core.specs.Register.{Key, most_versions}
use Rattle.rate_tool.specs.declared.words.Command.TheVariants.{Derive, Check, Store, Show, Listing, Run, Demo}

-- the texts of words
abbrev pub texts : List (RcStr Global) → List (List ℕ)
texts words = map (λ (w : RcStr Global). rc_str_bytes w) words

-- the number whose decimal digits the word is, without a sign or a leading zero
abbrev pub number_of : List ℕ → Option ℕ
number_of word = if bytes_eq word (decimal (digits_value 10 word)) then Some (digits_value 10 word) else None

-- a number from low to high
abbrev pub within : ℕ → ℕ → ℕ → Option ℕ
within low high n = if nat_le low n && nat_le n high then Some n else None

-- the number from low to high that a word stands for
abbrev pub number_in : ℕ → ℕ → List ℕ → Option ℕ
number_in low high word = option_and_then (within low high) (number_of word)

-- `text`, `latex` or `csv`
abbrev pub format_of : List ℕ → Option Format
format_of word =
    if bytes_eq word (codes "text") then Some Text
    else if bytes_eq word (codes "latex") then Some Latex
    else if bytes_eq word (codes "csv") then Some Csv
    else None

-- the name that a word is
abbrev pub named : List ℕ → Option (List ℕ)
named word = if is_name word then Some word else None

-- `derive LOOPS FORMAT WORKERS`, with 1 or 2 loops and 1 to 64 workers
abbrev pub derive_with : ℕ → ℕ → Format → Command
derive_with loops workers format = Derive loops format workers

abbrev pub derive_in : List ℕ → List ℕ → ℕ → Option Command
derive_in format workers loops = option_and_then (λ n. option_map (derive_with loops n) (format_of format)) (number_in 1 64 workers)

abbrev pub derive_of : List ℕ → List ℕ → List ℕ → List ℕ → Option Command
derive_of word loops format workers =
    if bytes_eq word (codes "derive") then option_and_then (derive_in format workers) (number_in 1 2 loops) else None

-- `check`
abbrev pub check_of : List ℕ → Option Command
check_of word = if bytes_eq word (codes "check") then Some Check else None

-- `store NAME`
abbrev pub store_of : List ℕ → List ℕ → Option Command
store_of word name = if bytes_eq word (codes "store") then option_map Store (named name) else None

-- a version that a name may have
abbrev pub version_in : List ℕ → Option ℕ
version_in word = number_in 1 most_versions word

-- `show NAME VERSION`
abbrev pub show_of : List ℕ → List ℕ → List ℕ → Option Command
show_of word name version =
    if bytes_eq word (codes "show") then option_and_then (λ text. option_map (Show text) (version_in version)) (named name) else None

-- `list`
abbrev pub list_of : List ℕ → Option Command
list_of word = if bytes_eq word (codes "list") then Some Listing else None

-- the key of a run
abbrev pub key_with : List ℕ → ℕ → ℕ → Format → Key
key_with name version loops format = record { name = name; version = version; loops = loops; format = format }

abbrev pub key_in : List ℕ → List ℕ → List ℕ → List ℕ → Option Key
key_in version loops format name =
    option_and_then (λ v. option_and_then (λ l. option_map (key_with name v l) (format_of format)) (number_in 1 2 loops)) (version_in version)

abbrev pub key_of : List ℕ → List ℕ → List ℕ → List ℕ → Option Key
key_of name version loops format = option_and_then (key_in version loops format) (named name)

-- `run NAME VERSION LOOPS FORMAT WORKERS`, with the numbers of `show` and `derive`
abbrev pub run_of : List ℕ → List ℕ → List ℕ → List ℕ → List ℕ → List ℕ → Option Command
run_of word name version loops format workers =
    if bytes_eq word (codes "run") then option_and_then (λ key. option_map (Run key) (number_in 1 64 workers)) (key_of name version loops format) else None

-- `demo SEED`, with a seed of 64 bits
abbrev pub demo_of : List ℕ → List ℕ → Option Command
demo_of word seed = if bytes_eq word (codes "demo") then option_map Demo (number_in 0 18446744073709551615 seed) else None

-- the command that words are
abbrev pub command_of : List (List ℕ) → Option Command
command_of (word ∷ []) = option_or (check_of word) (list_of word)
command_of (word ∷ one ∷ []) = option_or (store_of word one) (demo_of word one)
command_of (word ∷ name ∷ version ∷ []) = show_of word name version
command_of (word ∷ loops ∷ format ∷ workers ∷ []) = derive_of word loops format workers
command_of (word ∷ name ∷ version ∷ loops ∷ format ∷ workers ∷ []) = run_of word name version loops format workers
command_of _ = None

-- the numbers of a command are within their bounds
pub record AreWithin (loops workers : ℕ) : Type 0 where
  pub least_loops : 1 ≤ loops
  pub most_loops : loops ≤ 2
  pub least_workers : 1 ≤ workers
  pub most_workers : workers ≤ 64

abbrev pub HasNumbers : Command → Type 0
HasNumbers (Derive loops format workers) = AreWithin loops workers
HasNumbers (Run key workers) = AreWithin key.loops workers
HasNumbers _ = ⊤

-- whether a command reads the source
abbrev pub reads_source : Command → Bool
reads_source (Derive loops format workers) = true
reads_source Check = true
reads_source (Store name) = true
reads_source _ = false

-- whether a command asks the keeper
abbrev pub asks_keeper : Command → Bool
asks_keeper (Store name) = true
asks_keeper (Show name version) = true
asks_keeper Listing = true
asks_keeper (Run key workers) = true
asks_keeper _ = false
