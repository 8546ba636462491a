-- The parameters of the statements, and what rows stand for.
use Rattle.std.specs.Prelude.{ℕ, ◌+◌, ◌&&◌, ◌==◌, nat_le, if◌then◌else◌, Bool, true, false, List, [], ◌∷◌, length, Option, Some, None, option_map, option_and_then, codes, pos}
use Rattle.sqlite_value.specs.declared.value.Value.{Value}
use Rattle.sqlite_value.specs.declared.value.Value.TheVariants.{Int, Text, Blob}
use Rattle.sqlite_value.specs.Order.{Row, column}
use Rattle.model_core.specs.declared.format.Format.{Format}
use Rattle.model_core.specs.declared.format.Format.TheVariants as format
use Rattle.model_core.specs.Name.{is_name}
use Rattle.register_core.specs.Register.{Key, most_versions}

-- ---- parameters

-- the word of a format
abbrev pub format_word : Format → List ℕ
format_word format.Text = codes "text"
format_word format.Latex = codes "latex"
format_word format.Csv = codes "csv"

-- a name
abbrev pub name_values : List ℕ → Row
name_values name = Text name ∷ []

-- a version
abbrev pub version_values : List ℕ → ℕ → Row
version_values name version = Text name ∷ Int (pos version) ∷ []

-- a version and its bytes
abbrev pub model_values : List ℕ → ℕ → List ℕ → Row
model_values name version bytes = Text name ∷ Int (pos version) ∷ Blob bytes ∷ []

-- the key of a run
abbrev pub key_values : Key → Row
key_values k = Text k.name ∷ Int (pos k.version) ∷ Int (pos k.loops) ∷ Text (format_word k.format) ∷ []

-- a run and its bytes
abbrev pub run_values : Key → List ℕ → Row
run_values k bytes = Text k.name ∷ Int (pos k.version) ∷ Int (pos k.loops) ∷ Text (format_word k.format) ∷ Blob bytes ∷ []

-- ---- rows

-- a text that is a name
abbrev pub name_of : Value → Option (List ℕ)
name_of (Text text) = if is_name text then Some text else None
name_of _ = None

-- the bytes of a blob
abbrev pub blob_of : Value → Option (List ℕ)
blob_of (Blob bytes) = Some bytes
blob_of _ = None

-- whether it is this whole number
abbrev pub is_number : ℕ → Value → Bool
is_number number (Int (pos n)) = n == number
is_number number _ = false

-- the names that rows of one column stand for, where each is a name
abbrev pub names_in : List Row → Option (List (List ℕ))
names_in [] = Some []
names_in (shown ∷ rows) = option_and_then (λ name. option_map (λ names. name ∷ names) (names_in rows)) (name_of (column shown 0))

-- whether rows of one column are the whole numbers from this one on
abbrev pub are_numbers : ℕ → List Row → Bool
are_numbers number [] = true
are_numbers number (shown ∷ rows) = is_number number (column shown 0) && are_numbers (number + 1) rows

-- the number of versions, where they are the whole numbers from 1 on, and not too many
abbrev pub count_in : List Row → Option ℕ
count_in rows = if nat_le (length rows) most_versions then (if are_numbers 1 rows then Some (length rows) else None) else None

-- the bytes of the first row, where it is a blob, and nothing where there is no row
abbrev pub bytes_in : List Row → Option (Option (List ℕ))
bytes_in [] = Some None
bytes_in (shown ∷ rows) = option_map Some (blob_of (column shown 0))
