-- What a keeper of model files and outputs keeps.
use Rattle.std.specs.Prelude.{ℕ, ◌-◌, ◌≤◌, nat_lt, if◌then◌else◌, List, [], ◌∷◌, ◌++◌, slice_get, Option, None, unwrap_or, is_some}
use Rattle.std.specs.declared.cmp.Ordering.{Ordering}
use Rattle.std.specs.Ordering.{nat_cmp, on, then_cmp}
use Rattle.std.specs.Cmp.Lexicographic.{slice_cmp}
use Rattle.std.specs.FinMap.{FinMap, empty, get, insert}
use Rattle.model_core.specs.declared.format.Format.{Format}
use Rattle.model_core.specs.declared.format.Format.TheVariants as format

-- the order of names, by their bytes
abbrev pub name_cmp : List ℕ → List ℕ → Ordering
name_cmp = slice_cmp nat_cmp

-- the place of a format among the three
abbrev pub format_place : Format → ℕ
format_place format.Text = 0
format_place format.Latex = 1
format_place format.Csv = 2

-- the key of a run: the model's name and version, the loops and the format
pub record Key : Type 0 where
  pub name : List ℕ
  pub version : ℕ
  pub loops : ℕ
  pub format : Format

-- a run has one loop or two
abbrev pub HasLoops : Key → Type 0
HasLoops key = (1 ≤ key.loops) × (key.loops ≤ 2)

-- by name, then by version, loops and format
abbrev pub key_cmp : Key → Key → Ordering
key_cmp = then_cmp (on (λ k. k.name) name_cmp) (then_cmp (on (λ k. k.version) nat_cmp) (then_cmp (on (λ k. k.loops) nat_cmp) (on (λ k. format_place k.format) nat_cmp)))

-- the names in byte order, each with its versions from the first, and the runs that are kept, at most one of each key
pub record Register : Type 0 where
  pub models : FinMap name_cmp (List (List ℕ))
  pub runs : FinMap key_cmp (List ℕ)

-- the register that has no name
abbrev pub opening : Register
opening = record { models = empty; runs = empty }

-- the most versions that a name may have
abbrev pub most_versions : ℕ
most_versions = 10000

-- the versions of a name, none where it isn't there
abbrev pub versions_of : Register → List ℕ → List (List ℕ)
versions_of register name = unwrap_or (get register.models name) []

-- the bytes of a version, counted from 1
abbrev pub version_of : Register → List ℕ → ℕ → Option (List ℕ)
version_of register name version = if nat_lt 0 version then slice_get (versions_of register name) (version - 1) else None

-- the run that is kept under a key
abbrev pub run_of : Register → Key → Option (List ℕ)
run_of register key = get register.runs key

-- the register with one version more
abbrev pub with_version : Register → List ℕ → List ℕ → Register
with_version register name bytes = record register { models = insert register.models name (versions_of register name ++ bytes ∷ []) }

-- the register with the run, where its key has none yet
abbrev pub with_run : Register → Key → List ℕ → Register
with_run register key bytes = if is_some (run_of register key) then register else record register { runs = insert register.runs key bytes }
