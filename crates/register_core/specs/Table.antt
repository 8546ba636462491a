-- Lists of entries in the order of their keys, as tables in memory keep them.
use Rattle.std.specs.Prelude.{◌≡◌, ℕ, ◌<◌, ◌≤◌, List, length, Result, Ok, Err}
use Rattle.std.specs.declared.cmp.Ordering.{Ordering}
use Rattle.std.specs.declared.cmp.Ordering.TheVariants.{Less, Equal, Greater}
use Rattle.std.specs.List.{AllByRecursion, HoldsAt}
use Rattle.std.specs.List.Sorted.{IsPartitionPoint}
use Rattle.register_core.specs.Register.{most_versions}

-- A key stands at a place, or belongs at one: the keys before are less, and those from it on greater.
abbrev pub IsPlace : {K X : Type 0} → (K → K → Ordering) → List (K × X) → K → Result ℕ ℕ → Type 0
IsPlace R entries key (Ok place) = (place < length entries) × HoldsAt (λ e. R e.0 key ≡ Equal) entries place
IsPlace R entries key (Err place) = (place ≤ length entries) × IsPartitionPoint (λ e. R e.0 key ≡ Less) (λ e. R e.0 key ≡ Greater) entries place

-- no name has too many versions
abbrev pub AllShort : List (List ℕ × List (List ℕ)) → Type 0
AllShort models = AllByRecursion (λ model. length model.1 ≤ most_versions) models
