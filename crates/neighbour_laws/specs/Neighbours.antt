-- The generators that suffice to test gauge invariance: the charge of the U(1), and X_ij with j = i + 1 or i = j + 1.
use Rattle.std.specs.Prelude.{◌≡◌, ⊤, ℕ, ◌+◌, ◌-◌, ◌<◌, ◌≤◌, if◌then◌else◌, List, [], ◌∷◌, length}
use Rattle.std.specs.List.{flat_map, range_with_len, enumerate_from}
use Rattle.frac128.specs.Rational.{zero_ℚ}
use Rattle.model_core.specs.declared.group.Group.{Group}
use Rattle.model_core.specs.declared.generator.Generator.{Generator}
use Rattle.model_core.specs.declared.model.Model.{Model}
use Rattle.model_core.specs.Scalar.{Coordinate}
use Rattle.model_core.specs.Directions.{Direction}
use Rattle.model_core.specs.Groups.{is_abelian}
use Rattle.model_core.specs.Generators.{charge_generator}
use Rattle.model_core.specs.Invariance.{change, legs_on}

-- ---- unchanged directions

-- a key of some legs: a place of each
abbrev pub IsKey : List (List Coordinate) → List ℕ → Type 0
IsKey [] [] = ⊤
IsKey (leg ∷ legs) (place ∷ key) = (place < length leg) × IsKey legs key
IsKey legs key = ⊥

-- a generator doesn't change a direction on a side of its block
abbrev pub IsUnchanged : Model → Direction → ℕ → Generator → Type 0
IsUnchanged model direction side x = (key : List ℕ) → IsKey (legs_on model direction.kind side) key → change model direction x (side ∷ key) ≡ zero_ℚ

-- ---- neighbours

-- X_ij of the SU(n) at a place
abbrev pub special_generator : ℕ → ℕ → ℕ → Generator
special_generator place i j = record { place = place; i = i; j = j }

-- the two with i and i + 1
abbrev pub neighbours_at : ℕ → ℕ → List Generator
neighbours_at place i = special_generator place i (i + 1) ∷ special_generator place (i + 1) i ∷ []

-- those of an SU(n), by i
abbrev pub special_neighbours : ℕ → ℕ → List Generator
special_neighbours place n = flat_map (neighbours_at place) (range_with_len 1 (n - 1))

-- those of a group at its place
abbrev pub neighbours_of : ℕ × Group → List Generator
neighbours_of at = if is_abelian at.1 then charge_generator at.0 ∷ [] else special_neighbours at.0 at.1.n

-- those of all groups of a model
abbrev pub neighbours : Model → List Generator
neighbours model = flat_map neighbours_of (enumerate_from 0 model.groups)

-- the neighbouring X_ij of the SU(n) at a place don't change a direction on a side of its block
abbrev pub AreUnchanged : Model → Direction → ℕ → ℕ → ℕ → Type 0
AreUnchanged model direction side place n =
    (i : ℕ) → 1 ≤ i → i < n → IsUnchanged model direction side (special_generator place i (i + 1)) × IsUnchanged model direction side (special_generator place (i + 1) i)
