-- Directions that are combinations of earlier ones. A direction is a tensor of numbers, as a function of its keys.
use Rattle.std.specs.Prelude.{◌≡◌, ℕ, List, ◌∷◌, length, take, slice_get, Some}
use Rattle.frac128.specs.Rational.{ℚ, zero_ℚ, ◌+ℚ◌, ◌*ℚ◌}

-- the numbers of a tensor, at its keys
abbrev pub Numbers : Type 0
Numbers = List ℕ → ℚ

-- directions times fractions, added up at a key
abbrev pub combined : List ℚ → List Numbers → Numbers
combined (factor ∷ factors) (direction ∷ directions) key = factor *ℚ direction key +ℚ combined factors directions key
combined _ _ key = zero_ℚ

-- Fractions exist, one for each earlier direction, with which these add up to the direction at every key. So the zero direction is
-- dependent, also where none is earlier.
pub record IsDependent (earlier : List Numbers) (direction : Numbers) : Type 0 where
  pub fractions : List ℚ
  pub many : length fractions ≡ length earlier
  pub adds : (key : List ℕ) → direction key ≡ combined fractions earlier key

-- the direction at a place is dependent on the ones before it
pub record IsDependentAt (directions : List Numbers) (place : ℕ) : Type 0 where
  pub direction : Numbers
  pub stands : slice_get directions place ≡ Some direction
  pub dependent : IsDependent (take place directions) direction

-- none is dependent on the ones before it
abbrev pub AreIndependent : List Numbers → Type 0
AreIndependent directions = (place : ℕ) → ¬ IsDependentAt directions place
