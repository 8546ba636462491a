-- Coordinates: polynomials with which the directions of a block add up to a tensor.
use Rattle.std.specs.Prelude.{◌≡◌, ℕ, List, ◌∷◌, length}
use Rattle.std.proofs.Common.{Less}
use Rattle.exact_algebra.specs.TensorContraction.{places_cmp}
use Rattle.beta_poly.specs.Polynomial.{Polynomial, zero_poly, add_poly, scale_poly}
use Rattle.span_solver.specs.Dependence.{Numbers}

-- directions times polynomials, added up at a key
abbrev pub moved : List Polynomial → List Numbers → List ℕ → Polynomial
moved (coordinate ∷ coordinates) (direction ∷ directions) key =
    add_poly (scale_poly (direction key) coordinate) (moved coordinates directions key)
moved _ _ key = zero_poly

-- one polynomial for each direction, with which the directions add up to the tensor at every key
pub record AreCoordinates (directions : List Numbers) (tensor : List ℕ → Polynomial) (coordinates : List Polynomial) : Type 0 where
  pub many : length coordinates ≡ length directions
  pub adds : (key : List ℕ) → moved coordinates directions key ≡ tensor key

-- the same at every key before one
pub record AreCoordinatesBefore (directions : List Numbers) (tensor : List ℕ → Polynomial) (end : List ℕ) (coordinates : List Polynomial) : Type 0 where
  pub many : length coordinates ≡ length directions
  pub adds : (key : List ℕ) → places_cmp key end ≡ Less → moved coordinates directions key ≡ tensor key

-- The first key such that no polynomials solve the equations up to it: some solve those before it, and none of these the one at it.
pub record IsOpenAt (directions : List Numbers) (tensor : List ℕ → Polynomial) (key : List ℕ) : Type 0 where
  pub coordinates : List Polynomial
  pub before : AreCoordinatesBefore directions tensor key coordinates
  pub none : (others : List Polynomial) → AreCoordinatesBefore directions tensor key others → ¬ (moved others directions key ≡ tensor key)
