-- What is told of a tensor is unique: an open key is, and excludes coordinates.
use Rattle.std.specs.Prelude.{◌≡◌, ℕ, List}
use Rattle.beta_poly.specs.Polynomial.{Polynomial}
use Rattle.span_solver.specs.Coordinate.{AreCoordinates, IsOpenAt}
use Rattle.span_solver.specs.Dependence.{Numbers}

-- a tensor has at most one open key
abbrev pub OpenKeyIsUnique : Type 0
OpenKeyIsUnique = (directions : List Numbers) (tensor : List ℕ → Polynomial) (first second : List ℕ) → IsOpenAt directions tensor first → IsOpenAt directions tensor second → first ≡ second

-- one with an open key has no coordinates
abbrev pub OpenKeyExcludesCoordinates : Type 0
OpenKeyExcludesCoordinates = (directions : List Numbers) (tensor : List ℕ → Polynomial) (key : List ℕ) (coordinates : List Polynomial) → IsOpenAt directions tensor key → ¬ AreCoordinates directions tensor coordinates
