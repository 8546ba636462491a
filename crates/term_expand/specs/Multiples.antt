-- Tensors of numbers at their places, and the values that their entries give to other tensors.
use Rattle.std.specs.Prelude.{◌≡◌, ◌<◌, ◌≤◌, ℕ, List, ◌∷◌, map, slice_get, option_map, Some}
use Rattle.frac128.specs.Rational.{zero_ℚ}
use Rattle.beta_poly.specs.declared.symbol.Symbol.{Symbol}
use Rattle.beta_poly.specs.Monomial.{one_monomial}
use Rattle.beta_poly.specs.Polynomial.{Polynomial, constant, coefficient_of}
use Rattle.sparse_tensor.specs.declared.values.Value.{Value}
use Rattle.sparse_tensor.specs.Tensor.{Tensor, HasValues, entries_of}
use Rattle.model_core.specs.declared.model.Model.{Model}
use Rattle.model_core.specs.declared.term.TermKind.{TermKind}
use Rattle.model_core.specs.declared.term.TermKind.TheVariants.{Fermion, Scalar}
use Rattle.model_core.specs.Scalar.{Coordinate, partner}
use Rattle.model_core.specs.TermTensor.{Numbers, legs_of, coordinates_at, at_places}
use Rattle.model_core.specs.Directions.{multiple}
use Rattle.term_expand.specs.Texts.{leg_count}

-- the tensor of a kind of terms has these numbers
abbrev pub HasNumbers : Model → TermKind → Numbers → Tensor → Type 0
HasNumbers model kind f tensor =
    HasValues (leg_count kind) (λ key. constant (at_places zero_ℚ (legs_of model kind) f key)) tensor

-- an entry times a symbol
abbrev pub multiple_entry : Symbol → List ℕ × Polynomial → Value
multiple_entry symbol e = record { key = e.0; value = multiple symbol (coefficient_of e.1 one_monomial) }

abbrev pub multiples : Symbol → Tensor → List Value
multiples symbol tensor = map (multiple_entry symbol) (entries_of tensor)

-- an entry on a side of a block
abbrev pub entry_on_side : ℕ → List ℕ × Polynomial → Value
entry_on_side side e = record { key = side ∷ e.0; value = e.1 }

abbrev pub values_on_side : ℕ → Tensor → List Value
values_on_side side tensor = map (entry_on_side side) (entries_of tensor)

-- the coordinates with the partners of scalars
abbrev pub partners : TermKind → List Coordinate → List Coordinate
partners Fermion (j ∷ k ∷ scalars) = j ∷ k ∷ map partner scalars
partners Fermion cs = cs
partners Scalar scalars = map partner scalars

-- the first leg that is a scalar's
abbrev pub first_scalar : TermKind → ℕ
first_scalar Fermion = 2
first_scalar Scalar = 0

-- the place of a key at a leg, or that of its partner from the first leg of a scalar on
pub record IsPlace (coordinates : List Coordinate) (first leg place found : ℕ) : Type 0 where
  pub before : leg < first → found ≡ place
  pub behind : first ≤ leg → slice_get coordinates found ≡ option_map partner (slice_get coordinates place)

-- each place of a key is one of its leg
pub record HasCoordinates (model : Model) (kind : TermKind) (key : List ℕ) : Type 0 where
  pub coordinates : List Coordinate
  pub at : coordinates_at (legs_of model kind) key ≡ Some coordinates

-- it has the numbers of some function
pub record HasSomeNumbers (model : Model) (kind : TermKind) (tensor : Tensor) : Type 0 where
  pub numbers : Numbers
  pub has : HasNumbers model kind numbers tensor
