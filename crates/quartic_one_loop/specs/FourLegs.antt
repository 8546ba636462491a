-- Functions of four scalar legs as tensors, and the sums of values that make them.
use Rattle.std.specs.Prelude.{◌≡◌, ◌≢◌, ⊤, ℕ, List, [], take, slice_get, Some}
use Rattle.std.specs.List.{All}
use Rattle.exact_algebra.specs.Sums.{sum}
use Rattle.beta_poly.specs.Exponents.{AllWithin}
use Rattle.beta_poly.specs.Polynomial.{Polynomial, poly_ring, zero_poly}
use Rattle.beta_poly.specs.Refusals.{IsRefusedPair}
use Rattle.sparse_tensor.specs.declared.fault.TensorFault.{TensorFault}
use Rattle.sparse_tensor.specs.declared.fault.TensorFault.TheVariants.{Overflow, NoMemory}
use Rattle.sparse_tensor.specs.declared.values.Value.{Value}
use Rattle.sparse_tensor.specs.Tensor.{Tensor, HasValues, entries_of}
use Rattle.model_core.specs.declared.model.Model.{Model}
use Rattle.model_core.specs.declared.term.TermKind.TheVariants.{Scalar}
use Rattle.model_core.specs.Directions.{yukawa_at, scalar_at}
use Rattle.model_core.specs.Scalar.{Coordinate, scalar_components, scalar_coordinates}
use Rattle.model_core.specs.Scalar.Coordinate.{Of}
use Rattle.model_core.specs.TermTensor.{legs_of, at_places}
use Rattle.term_expand.specs.Expansion.{AddsValues}
use Rattle.beta_formulas.specs.ScalarBeta.{FourLegs, at_four}

-- a function of four scalar legs at the places of a key
abbrev pub four_at : Model → FourLegs → List ℕ → Polynomial
four_at model f = at_places zero_poly (legs_of model Scalar) (at_four f)

-- values with keys of four places that add up to one function more
abbrev pub AddsFour : Model → FourLegs → List Value → List Value → Type 0
AddsFour model f old new = AddsValues 4 (four_at model f) old new

-- a coordinate that a scalar leg of the model may have
pub record IsLeg (model : Model) (a : Coordinate) : Type 0 where
  pub place : ℕ
  pub there : slice_get (scalar_coordinates model) place ≡ Some a

-- the sum over the first elements of a list of a function of an element and of four legs
abbrev pub first_of : {A : Type 0} → ℕ → List A → (A → FourLegs) → FourLegs
first_of count xs f a b c d = sum poly_ring.semiring (take count xs) (λ x. f x a b c d)

-- the same over the first scalar components
abbrev pub over_first : ℕ → Model → (Coordinate → FourLegs) → FourLegs
over_first count model f = first_of count (scalar_components model) (λ c. f (Of c))

-- no symbol has an exponent above n in a value of the tensor
abbrev pub AreWithin : ℕ → Tensor → Type 0
AreWithin n tensor = All (λ e. AllWithin n e.1) (entries_of tensor)

-- the Yukawa tensor and the scalar tensor of a model, which have no symbol twice in a value
pub record IsYukawa (model : Model) (tensor : Tensor) : Type 0 where
  pub values : HasValues 3 (yukawa_at model) tensor
  pub within : AreWithin 1 tensor

pub record IsQuartic (model : Model) (tensor : Tensor) : Type 0 where
  pub values : HasValues 4 (scalar_at model) tensor
  pub within : AreWithin 1 tensor

-- a refused sum or product where the model has a scalar field; want of memory says nothing
abbrev pub IsScalarRefusal : Model → TensorFault → Type 0
IsScalarRefusal model (Overflow pair) = (model.scalars ≢ []) × IsRefusedPair pair.a pair.b
IsScalarRefusal model NoMemory = ⊤
