-- Matrices over the fermion components as sparse tensors of two legs.
use Rattle.std.specs.Prelude.{⊤, ℕ, List, [], ◌∷◌, map, take}
use Rattle.std.specs.List.{All, range_with_len}
use Rattle.exact_algebra.specs.Sums.{sum}
use Rattle.frac128.specs.Rational.{one_ℚ}
use Rattle.beta_poly.specs.Exponents.{AllWithin}
use Rattle.beta_poly.specs.Polynomial.{Polynomial, poly_ring, zero_poly}
use Rattle.sparse_tensor.specs.declared.links.Link.{Link}
use Rattle.sparse_tensor.specs.declared.values.Value.{Value}
use Rattle.sparse_tensor.specs.Tensor.{Tensor, HasValues, entries_of}
use Rattle.model_core.specs.declared.model.Model.{Model}
use Rattle.model_core.specs.Scalar.{Coordinate, scalar_components, scalar_coordinates}
use Rattle.model_core.specs.Scalar.Coordinate.{Of}
use Rattle.model_core.specs.TermTensor.{fermion_coordinates, at_places}
use Rattle.term_expand.specs.Expansion.{AddsValues}
use Rattle.beta_formulas.specs.YukawaBeta.{Matrix, yukawa, conjugate}
use Rattle.yukawa_one_loop.specs.declared.matrices.YukawaMatrices.{YukawaMatrices}

-- a matrix at two components, and at the places of a key
abbrev pub entry_at : Matrix → List Coordinate → Polynomial
entry_at matrix (Of j ∷ Of k ∷ []) = matrix j k
entry_at matrix _ = zero_poly

abbrev pub matrix_at : Model → Matrix → List ℕ → Polynomial
matrix_at model matrix = at_places zero_poly (fermion_coordinates model ∷ fermion_coordinates model ∷ []) (entry_at matrix)

-- the tensor has the entries of the matrix
abbrev pub IsMatrix : Model → Matrix → Tensor → Type 0
IsMatrix model matrix tensor = HasValues 2 (matrix_at model matrix) tensor

-- no symbol has an exponent above n in a value of the tensor
abbrev pub AreWithin : ℕ → Tensor → Type 0
AreWithin n tensor = All (λ e. AllWithin n e.1) (entries_of tensor)

-- values with the keys of matrices that add up to one matrix more
abbrev pub AddsMatrix : Model → Matrix → List Value → List Value → Type 0
AddsMatrix model matrix old new = AddsValues 2 (matrix_at model matrix) old new

-- ---- the Yukawa matrices

-- the tensor has the entries of the matrix, and no symbol twice in a value
pub record IsLinear (model : Model) (matrix : Matrix) (tensor : Tensor) : Type 0 where
  pub entries : IsMatrix model matrix tensor
  pub within : AreWithin 1 tensor

-- one for each coordinate
abbrev pub AreMatrices : Model → (Coordinate → Matrix) → List Coordinate → List Tensor → Type 0
AreMatrices model matrices [] [] = ⊤
AreMatrices model matrices (a ∷ coordinates) (tensor ∷ tensors) = IsLinear model (matrices a) tensor × AreMatrices model matrices coordinates tensors
AreMatrices _ _ _ _ = ⊥

-- Y[a] and Yd[a] at each scalar coordinate a
pub record HaveMatrices (model : Model) (matrices : YukawaMatrices) : Type 0 where
  pub plain : AreMatrices model (yukawa model) (scalar_coordinates model) matrices.plain
  pub conjugate : AreMatrices model (conjugate model) (scalar_coordinates model) matrices.conjugate

-- ---- sums

-- the links from each of n places to itself
abbrev pub identity_links : ℕ → List Link
identity_links n = map (λ i. record { from = i; to = i; value = one_ℚ }) (range_with_len 0 n)

-- the sum of matrices over the first scalar components
abbrev pub over_first : ℕ → Model → (Coordinate → Matrix) → Matrix
over_first count model matrices j k = sum poly_ring.semiring (take count (scalar_components model)) (λ c. matrices (Of c) j k)
