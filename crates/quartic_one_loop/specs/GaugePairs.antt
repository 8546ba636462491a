-- Pairs of generators on the scalar coordinates, and what they add to the values at four legs.
use Rattle.std.specs.Prelude.{◌≡◌, ◌<◌, ◌≤◌, ◌==◌, ℕ, zero, false, List, [], ◌∷◌, map, length, slice_get, Option, Some, None, option_map}
use Rattle.std.specs.List.{All}
use Rattle.std.specs.Ordering.{nat_cmp}
use Rattle.exact_algebra.specs.Sums.{sum, where_equal}
use Rattle.frac128.specs.Rational.{ℚ, zero_ℚ, one_ℚ, ◌+ℚ◌, ◌*ℚ◌}
use Rattle.beta_poly.specs.Exponents.{AllWithin}
use Rattle.beta_poly.specs.Polynomial.{Polynomial, poly_ring, zero_poly, mul_poly, scale_poly, constant}
use Rattle.sparse_tensor.specs.declared.values.Value.{Value}
use Rattle.sparse_tensor.specs.Tensor.{Tensor, HasValues, rank_of, value}
use Rattle.su_reps.specs.Operators.{fraction}
use Rattle.model_core.specs.declared.generator.Generator.{Generator}
use Rattle.model_core.specs.declared.group.Group.{Group}
use Rattle.model_core.specs.declared.model.Model.{Model}
use Rattle.model_core.specs.GaugeTwoLoop.{gauge_power}
use Rattle.model_core.specs.Generators.{coordinate_generator}
use Rattle.model_core.specs.Invariance.{matrix_at}
use Rattle.model_core.specs.Scalar.{Coordinate, partner, partner_component, scalar_coordinates}
use Rattle.model_core.specs.Scalar.Coordinate.{Of}
use Rattle.gauge_check.specs.Actions.{AreMatrix, IsGenerator}
use Rattle.beta_formulas.specs.ScalarBeta.{FourLegs, generator_weight, opposite, pair_entry, product_entry}
use Rattle.quartic_one_loop.specs.declared.gauges.GaugeFactor.{GaugeFactor}
use Rattle.quartic_one_loop.specs.declared.pairs.GeneratorMatrix.{GeneratorMatrix}

-- ---- matrices of numbers

-- a matrix of numbers over the scalar coordinates
abbrev pub NumberMatrix : Type 0
NumberMatrix = Coordinate → Coordinate → ℚ

-- its number at the first two places of a key whose third place is 0
abbrev pub number_at : Model → NumberMatrix → List ℕ → ℚ
number_at model matrix (a ∷ b ∷ zero ∷ []) = matrix_at matrix (scalar_coordinates model) a b
number_at model matrix _ = zero_ℚ

-- the tensor has the numbers of the matrix, and a third leg
abbrev pub HasNumbers : Model → NumberMatrix → Tensor → Type 0
HasNumbers model matrix tensor = HasValues 3 (λ key. constant (number_at model matrix key)) tensor

-- a matrix with the partner of its first coordinate
abbrev pub at_partner : NumberMatrix → NumberMatrix
at_partner matrix a b = matrix (partner a) b

-- the sum of two
abbrev pub sum_at : NumberMatrix → NumberMatrix → NumberMatrix
sum_at f g a b = f a b +ℚ g a b

-- ---- partners

-- 1 at a place and its partner's place
pub record IsPartnerValue (model : Model) (place : ℕ) (v : Value) : Type 0 where
  pub other : ℕ
  pub partners : slice_get (scalar_coordinates model) other ≡ option_map partner (slice_get (scalar_coordinates model) place)
  pub key_is : v.key ≡ place ∷ other ∷ 0 ∷ []
  pub value_is : v.value ≡ constant one_ℚ

-- one for each of the first places
pub record ArePartnerValues (model : Model) (count : ℕ) (values : List Value) : Type 0 where
  pub count_is : length values ≡ count
  pub each : (place : ℕ) (v : Value) → slice_get values place ≡ Some v → IsPartnerValue model place v

-- 1 at each place of a scalar coordinate, its partner's place and 0
pub record IsPartners (model : Model) (tensor : Tensor) : Type 0 where
  pub rank_is : rank_of tensor ≡ 3
  pub other : ℕ → ℕ
  pub partners : (a : ℕ) → a < length (scalar_coordinates model) → slice_get (scalar_coordinates model) (other a) ≡ option_map partner (slice_get (scalar_coordinates model) a)
  pub inside : (a b k : ℕ) → a < length (scalar_coordinates model) → value tensor (a ∷ b ∷ k ∷ []) ≡ where_equal poly_ring.semiring (nat_cmp b (other a)) (where_equal poly_ring.semiring (nat_cmp k 0) (constant one_ℚ))
  pub outside : (a b k : ℕ) → length (scalar_coordinates model) ≤ a → value tensor (a ∷ b ∷ k ∷ []) ≡ zero_poly

-- ---- generators

-- a generator as links, and at partners
pub record IsGeneratorMatrix (model : Model) (x : Generator) (matrix : GeneratorMatrix) : Type 0 where
  pub links : AreMatrix (coordinate_generator model.groups x) (scalar_coordinates model) matrix.links
  pub at_partners : HasNumbers model (at_partner (coordinate_generator model.groups x)) matrix.at_partners

-- the entry of X Z at (a*, b), and 0 for the dummy
abbrev pub product_at : Model → Generator → Generator → NumberMatrix
product_at model x z (Of a) (Of b) = product_entry model x z (partner_component a) b
product_at model x z _ _ = zero_ℚ

-- the group's coupling squared, with the weight of its generators
abbrev pub group_coupling : ℕ → Group → Polynomial
group_coupling place group = scale_poly (generator_weight group) (gauge_power place 2)

-- that of the group at a place
abbrev pub coupling_or_zero : ℕ → Option Group → Polynomial
coupling_or_zero place (Some group) = group_coupling place group
coupling_or_zero place None = zero_poly

abbrev pub coupling_at : Model → ℕ → Polynomial
coupling_at model place = coupling_or_zero place (slice_get model.groups place)

-- a generator of one of the model's groups, and its opposite
pub record IsOfGroup (model : Model) (x : Generator) : Type 0 where
  pub group : Group
  pub there : slice_get model.groups x.place ≡ Some group
  pub special : (x.i == 0) ≡ false → IsGenerator model.groups x.place x.i x.j
  pub opposite_special : (x.j == 0) ≡ false → IsGenerator model.groups x.place x.j x.i

-- the coupling, the generator and its opposite
pub record IsGaugeFactor (model : Model) (factor : GaugeFactor) : Type 0 where
  pub coupling : factor.coupling ≡ coupling_at model factor.generator.place
  pub within : AllWithin 2 factor.coupling
  pub matrix : IsGeneratorMatrix model factor.generator factor.matrix
  pub opposite : IsGeneratorMatrix model (opposite factor.generator) factor.opposite

-- one for each generator
pub record AreGaugeFactors (model : Model) (xs : List Generator) (factors : List GaugeFactor) : Type 0 where
  pub generators_are : map (λ f. f.generator) factors ≡ xs
  pub each : All (IsGaugeFactor model) factors

-- ---- what is added

-- 3/8 of the product of two couplings
abbrev pub share_factor : Polynomial → Polynomial → Polynomial
share_factor left right = scale_poly (fraction 3 8) (mul_poly left right)

-- what the generators X and Z add: M_XZ(a,b) M_X'Z'(c,d) times their couplings
abbrev pub pair_share : Model → Generator → Generator → FourLegs
pair_share model x z a b c d =
    mul_poly (share_factor (coupling_at model x.place) (coupling_at model z.place))
    (constant (pair_entry model x z a b *ℚ pair_entry model (opposite x) (opposite z) c d))

-- the same of factors
abbrev pub factor_share : Model → GaugeFactor → GaugeFactor → FourLegs
factor_share model left right = pair_share model left.generator right.generator

-- what X adds with all factors
abbrev pub shares_of : Model → List GaugeFactor → GaugeFactor → FourLegs
shares_of model factors left a b c d = sum poly_ring.semiring factors (λ right. factor_share model left right a b c d)
