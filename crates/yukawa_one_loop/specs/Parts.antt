-- The parts of a beta function as they are summed.
use Rattle.std.specs.Prelude.{◌≡◌, ◌<◌, ℕ, pos, List, map, length, get_or, take, slice_get, Some}
use Rattle.std.specs.List.{enumerate_from}
use Rattle.exact_algebra.specs.Sums.{sum}
use Rattle.frac128.specs.Rational.{zero_ℚ, whole, neg_ℚ, ◌+ℚ◌}
use Rattle.beta_poly.specs.Monomial.{power}
use Rattle.beta_poly.specs.Polynomial.{Polynomial, poly_ring, mul_poly, scale_poly, term as poly_term}
use Rattle.sparse_tensor.specs.declared.values.Value.{Value}
use Rattle.sparse_tensor.specs.Tensor.{Tensor, entries_of}
use Rattle.model_core.specs.declared.group.Group.{Group}
use Rattle.model_core.specs.declared.model.Model.{Model}
use Rattle.model_core.specs.Component.{fermion_components}
use Rattle.model_core.specs.GaugeBeta.{casimir_at}
use Rattle.model_core.specs.GaugeTwoLoop.{gauge_symbol}
use Rattle.model_core.specs.Scalar.{Coordinate, scalar_components, scalar_coordinates}
use Rattle.model_core.specs.Scalar.Coordinate.{Dummy}
use Rattle.model_core.specs.Valid.{IsValid}
use Rattle.beta_formulas.specs.YukawaBeta.{Matrix, yukawa, conjugate, times, beta_matrix}
use Rattle.yukawa_one_loop.specs.declared.gauges.GaugeLine.{GaugeLine}
use Rattle.yukawa_one_loop.specs.declared.lines.Lines.{Lines}
use Rattle.yukawa_one_loop.specs.Matrices.{HaveMatrices, IsMatrix, identity_links}

-- ---- coordinates and products

-- the scalar coordinate at a place
abbrev pub coordinate_at : Model → ℕ → Coordinate
coordinate_at model place = get_or (scalar_coordinates model) place Dummy

-- Y[a] Yd[b] Y[c]
abbrev pub chain : Model → Coordinate → Coordinate → Coordinate → Matrix
chain model a b c = times model (times model (yukawa model a) (conjugate model b)) (yukawa model c)

-- ---- the gauge part

-- minus 3 g_k^2
abbrev pub gauge_factor : ℕ → Polynomial
gauge_factor place = poly_term (power (gauge_symbol place) 2) (neg_ℚ (whole (pos 3)))

-- a group's factor and the Casimirs of all fermion components
abbrev pub gauge_line : Model → ℕ × Group → GaugeLine
gauge_line model g = record { casimirs = map (casimir_at g.1 g.0) (fermion_components model); factor = gauge_factor g.0 }

-- the factor times the sum of the Casimirs at the two places of a key
abbrev pub weight_at : GaugeLine → List ℕ → Polynomial
weight_at line key =
    scale_poly (get_or line.casimirs (get_or key 0 0) zero_ℚ +ℚ get_or line.casimirs (get_or key 1 0) zero_ℚ) line.factor

-- the entries of a matrix times these
abbrev pub weighted : GaugeLine → List ℕ × Polynomial → Value
weighted line e = record { key = e.0; value = mul_poly (weight_at line e.0) e.1 }

abbrev pub weighted_values : GaugeLine → Tensor → List Value
weighted_values line matrix = map (weighted line) (entries_of matrix)

-- both places of each key are below n
abbrev pub IsInside : ℕ → List ℕ × Polynomial → Type 0
IsInside n e = (get_or e.0 0 0 < n) × (get_or e.0 1 0 < n)

-- what a group gives: minus 3 g_k^2 (C_k Y[a] + Y[a] C_k)
abbrev pub group_part : Model → Coordinate → ℕ × Group → Matrix
group_part model a g j k =
    mul_poly (scale_poly (casimir_at g.1 g.0 j +ℚ casimir_at g.1 g.0 k) (gauge_factor g.0)) (yukawa model a j k)

-- what the first groups give
abbrev pub first_groups : ℕ → Model → Coordinate → Matrix
first_groups count model a j k =
    sum poly_ring.semiring (take count (enumerate_from 0 model.groups)) (λ g. group_part model a g j k)

-- ---- what the parts are made of

-- the links, matrices, groups and counts of a valid model
pub record IsLines (lines : Lines) : Type 0 where
  pub valid : IsValid lines.model.now
  pub links : lines.links ≡ identity_links (length (fermion_components lines.model.now))
  pub matrices : HaveMatrices lines.model.now lines.matrices
  pub gauges : lines.gauges ≡ map (gauge_line lines.model.now) (enumerate_from 0 lines.model.now.groups)
  pub fermions : lines.fermions ≡ length (fermion_components lines.model.now)
  pub dummy : lines.dummy ≡ length (scalar_components lines.model.now)

-- ---- beta functions

-- the beta matrices at the first scalar coordinates
pub record AreBetas (model : Model) (n : ℕ) (tensors : List Tensor) : Type 0 where
  pub count : length tensors ≡ n
  pub each : (a : ℕ) (t : Tensor) → slice_get tensors a ≡ Some t → IsMatrix model (beta_matrix model (coordinate_at model a)) t
