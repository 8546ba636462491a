-- The parts of a beta function from the sums over scalar components.
use Rattle.std.specs.Prelude.{◌≡◌, ◌<◌, ◌≤◌, ℕ, pos, List, length, get_or}
use Rattle.std.proofs.Common.{refl, sym, subst}
use Rattle.frac128.specs.Rational.{ℚ, whole}
use Rattle.beta_poly.specs.Polynomial.{poly_ring, zero_poly, add_poly, mul_poly, scale_poly, constant}
use Rattle.su_reps.specs.Operators.{fraction}
use Rattle.sparse_tensor.specs.declared.values.Value.{Value}
use Rattle.model_core.specs.declared.model.Model.{Model}
use Rattle.model_core.specs.Component.{Component}
use Rattle.model_core.specs.GaugeTwoLoop.{negative}
use Rattle.model_core.specs.Scalar.{Coordinate, partner, scalar_components}
use Rattle.model_core.specs.Scalar.Coordinate.{Of, Dummy}
use Rattle.beta_formulas.specs.YukawaBeta.{Matrix, yukawa, leg_line, leg_part, vertex_line, vertex_part, scalar_square, scalar_part, gauge_part, beta_matrix}
use Rattle.yukawa_one_loop.specs.Matrices.{AddsMatrix, over_first}
use Rattle.yukawa_one_loop.specs.Parts.{coordinate_at}
use Rattle.yukawa_one_loop.proofs.Adding.{adds_same, adds_none, adds_both, over_all, scaled_all}
use Rattle.yukawa_one_loop.proofs.Coordinates.{nobody, coordinate_first, coordinate_dummy}

module _ (model : Model) where
  -- multiples of two matrices
  pub adds_pair : (c : ℚ) (A B : Matrix) (old now new : List Value) → AddsMatrix model (λ j k. scale_poly c (A j k)) old now → AddsMatrix model (λ j k. scale_poly c (B j k)) now new → AddsMatrix model (λ j k. scale_poly c (add_poly (A j k) (B j k))) old new
  adds_pair c A B old now new first second =
      adds_same model (λ j k. add_poly (scale_poly c (A j k)) (scale_poly c (B j k))) (λ j k. scale_poly c (add_poly (A j k) (B j k))) old new
      (λ j k. sym (poly_ring.semiring.mul_add (constant c) (A j k) (B j k)))
      (adds_both model (λ j k. scale_poly c (A j k)) (λ j k. scale_poly c (B j k)) old now new first second)

  pub legs_all : (a : Coordinate) (n : ℕ) (old new : List Value) → length (scalar_components model) ≤ n → AddsMatrix model (λ j k. scale_poly (fraction 1 2) (over_first n model (leg_line model a) j k)) old new → AddsMatrix model (leg_part model a) old new
  unfolding leg_part
  legs_all a n old new past so_far = scaled_all model (leg_line model a) (fraction 1 2) n old new past so_far

  pub vertices_all : (a : Coordinate) (n : ℕ) (old new : List Value) → length (scalar_components model) ≤ n → AddsMatrix model (λ j k. scale_poly (whole (pos 2)) (over_first n model (vertex_line model a) j k)) old new → AddsMatrix model (vertex_part model a) old new
  unfolding vertex_part
  vertices_all a n old new past so_far = scaled_all model (vertex_line model a) (whole (pos 2)) n old new past so_far

  -- S2(a, b*) Y[b]
  abbrev pub scalar_line : Coordinate → Coordinate → Matrix
  scalar_line a b j k = mul_poly (scalar_square model a (partner b)) (yukawa model b j k)

  scalars_of : (c : Component) (n : ℕ) (old new : List Value) → length (scalar_components model) ≤ n → AddsMatrix model (over_first n model (scalar_line (Of c))) old new → AddsMatrix model (scalar_part model (Of c)) old new
  unfolding scalar_part
  scalars_of c n old new past so_far = over_all model (scalar_line (Of c)) n old new past so_far

  pub scalars_all : (a n : ℕ) (old new : List Value) → a < length (scalar_components model) → length (scalar_components model) ≤ n → AddsMatrix model (over_first n model (scalar_line (coordinate_at model a))) old new → AddsMatrix model (scalar_part model (coordinate_at model a)) old new
  scalars_all a n old new inside past so_far =
      let c = get_or (scalar_components model) a nobody in
      let is = coordinate_first model a inside in
      subst (λ x. AddsMatrix model (scalar_part model x) old new) (sym is) (scalars_of c n old new past (subst (λ x. AddsMatrix model (over_first n model (scalar_line x)) old new) is so_far))

  no_part : (j k : Component) → scalar_part model Dummy j k ≡ zero_poly
  unfolding scalar_part
  no_part j k = refl

  -- nothing at the dummy
  pub scalars_none : (a : ℕ) (values : List Value) → a ≡ length (scalar_components model) → AddsMatrix model (scalar_part model (coordinate_at model a)) values values
  scalars_none a values is =
      subst (λ x. AddsMatrix model (scalar_part model x) values values) (sym (coordinate_dummy model a is)) (adds_none model (scalar_part model Dummy) values no_part)

  -- all parts one after the other
  pub parts_all : (a : Coordinate) (v0 v1 v2 v3 v4 : List Value) → AddsMatrix model (leg_part model a) v0 v1 → AddsMatrix model (vertex_part model a) v1 v2 → AddsMatrix model (scalar_part model a) v2 v3
      → AddsMatrix model (λ j k. negative (gauge_part model a j k)) v3 v4 → AddsMatrix model (beta_matrix model a) v0 v4
  parts_all a v0 v1 v2 v3 v4 leg vertex scalar gauge =
      adds_both model (λ j k. add_poly (add_poly (leg_part model a j k) (vertex_part model a j k)) (scalar_part model a j k)) (λ j k. negative (gauge_part model a j k)) v0 v3 v4
      (adds_both model (λ j k. add_poly (leg_part model a j k) (vertex_part model a j k)) (scalar_part model a) v0 v2 v3
      (adds_both model (leg_part model a) (vertex_part model a) v0 v1 v2 leg vertex) scalar) gauge
