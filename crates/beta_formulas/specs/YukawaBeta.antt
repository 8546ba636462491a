-- The beta functions of Yukawa couplings at one loop: M. E. Machacek and M. T. Vaughn, Nucl. Phys. B236 (1984) 221, section 3, with
-- products of groups as in M. Luo, H. Wang and Y. Xiao, hep-ph/0211440. Fermions are left-handed two-component Weyl fields.
use Rattle.std.specs.Prelude.{ℕ, pos, List, [], ◌∷◌}
use Rattle.frac128.specs.Rational.{whole, ◌+ℚ◌}
use Rattle.beta_poly.specs.Polynomial.{Polynomial, zero_poly, add_poly, mul_poly, scale_poly}
use Rattle.su_reps.specs.Operators.{fraction}
use Rattle.model_core.specs.declared.model.Model.{Model}
use Rattle.model_core.specs.declared.term.TermKind.TheVariants.{Fermion}
use Rattle.model_core.specs.Component.{Component}
use Rattle.model_core.specs.Directions.{yukawa_tensor}
use Rattle.model_core.specs.GaugeBeta.{casimir_at}
use Rattle.model_core.specs.GaugeTwoLoop.{conjugate_yukawa, negative, over_fermions, over_scalars, over_groups}
use Rattle.model_core.specs.Scalar.{Coordinate, partner}
use Rattle.model_core.specs.Scalar.Coordinate.{Of, Dummy}
use Rattle.model_core.specs.TermTensor.{legs_of, at_places}

-- a matrix over the fermion components
abbrev pub Matrix : Type 0
Matrix = Component → Component → Polynomial

module _ (model : Model) where
  -- the Yukawa matrix Y[a], and Yd[a], the conjugate of Y[a*]
  abbrev pub yukawa : Coordinate → Matrix
  yukawa a j k = yukawa_tensor model (Of j ∷ Of k ∷ a ∷ [])

  abbrev pub conjugate : Coordinate → Matrix
  conjugate a j k = conjugate_yukawa model (Of j ∷ Of k ∷ a ∷ [])

  -- the product of two matrices, and the trace, over all fermion components
  abbrev pub times : Matrix → Matrix → Matrix
  times first second j k = over_fermions model (λ i. mul_poly (first j i) (second i k))

  abbrev pub trace : Matrix → Polynomial
  trace matrix = over_fermions model (λ i. matrix i i)

  -- ---- the four parts at a scalar coordinate a

  -- 1/2 sum_b (Y[b] Yd[b*] Y[a] + Y[a] Yd[b*] Y[b])
  abbrev pub leg_line : Coordinate → Coordinate → Matrix
  leg_line a b j k =
      add_poly (times (times (yukawa b) (conjugate (partner b))) (yukawa a) j k) (times (times (yukawa a) (conjugate (partner b))) (yukawa b) j k)

  unfoldable pub leg_part : Coordinate → Matrix
  leg_part a j k = scale_poly (fraction 1 2) (over_scalars model (λ b. leg_line a b j k))

  -- 2 sum_b Y[b] Yd[a] Y[b*]
  abbrev pub vertex_line : Coordinate → Coordinate → Matrix
  vertex_line a b = times (times (yukawa b) (conjugate a)) (yukawa (partner b))

  unfoldable pub vertex_part : Coordinate → Matrix
  vertex_part a j k = scale_poly (whole (pos 2)) (over_scalars model (λ b. vertex_line a b j k))

  -- S2(a,b) = 1/2 Tr(Yd[a] Y[b] + Yd[b] Y[a])
  unfoldable pub scalar_square : Coordinate → Coordinate → Polynomial
  scalar_square a b =
      scale_poly (fraction 1 2) (add_poly (trace (times (conjugate a) (yukawa b))) (trace (times (conjugate b) (yukawa a))))

  -- sum_b S2(a,b*) Y[b], and 0 for the dummy, which has no self-energy
  unfoldable pub scalar_part : Coordinate → Matrix
  scalar_part (Of a) j k = over_scalars model (λ b. mul_poly (scalar_square (Of a) (partner b)) (yukawa b j k))
  scalar_part Dummy j k = zero_poly

  -- 3 sum_k g_k^2 (C_k Y[a] + Y[a] C_k), with the diagonal matrix C_k of Casimirs
  unfoldable pub gauge_part : Coordinate → Matrix
  gauge_part a j k =
      scale_poly (whole (pos 3)) (mul_poly (over_groups model (λ g. casimir_at g.1 g.0 j +ℚ casimir_at g.1 g.0 k)) (yukawa a j k))

  -- ---- the beta function

  -- without its factor 1/(16 pi^2)
  abbrev pub beta_matrix : Coordinate → Matrix
  beta_matrix a j k =
      add_poly (add_poly (add_poly (leg_part a j k) (vertex_part a j k)) (scalar_part a j k)) (negative (gauge_part a j k))

  -- at the components of two fermions and a scalar coordinate
  unfoldable pub yukawa_beta : List Coordinate → Polynomial
  yukawa_beta (Of j ∷ Of k ∷ a ∷ []) = beta_matrix a j k
  yukawa_beta _ = zero_poly

  -- at the places of a key
  abbrev pub yukawa_beta_at : List ℕ → Polynomial
  yukawa_beta_at = at_places zero_poly (legs_of model Fermion) yukawa_beta
