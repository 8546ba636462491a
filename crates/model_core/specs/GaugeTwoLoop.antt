-- The beta functions of gauge couplings at two loops: M. E. Machacek and M. T. Vaughn, Nucl. Phys. B222 (1983) 83, with products
-- of groups as in M. Luo, H. Wang and Y. Xiao, hep-ph/0211440. Fermions are left-handed two-component Weyl fields.
use Rattle.std.specs.Prelude.{ℕ, true, false, pos, List, [], ◌∷◌}
use Rattle.std.specs.List.{enumerate_from}
use Rattle.exact_algebra.specs.Sums.{sum}
use Rattle.frac128.specs.Rational.{ℚ, whole, one_ℚ, ◌+ℚ◌, ◌-ℚ◌, ◌*ℚ◌, ◌/ℚ◌, neg_ℚ, reciprocal}
use Rattle.beta_poly.specs.declared.symbol.Symbol.{Symbol}
use Rattle.beta_poly.specs.Monomial.{power}
use Rattle.beta_poly.specs.Polynomial.{Polynomial, poly_ring, zero_poly, add_poly, mul_poly, scale_poly, conj_poly, term as poly_term}
use Rattle.su_reps.specs.Operators.{fraction}
use Rattle.model_core.specs.declared.group.Group.{Group}
use Rattle.model_core.specs.declared.model.Model.{Model}
use Rattle.model_core.specs.Component.{Component, fermion_components, trace_over}
use Rattle.model_core.specs.Scalar.{Coordinate, partner, scalar_components}
use Rattle.model_core.specs.Scalar.Coordinate.{Of}
use Rattle.model_core.specs.Directions.{yukawa_tensor}
use Rattle.model_core.specs.GaugeBeta.{casimir_at, group_casimir, generator_count, fermion_sum, scalar_sum}

-- ---- couplings

-- the gauge coupling of the group at a place
abbrev pub gauge_symbol : ℕ → Symbol
gauge_symbol place = record { id = place; real = true; conj = false }

-- its power
abbrev pub gauge_power : ℕ → ℕ → Polynomial
gauge_power place exponent = poly_term (power (gauge_symbol place) exponent) one_ℚ

-- minus a polynomial
abbrev pub negative : Polynomial → Polynomial
negative p = scale_poly (neg_ℚ one_ℚ) p

-- ---- Yukawa matrices

-- Yd[a][j,k], the conjugate of Y[a*][j,k]
abbrev pub conjugate_yukawa : Model → List Coordinate → Polynomial
conjugate_yukawa model (j ∷ k ∷ a ∷ []) = conj_poly (yukawa_tensor model (j ∷ k ∷ partner a ∷ []))
conjugate_yukawa model _ = zero_poly

module _ (model : Model) where
  -- sums over all fermion components, and over all scalar coordinates but the dummy
  abbrev pub over_fermions : (Component → Polynomial) → Polynomial
  over_fermions f = sum poly_ring.semiring (fermion_components model) f

  abbrev pub over_scalars : (Coordinate → Polynomial) → Polynomial
  over_scalars f = sum poly_ring.semiring (scalar_components model) (λ b. f (Of b))

  -- Tr(C_k Y[b] Yd[b*]), summed over b
  unfoldable pub yukawa_trace : ℕ × Group → Polynomial
  yukawa_trace k =
      over_scalars (λ b. over_fermions (λ i. scale_poly (casimir_at k.1 k.0 i)
      (over_fermions (λ j. mul_poly (yukawa_tensor model (Of i ∷ Of j ∷ b ∷ [])) (conjugate_yukawa model (Of j ∷ Of i ∷ partner b ∷ []))))))

  -- ---- numbers

  -- Tr(C_k C_l) over d_k, over the fermions and over the scalars
  abbrev pub casimir_pair : List Component → ℕ × Group → ℕ × Group → ℚ
  casimir_pair components k l =
      trace_over model.groups components (λ c. casimir_at k.1 k.0 c *ℚ casimir_at l.1 l.0 c) /ℚ generator_count k.1

  -- 2 Tr_F(C_k C_l) / d_k + 2 Tr_S(C_k C_l) / d_k
  unfoldable pub mixed_number : ℕ × Group → ℕ × Group → ℚ
  mixed_number k l =
      whole (pos 2) *ℚ casimir_pair (fermion_components model) k l +ℚ whole (pos 2) *ℚ casimir_pair (scalar_components model) k l

  -- 34/3 C_k^2 - 10/3 C_k S_k(F) - 1/3 C_k S_k(S)
  unfoldable pub own_number : ℕ × Group → ℚ
  own_number k =
      let c = group_casimir k.1 in
      fraction 34 3 *ℚ (c *ℚ c) -ℚ fraction 10 3 *ℚ (c *ℚ fermion_sum model k.0 k.1) -ℚ fraction 1 3 *ℚ (c *ℚ scalar_sum model k.0 k.1)

  -- the sum over all groups l of g_l^2 times a number
  abbrev pub over_groups : (ℕ × Group → ℚ) → Polynomial
  over_groups f = sum poly_ring.semiring (enumerate_from 0 model.groups) (λ l. scale_poly (f l) (gauge_power l.0 2))

  -- The beta function without its factor 1/(16 pi^2)^2:
  -- -g_k^3 (own_number g_k^2 - sum_l mixed_number g_l^2) - g_k^3 sum_b Tr(C_k Y[b] Yd[b*]) / d_k
  unfoldable pub gauge_two_loop : ℕ × Group → Polynomial
  gauge_two_loop k =
      negative (mul_poly (gauge_power k.0 3)
      (add_poly (add_poly (scale_poly (own_number k) (gauge_power k.0 2)) (negative (over_groups (mixed_number k))))
      (scale_poly (reciprocal (generator_count k.1)) (yukawa_trace k))))
