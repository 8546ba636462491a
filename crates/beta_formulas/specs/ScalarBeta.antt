-- The beta functions of scalar couplings at one loop: M. E. Machacek and M. T. Vaughn, Nucl. Phys. B249 (1985) 70, with products of
-- groups as in M. Luo, H. Wang and Y. Xiao, hep-ph/0211440; the dummy as in section 4 there. Fermions are left-handed two-component
-- Weyl fields.
use Rattle.std.specs.Prelude.{ℕ, zero, suc, nat_le, if◌then◌else◌, pos, List, [], ◌∷◌}
use Rattle.std.specs.List.{enumerate_from}
use Rattle.exact_algebra.specs.Sums.{sum}
use Rattle.exact_algebra.specs.Orders.{sum_orders}
use Rattle.frac128.specs.Rational.{ℚ, zero_ℚ, one_ℚ, whole, ◌+ℚ◌, ◌*ℚ◌}
use Rattle.frac128.specs.RationalLaws.{ring_ℚ}
use Rattle.beta_poly.specs.Polynomial.{Polynomial, poly_ring, zero_poly, add_poly, mul_poly, scale_poly}
use Rattle.su_reps.specs.Operators.{fraction}
use Rattle.model_core.specs.declared.generator.Generator.{Generator}
use Rattle.model_core.specs.declared.group.Group.{Group}
use Rattle.model_core.specs.declared.model.Model.{Model}
use Rattle.model_core.specs.declared.term.TermKind.TheVariants.{Scalar}
use Rattle.model_core.specs.Component.{Component, projector_at}
use Rattle.model_core.specs.Directions.{scalar_tensor}
use Rattle.model_core.specs.GaugeBeta.{casimir_at}
use Rattle.model_core.specs.GaugeTwoLoop.{gauge_power, negative, over_scalars, over_groups}
use Rattle.model_core.specs.Generators.{generator_at, generators_of}
use Rattle.model_core.specs.Groups.{is_abelian}
use Rattle.model_core.specs.Scalar.{Coordinate, partner, partner_component, scalar_components}
use Rattle.model_core.specs.Scalar.Coordinate.{Of, Dummy}
use Rattle.model_core.specs.TermTensor.{legs_of, at_places}
use Rattle.beta_formulas.specs.YukawaBeta.{yukawa, conjugate, times, trace, scalar_square}

-- a function of four scalar legs, and as one of their list
abbrev pub FourLegs : Type 0
FourLegs = Coordinate → Coordinate → Coordinate → Coordinate → Polynomial

abbrev pub at_four : FourLegs → List Coordinate → Polynomial
at_four f (a ∷ b ∷ c ∷ d ∷ []) = f a b c d
at_four f _ = zero_poly

-- the sum over the 24 permutations of the legs
abbrev pub over_orders : FourLegs → FourLegs
over_orders f a b c d = sum_orders poly_ring.semiring (a ∷ b ∷ c ∷ d ∷ []) (at_four f)

-- how many of the legs are dummies
abbrev pub dummy_count : List Coordinate → ℕ
dummy_count [] = zero
dummy_count (Of a ∷ legs) = dummy_count legs
dummy_count (Dummy ∷ legs) = suc (dummy_count legs)

-- The sum over the generators of a group of T ⊗ T is that of X ⊗ X' with this weight: X' = X_ji for X = X_ij, and the charge itself.
abbrev pub opposite : Generator → Generator
opposite x = record { place = x.place; i = x.j; j = x.i }

abbrev pub generator_weight : Group → ℚ
generator_weight group = if is_abelian group then one_ℚ else fraction 1 2

module _ (model : Model) where
  -- L(a,b,c,d)
  abbrev pub quartic : FourLegs
  quartic a b c d = scalar_tensor model (a ∷ b ∷ c ∷ d ∷ [])

  -- The sum over the legs of what a line gives. It has the coordinate of the leg, and L with another coordinate for the leg.
  abbrev pub over_legs : (Coordinate → (Coordinate → Polynomial) → Polynomial) → FourLegs
  over_legs line a b c d =
      add_poly (add_poly (line a (λ e. quartic e b c d)) (line b (λ e. quartic a e c d)))
      (add_poly (line c (λ e. quartic a b e d)) (line d (λ e. quartic a b c e)))

  -- ---- the five parts

  -- 1/8 sum_P sum_ef L(a,b,e,f) L(e*,f*,c,d)
  abbrev pub loop_line : FourLegs
  loop_line a b c d = over_scalars model (λ e. over_scalars model (λ f. mul_poly (quartic a b e f) (quartic (partner e) (partner f) c d)))

  unfoldable pub loop_part : FourLegs
  loop_part a b c d = scale_poly (fraction 1 8) (over_orders loop_line a b c d)

  -- sum_P Tr(Y[a] Yd[b] Y[c] Yd[d])
  abbrev pub box_line : FourLegs
  box_line a b c d =
      trace model (times model (times model (yukawa model a) (conjugate model b)) (times model (yukawa model c) (conjugate model d)))

  unfoldable pub box_part : FourLegs
  box_part a b c d = over_orders box_line a b c d

  -- the sum over legs of sum_e S2(leg,e*) L with e for the leg, and 0 for the dummy, which has no self-energy
  abbrev pub leg_line : Coordinate → (Coordinate → Polynomial) → Polynomial
  leg_line (Of a) with_leg = over_scalars model (λ e. mul_poly (scalar_square model (Of a) (partner e)) (with_leg e))
  leg_line Dummy with_leg = zero_poly

  unfoldable pub leg_part : FourLegs
  leg_part a b c d = over_legs leg_line a b c d

  -- 3 times the sum over legs of sum_k g_k^2 C_k(leg) L(a,b,c,d), and 0 for the dummy, which has no charge
  abbrev pub charge_line : Coordinate → (Coordinate → Polynomial) → Polynomial
  charge_line (Of a) with_leg = mul_poly (over_groups model (λ k. casimir_at k.1 k.0 a)) (with_leg (Of a))
  charge_line Dummy with_leg = zero_poly

  unfoldable pub charge_part : FourLegs
  charge_part a b c d = scale_poly (whole (pos 3)) (over_legs charge_line a b c d)

  -- the entry of X Z at two scalar components, projected
  abbrev pub product_entry : Generator → Generator → Component → Component → ℚ
  product_entry x z a b =
      sum ring_ℚ.semiring (scalar_components model) (λ c. sum ring_ℚ.semiring (scalar_components model)
      (λ d. generator_at model.groups x a c *ℚ (generator_at model.groups z c d *ℚ projector_at model.groups d b)))

  -- M_XZ(a,b), the entry of X Z + Z X at (a*,b), and 0 for the dummy
  abbrev pub pair_entry : Generator → Generator → Coordinate → Coordinate → ℚ
  pair_entry x z (Of a) (Of b) = product_entry x z (partner_component a) b +ℚ product_entry z x (partner_component a) b
  pair_entry x z _ _ = zero_ℚ

  -- A_kl(a,b,c,d): the sum over X of k and Z of l of M_XZ(a,b) M_X'Z'(c,d)
  abbrev pub gauge_pair : ℕ × Group → ℕ × Group → Coordinate → Coordinate → Coordinate → Coordinate → ℚ
  gauge_pair k l a b c d =
      (generator_weight k.1 *ℚ generator_weight l.1) *ℚ
      sum ring_ℚ.semiring (generators_of k) (λ x. sum ring_ℚ.semiring (generators_of l)
      (λ z. pair_entry x z a b *ℚ pair_entry (opposite x) (opposite z) c d))

  -- 3/8 sum_P sum_kl g_k^2 g_l^2 A_kl(a,b,c,d)
  abbrev pub gauge_line : FourLegs
  gauge_line a b c d =
      sum poly_ring.semiring (enumerate_from 0 model.groups) (λ k. sum poly_ring.semiring (enumerate_from 0 model.groups)
      (λ l. scale_poly (gauge_pair k l a b c d) (mul_poly (gauge_power k.0 2) (gauge_power l.0 2))))

  unfoldable pub gauge_part : FourLegs
  gauge_part a b c d = scale_poly (fraction 3 8) (over_orders gauge_line a b c d)

  -- ---- the beta function

  -- without its factor 1/(16 pi^2)
  abbrev pub beta_function : FourLegs
  beta_function a b c d =
      add_poly (add_poly (add_poly (add_poly (loop_part a b c d) (negative (box_part a b c d))) (leg_part a b c d)) (negative (charge_part a b c d)))
      (gauge_part a b c d)

  -- At four scalar coordinates, of which at most two are dummies. One dummy gives the beta function of a cubic coupling, and two that
  -- of a mass; those of linear terms and of the constant aren't formed.
  unfoldable pub scalar_beta : List Coordinate → Polynomial
  scalar_beta legs = if nat_le (dummy_count legs) 2 then at_four beta_function legs else zero_poly

  -- at the places of a key
  abbrev pub scalar_beta_at : List ℕ → Polynomial
  scalar_beta_at = at_places zero_poly (legs_of model Scalar) scalar_beta
