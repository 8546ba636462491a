-- The entries of pairs of generators: products along the links of generators and projectors are the sums over components.
use Rattle.std.specs.Prelude.{◌≡◌, [], ◌∷◌, map}
use Rattle.std.proofs.Common.{refl, sym, ap, ap₂, ◌∙◌}
use mathlib.Core.Path.{fun_ext}
use Rattle.exact_algebra.specs.Ring.{zero_mul}
use Rattle.exact_algebra.specs.Solver.{identity, var, ◌⊗◌}
use Rattle.exact_algebra.specs.Sums.{sum, sum-append, sum-map, sum-one, sum-zero, sum-mul, sum-swap}
use Rattle.frac128.specs.Rational.{ℚ, zero_ℚ, one_ℚ, ◌+ℚ◌, ◌*ℚ◌}
use Rattle.frac128.specs.RationalLaws.{ring_ℚ}
use Rattle.model_core.specs.declared.generator.Generator.{Generator}
use Rattle.model_core.specs.declared.model.Model.{Model}
use Rattle.model_core.specs.Component.{Component, projector_at}
use Rattle.model_core.specs.Generators.{coordinate_generator, generator_at}
use Rattle.model_core.specs.Scalar.{Coordinate, partner_component, scalar_components, scalar_coordinates}
use Rattle.model_core.specs.Scalar.Coordinate.{Of, Dummy}
use Rattle.model_core.specs.TermTensor.{coordinate_projector}
use Rattle.beta_formulas.specs.ScalarBeta.{pair_entry}
use Rattle.quartic_one_loop.specs.GaugePairs.{NumberMatrix, at_partner, product_at, sum_at}
use Rattle.quartic_one_loop.proofs.NumberMatrices.{after}

module _ (model : Model) where
  -- a sum over the coordinates, where the dummy gives nothing
  without_dummy : (g : Coordinate → ℚ) → g Dummy ≡ zero_ℚ → sum ring_ℚ.semiring (scalar_coordinates model) g ≡ sum ring_ℚ.semiring (scalar_components model) (λ c. g (Of c))
  without_dummy g none =
      let R = ring_ℚ.semiring in
      let cs = scalar_components model in
      sum-append R (map Of cs) (Dummy ∷ []) g
      ∙ ap₂ ◌+ℚ◌ (sum-map R Of cs g) (sum-one R Dummy g ∙ none)
      ∙ R.add_zero (sum R cs (λ c. g (Of c)))

  -- where nothing gives anything
  all_none : (g : Coordinate → ℚ) → ((c : Coordinate) → g c ≡ zero_ℚ) → sum ring_ℚ.semiring (scalar_coordinates model) g ≡ zero_ℚ
  all_none g none = ap (sum ring_ℚ.semiring (scalar_coordinates model)) (fun_ext none) ∙ sum-zero ring_ℚ.semiring (scalar_coordinates model)

  dummy_row : (y : Generator) (b : Coordinate) → coordinate_generator model.groups y Dummy b ≡ zero_ℚ
  dummy_row y (Of b) = refl
  dummy_row y Dummy = refl

  dummy_column : (y : Generator) (a : Coordinate) → coordinate_generator model.groups y a Dummy ≡ zero_ℚ
  dummy_column y (Of a) = refl
  dummy_column y Dummy = refl

  module _ (x z : Generator) where
    -- X(a*, b), X Z at (a*, b), and this projected
    abbrev first : NumberMatrix
    first = at_partner (coordinate_generator model.groups x)

    abbrev both : NumberMatrix
    both = after model first (coordinate_generator model.groups z)

    abbrev projected : NumberMatrix
    projected = after model both (coordinate_projector model.groups)

    both_dummy : (b : Coordinate) → both Dummy b ≡ zero_ℚ
    both_dummy b =
        all_none (λ c. coordinate_generator model.groups z c b *ℚ first Dummy c) (λ c.
        ap (λ v. coordinate_generator model.groups z c b *ℚ v) (dummy_row x c) ∙ ring_ℚ.semiring.mul_zero (coordinate_generator model.groups z c b))

    both_column : (a : Coordinate) → both a Dummy ≡ zero_ℚ
    both_column a =
        all_none (λ c. coordinate_generator model.groups z c Dummy *ℚ first a c) (λ c.
        ap (λ v. v *ℚ first a c) (dummy_column z c) ∙ zero_mul ring_ℚ.semiring (first a c))

    both_components : (a d : Component) → both (Of a) (Of d) ≡ sum ring_ℚ.semiring (scalar_components model) (λ c. generator_at model.groups z c d *ℚ generator_at model.groups x (partner_component a) c)
    both_components a d =
        without_dummy (λ c. coordinate_generator model.groups z c (Of d) *ℚ first (Of a) c) (zero_mul ring_ℚ.semiring (first (Of a) Dummy))

    last_column : (a : Component) (d : Coordinate) → coordinate_projector model.groups d Dummy *ℚ both (Of a) d ≡ zero_ℚ
    last_column a (Of d) = zero_mul ring_ℚ.semiring (both (Of a) (Of d))
    last_column a Dummy = ap (λ v. one_ℚ *ℚ v) (both_column (Of a)) ∙ ring_ℚ.semiring.mul_zero one_ℚ

    regrouped : (p q r : ℚ) → p *ℚ (q *ℚ r) ≡ r *ℚ (q *ℚ p)
    regrouped p q r = identity ring_ℚ (p ∷ q ∷ r ∷ []) (var 0 ⊗ (var 1 ⊗ var 2)) (var 2 ⊗ (var 1 ⊗ var 0)) refl

    pub product_is : (a b : Coordinate) → projected a b ≡ product_at model x z a b
    product_is Dummy b =
        all_none (λ d. coordinate_projector model.groups d b *ℚ both Dummy d) (λ d.
        ap (λ v. coordinate_projector model.groups d b *ℚ v) (both_dummy d) ∙ ring_ℚ.semiring.mul_zero (coordinate_projector model.groups d b))
    product_is (Of a) Dummy = all_none (λ d. coordinate_projector model.groups d Dummy *ℚ both (Of a) d) (last_column a)
    product_is (Of a) (Of b) =
        let R = ring_ℚ.semiring in
        let cs = scalar_components model in
        let P = λ (d : Component). projector_at model.groups d b in
        let Z = λ (c d : Component). generator_at model.groups z c d in
        let X = λ (c : Component). generator_at model.groups x (partner_component a) c in
        without_dummy (λ d. coordinate_projector model.groups d (Of b) *ℚ both (Of a) d) (zero_mul R (both (Of a) Dummy))
        ∙ ap (sum R cs) (fun_ext (λ d. ap (λ v. P d *ℚ v) (both_components a d) ∙ sym (sum-mul R (P d) cs (λ c. Z c d *ℚ X c))))
        ∙ sum-swap R cs cs (λ d c. P d *ℚ (Z c d *ℚ X c))
        ∙ ap (sum R cs) (fun_ext (λ c. ap (sum R cs) (fun_ext (λ d. regrouped (P d) (Z c d) (X c)))))

  -- both orders together
  pub pair_is : (x z : Generator) (a b : Coordinate) → sum_at (product_at model x z) (product_at model z x) a b ≡ pair_entry model x z a b
  pair_is x z (Of a) (Of b) = refl
  pair_is x z (Of a) Dummy = ring_ℚ.semiring.add_zero zero_ℚ
  pair_is x z Dummy (Of b) = ring_ℚ.semiring.add_zero zero_ℚ
  pair_is x z Dummy Dummy = ring_ℚ.semiring.add_zero zero_ℚ
