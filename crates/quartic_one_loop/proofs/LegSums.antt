-- Self-energies times the scalar tensor, as a contraction.
use Rattle.std.specs.Prelude.{◌≡◌, ◌<◌, ◌≤◌, ◌+◌, ◌-◌, ℕ, Bool, true, false, List, [], ◌∷◌, length, get_or, slice_get, Option, Some, None}
use Rattle.std.proofs.Common.{refl, sym, ap, ap₂, ◌∙◌, arith, leb, leb-true, leb-false}
use Rattle.std.proofs.lemmas.Option.{slice_get_within}
use Rattle.exact_algebra.specs.Ring.{zero_mul}
use Rattle.exact_algebra.specs.Sums.{sum-by_place, below, below-same, below-none}
use Rattle.beta_poly.specs.Polynomial.{Polynomial, poly_ring, zero_poly, mul_poly}
use Rattle.sparse_tensor.specs.declared.links.Link.{Link}
use Rattle.sparse_tensor.specs.Tensor.{Tensor, HasValues, rank_of, value}
use Rattle.sparse_tensor.specs.Operations.{contracted_at}
use Rattle.model_core.specs.declared.model.Model.{Model}
use Rattle.model_core.specs.Component.{Component}
use Rattle.model_core.specs.Scalar.{Coordinate, partner, scalar_components, scalar_coordinates}
use Rattle.model_core.specs.Scalar.Coordinate.{Of, Dummy}
use Rattle.term_expand.proofs.Legs.{of_four}
use Rattle.beta_formulas.specs.ScalarBeta.{FourLegs, quartic, leg_line}
use Rattle.beta_formulas.specs.YukawaBeta.{scalar_square}
use Rattle.yukawa_one_loop.specs.Matrices.{identity_links}
use Rattle.yukawa_one_loop.proofs.Coordinates.{nobody, coordinates_count, coordinate_first, coordinate_dummy, coordinate_there, coordinate_is}
use Rattle.quartic_one_loop.specs.FourLegs.{four_at, IsQuartic}
use Rattle.quartic_one_loop.specs.LegParts.{AreEnergies}
use Rattle.quartic_one_loop.proofs.Adding.{four_options}
use Rattle.quartic_one_loop.proofs.IdentityContractions.{joined_identity}
use Rattle.quartic_one_loop.proofs.QuarticPlaces.{quartic_at}

-- ---- the sum over the scalar components

module _ (model : Model) where
  -- sum_e S2(a,e*) L(e,b,c,d)
  abbrev pub first_leg : FourLegs
  first_leg a b c d = leg_line model a (λ e. quartic model e b c d)

  -- the component at a place
  abbrev at : ℕ → Component
  at i = get_or (scalar_components model) i nobody

  -- the sum at a component on the first leg
  with_component : (x : Component) (p q r : Option Coordinate)
      → below poly_ring.semiring (length (scalar_components model)) (λ i. mul_poly (scalar_square model (Of x) (partner (Of (at i)))) (four_options (quartic model) (Some (Of (at i))) p q r))
      ≡ four_options first_leg (Some (Of x)) p q r
  with_component x None q r =
      below-none poly_ring.semiring (length (scalar_components model)) _ (λ i h. poly_ring.semiring.mul_zero (scalar_square model (Of x) (partner (Of (at i)))))
  with_component x (Some b) None r =
      below-none poly_ring.semiring (length (scalar_components model)) _ (λ i h. poly_ring.semiring.mul_zero (scalar_square model (Of x) (partner (Of (at i)))))
  with_component x (Some b) (Some c) None =
      below-none poly_ring.semiring (length (scalar_components model)) _ (λ i h. poly_ring.semiring.mul_zero (scalar_square model (Of x) (partner (Of (at i)))))
  with_component x (Some b) (Some c) (Some d) =
      sym (sum-by_place poly_ring.semiring nobody (scalar_components model) (λ y. mul_poly (scalar_square model (Of x) (partner (Of y))) (quartic model (Of y) b c d)))

  -- nothing at the dummy
  with_dummy : (p q r : Option Coordinate) → four_options first_leg (Some Dummy) p q r ≡ zero_poly
  with_dummy None q r = refl
  with_dummy (Some b) None r = refl
  with_dummy (Some b) (Some c) None = refl
  with_dummy (Some b) (Some c) (Some d) = refl

  -- what stands at a place of a component, at the dummy's, and behind it
  component_there : (i : ℕ) → i < length (scalar_components model) → slice_get (scalar_coordinates model) i ≡ Some (Of (at i))
  component_there i inside =
      let count = coordinates_count model in
      coordinate_there model i (omega (arith, inside, count)) ∙ ap Some (coordinate_first model i inside)

  no_component : (a : ℕ) (o : Option Coordinate) → length (scalar_components model) ≤ a → slice_get (scalar_coordinates model) a ≡ o → (p q r : Option Coordinate) → four_options first_leg o p q r ≡ zero_poly
  no_component a None past there p q r = refl
  no_component a (Some x) past there p q r =
      let count = coordinates_count model in
      let within = slice_get_within (scalar_coordinates model) a x there in
      let is : x ≡ Dummy = sym (coordinate_is model a x there) ∙ coordinate_dummy model a (omega (arith, past, count, within)) in
      ap (λ y. four_options first_leg (Some y) p q r) is ∙ with_dummy p q r

  module _ (t : Tensor) (energies : AreEnergies model t) (u : Tensor) (quartics : IsQuartic model u) where
    -- the summand of a contraction
    abbrev summand : ℕ → ℕ → ℕ → ℕ → ℕ → Polynomial
    summand a b c d i = mul_poly (value t (a ∷ i ∷ [])) (value u (i ∷ b ∷ c ∷ d ∷ []))

    summed_inside : (a b c d : ℕ) → a < length (scalar_components model)
        → below poly_ring.semiring (length (scalar_components model)) (summand a b c d) ≡ four_at model first_leg (a ∷ b ∷ c ∷ d ∷ [])
    summed_inside a b c d inside =
        let R = poly_ring.semiring in
        let n = length (scalar_components model) in
        let cs = scalar_coordinates model in
        let p = slice_get cs b in
        let q = slice_get cs c in
        let r = slice_get cs d in
        below-same R n (summand a b c d) (λ i. mul_poly (scalar_square model (Of (at a)) (partner (Of (at i)))) (four_options (quartic model) (Some (Of (at i))) p q r))
        (λ i h. ap₂ mul_poly
        (energies.inside a i inside h ∙ ap₂ (λ x y. scalar_square model x (partner y)) (coordinate_first model a inside) (coordinate_first model i h))
        (quartic_at model u quartics.values i b c d ∙ ap (λ o. four_options (quartic model) o p q r) (component_there i h)))
        ∙ with_component (at a) p q r
        ∙ ap (λ o. four_options first_leg o p q r) (sym (component_there a inside))

    summed_outside : (a b c d : ℕ) → length (scalar_components model) ≤ a
        → below poly_ring.semiring (length (scalar_components model)) (summand a b c d) ≡ four_at model first_leg (a ∷ b ∷ c ∷ d ∷ [])
    summed_outside a b c d past =
        let R = poly_ring.semiring in
        let cs = scalar_coordinates model in
        below-none R (length (scalar_components model)) (summand a b c d)
        (λ i h. ap (λ z. mul_poly z (value u (i ∷ b ∷ c ∷ d ∷ []))) (energies.outside a i past) ∙ zero_mul R (value u (i ∷ b ∷ c ∷ d ∷ [])))
        ∙ sym (no_component a (slice_get cs a) past refl (slice_get cs b) (slice_get cs c) (slice_get cs d))

    summed_at : (a b c d : ℕ) → below poly_ring.semiring (length (scalar_components model)) (summand a b c d) ≡ four_at model first_leg (a ∷ b ∷ c ∷ d ∷ [])
    summed_at a b c d = by_test (leb (length (scalar_components model)) a) refl
      where
        by_test : (test : Bool) → leb (length (scalar_components model)) a ≡ test
            → below poly_ring.semiring (length (scalar_components model)) (summand a b c d) ≡ four_at model first_leg (a ∷ b ∷ c ∷ d ∷ [])
        by_test true h = summed_outside a b c d (leb-true (length (scalar_components model)) a h)
        by_test false h = summed_inside a b c d (leb-false (length (scalar_components model)) a h)

    -- the contraction along these links is the sum over all components
    pub contraction_is : (links : List Link) (v : Tensor) → links ≡ identity_links (length (scalar_components model))
        → HasValues (rank_of t + rank_of u - 2) (contracted_at (rank_of t - 1) 1 0 links (value t) (value u)) v → HasValues 4 (four_at model first_leg) v
    contraction_is links v is has =
        let one = energies.rank_is in
        let two = quartics.values.rank_is in
        let rank : rank_of t + rank_of u - 2 ≡ 4 = omega (arith, one, two) in
        record {
          rank_is = has.rank_is ∙ rank;
          value_is =
              of_four (λ key. value v key ≡ four_at model first_leg key) (λ a b c d.
              has.value_is (a ∷ b ∷ c ∷ d ∷ []) (sym rank)
              ∙ ap₂ (λ n ls. contracted_at (n - 1) 1 0 ls (value t) (value u) (a ∷ b ∷ c ∷ d ∷ [])) one is
              ∙ joined_identity 1 0 (length (scalar_components model)) (value t) (value u) (a ∷ []) (b ∷ c ∷ d ∷ [])
              ∙ summed_at a b c d);
        }
