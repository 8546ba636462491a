-- The scalar tensor at the places of four legs.
use Rattle.std.specs.Prelude.{◌≡◌, ◌<◌, ℕ, List, [], ◌∷◌, length, get_or, slice_get, Option, Some, None}
use Rattle.std.specs.List.{All}
use Rattle.std.proofs.Common.{refl, sym, ap, ◌∙◌, true≢false}
use Rattle.std.proofs.lemmas.Option.{slice_get_within}
use Rattle.exact_algebra.specs.TensorContraction.{places_keys}
use Rattle.beta_poly.specs.Polynomial.{poly_ring, zero_poly}
use Rattle.beta_poly.proofs.Steps.{at_number, coefficient_at, nonzero_at}
use Rattle.sparse_tensor.specs.Tensor.{Tensor, HasValues, poly_zero_test, rank_of, entries_of, value}
use Rattle.model_core.specs.declared.model.Model.{Model}
use Rattle.model_core.specs.Directions.{scalar_tensor, scalar_at}
use Rattle.model_core.specs.Scalar.{Coordinate, scalar_coordinates}
use Rattle.model_core.specs.TermTensor.{with_coordinate, value_or}
use Rattle.term_expand.proofs.Legs.{of_four}
use Rattle.beta_formulas.specs.ScalarBeta.{quartic}
use Rattle.yukawa_one_loop.proofs.Bounds.{key_long}
use Rattle.quartic_one_loop.specs.FourLegs.{four_at}
use Rattle.quartic_one_loop.specs.ChargeParts.{StartsBelow}
use Rattle.quartic_one_loop.proofs.Adding.{four_options}

module _ (model : Model) where
  scalar_options : (o p q r : Option Coordinate) → value_or zero_poly (scalar_tensor model) (with_coordinate o (with_coordinate p (with_coordinate q (with_coordinate r (Some []))))) ≡ four_options (quartic model) o p q r
  scalar_options None p q r = refl
  scalar_options (Some a) None q r = refl
  scalar_options (Some a) (Some b) None r = refl
  scalar_options (Some a) (Some b) (Some c) None = refl
  scalar_options (Some a) (Some b) (Some c) (Some d) = refl

  -- the scalar tensor has L at the coordinates of a key
  pub scalar_at-quartic : (key : List ℕ) → length key ≡ 4 → scalar_at model key ≡ four_at model (quartic model) key
  scalar_at-quartic =
      of_four (λ key. scalar_at model key ≡ four_at model (quartic model) key) (λ i j k l.
      let cs = scalar_coordinates model in
      scalar_options (slice_get cs i) (slice_get cs j) (slice_get cs k) (slice_get cs l))

  -- a value that isn't 0 has a coordinate at its first place
  first_there : (o p q r : Option Coordinate) → (four_options (quartic model) o p q r ≡ zero_poly → ⊥) → (c : Coordinate) × (o ≡ Some c)
  first_there None p q r nonzero = absurd (nonzero refl)
  first_there (Some c) p q r nonzero = (c, refl)

  module _ (t : Tensor) (has : HasValues 4 (scalar_at model) t) where
    -- L at the coordinates of a key
    pub quartic_at : (i j k l : ℕ) → value t (i ∷ j ∷ k ∷ l ∷ [])
        ≡ four_options (quartic model) (slice_get (scalar_coordinates model) i) (slice_get (scalar_coordinates model) j) (slice_get (scalar_coordinates model) k) (slice_get (scalar_coordinates model) l)
    quartic_at i j k l =
        has.value_is (i ∷ j ∷ k ∷ l ∷ []) refl ∙ scalar_at-quartic (i ∷ j ∷ k ∷ l ∷ []) refl

    pub quartic_four : HasValues 4 (four_at model (quartic model)) t
    quartic_four = record { rank_is = has.rank_is; value_is = λ key l. has.value_is key l ∙ scalar_at-quartic key l }

    place_inside : (i j k l : ℕ) → (value t (i ∷ j ∷ k ∷ l ∷ []) ≡ zero_poly → ⊥) → i < length (scalar_coordinates model)
    place_inside i j k l nonzero =
        let cs = scalar_coordinates model in
        let found = first_there (slice_get cs i) (slice_get cs j) (slice_get cs k) (slice_get cs l) (λ none. nonzero (quartic_at i j k l ∙ none)) in
        slice_get_within cs i found.0 found.1

    -- the first places of all entries are those of coordinates
    pub quartic_inside : All (StartsBelow (length (scalar_coordinates model))) (entries_of t)
    quartic_inside i d h =
        let es = entries_of t in
        let e = get_or es i d in
        let there = at_number es i d h in
        let long : length e.0 ≡ 4 = key_long (rank_of t) es i d t.1.keys h ∙ has.rank_is in
        let own : value t e.0 ≡ e.1 = coefficient_at places_keys poly_ring.semiring poly_zero_test es i e there t.1.is_map in
        let nonzero : e.1 ≡ zero_poly → ⊥ =
        λ z. true≢false (sym poly_zero_test.at_zero ∙ ap poly_zero_test.is_zero (sym z) ∙ nonzero_at places_keys poly_ring.semiring poly_zero_test es i e there t.1.is_map) in
        of_four (λ key. (value t key ≡ zero_poly → ⊥) → get_or key 0 0 < length (scalar_coordinates model)) place_inside e.0 long (λ z. nonzero (sym own ∙ z))
