-- Scalar coordinates by their places, their partners, and the matrices that stand at them.
use Rattle.std.specs.Prelude.{◌≡◌, ◌<◌, ◌+◌, ℕ, zero, suc, false, List, [], ◌∷◌, map, length, get_or, slice_get, Some, option_map}
use Rattle.std.proofs.Common.{refl, sym, subst, ap, ◌∙◌, arith}
use Rattle.std.proofs.lemmas.List.{length-map, length-append}
use Rattle.std.proofs.lemmas.Option.{slice_get-map, slice_get_within, slice_get-get_or, get_or_from_slice_get, same_Some}
use Rattle.exact_algebra.specs.Blocks.{slice_get-append_left}
use Rattle.frac128.specs.Rational.{zero_ℚ}
use Rattle.sparse_tensor.specs.Tensor.{Tensor}
use Rattle.model_core.specs.declared.field.Field.{Field}
use Rattle.model_core.specs.declared.model.Model.{Model}
use Rattle.model_core.specs.Component.{Component}
use Rattle.model_core.specs.Scalar.{Coordinate, partner, scalar_components, scalar_coordinates}
use Rattle.model_core.specs.Scalar.Coordinate.{Of, Dummy}
use Rattle.model_core.proofs.ScalarLaws.{dummy_at}
use Rattle.beta_formulas.specs.YukawaBeta.{Matrix}
use Rattle.yukawa_one_loop.specs.Matrices.{IsLinear, AreMatrices}
use Rattle.yukawa_one_loop.specs.Parts.{coordinate_at}

no_field : Field
no_field = record { name = []; generations = 0; charge = zero_ℚ; reps = []; real = false }

-- a component for places that there aren't
pub nobody : Component
nobody = record { field = no_field; conj = false; generation = 0; values = [] }

module _ (model : Model) where
  -- how many coordinates there are
  pub coordinates_count : length (scalar_coordinates model) ≡ length (scalar_components model) + 1
  coordinates_count =
      length-append (map Of (scalar_components model)) (Dummy ∷ []) ∙ ap (λ n. n + 1) (length-map (scalar_components model) Of)

  -- the coordinate at the place of a component
  pub coordinate_first : (n : ℕ) → n < length (scalar_components model) → coordinate_at model n ≡ Of (get_or (scalar_components model) n nobody)
  coordinate_first n inside =
      let xs = scalar_components model in
      let x = get_or xs n nobody in
      get_or_from_slice_get (scalar_coordinates model) n (Of x) Dummy
      (slice_get-append_left (map Of xs) (Dummy ∷ []) n (Of x) (slice_get-map Of xs n ∙ ap (option_map Of) (slice_get-get_or xs n nobody inside)))

  -- and at the place behind them
  pub coordinate_dummy : (n : ℕ) → n ≡ length (scalar_components model) → coordinate_at model n ≡ Dummy
  coordinate_dummy n is =
      let xs = map Of (scalar_components model) in
      get_or_from_slice_get (scalar_coordinates model) n Dummy Dummy (dummy_at xs n Dummy (is ∙ sym (length-map (scalar_components model) Of)))

  -- a coordinate that stands there
  pub coordinate_there : (n : ℕ) → n < length (scalar_coordinates model) → slice_get (scalar_coordinates model) n ≡ Some (coordinate_at model n)
  coordinate_there n inside = slice_get-get_or (scalar_coordinates model) n Dummy inside

  pub coordinate_is : (n : ℕ) (c : Coordinate) → slice_get (scalar_coordinates model) n ≡ Some c → coordinate_at model n ≡ c
  coordinate_is n c there = get_or_from_slice_get (scalar_coordinates model) n c Dummy there

  module _ (place other : ℕ) (inside : place < length (scalar_coordinates model)) (found : slice_get (scalar_coordinates model) other ≡ option_map partner (slice_get (scalar_coordinates model) place)) where
    partner_there : slice_get (scalar_coordinates model) other ≡ Some (partner (coordinate_at model place))
    partner_there = found ∙ ap (option_map partner) (coordinate_there place inside)

    -- the partner's place, and the partner
    pub partner_inside : other < length (scalar_coordinates model)
    partner_inside = slice_get_within (scalar_coordinates model) other (partner (coordinate_at model place)) partner_there

    pub partner_is : coordinate_at model other ≡ partner (coordinate_at model place)
    partner_is = coordinate_is other (partner (coordinate_at model place)) partner_there

-- ---- matrices by their places

module _ (model : Model) (matrices : Coordinate → Matrix) where
  pub matrices_count : (cs : List Coordinate) (ts : List Tensor) → AreMatrices model matrices cs ts → length ts ≡ length cs
  matrices_count [] [] all = refl
  matrices_count [] (t ∷ ts) all = absurd all
  matrices_count (c ∷ cs) [] all = absurd all
  matrices_count (c ∷ cs) (t ∷ ts) all = ap suc (matrices_count cs ts all.1)

  -- the matrix at the coordinate of its place
  pub matrix_there : (cs : List Coordinate) (ts : List Tensor) → AreMatrices model matrices cs ts → (i : ℕ) (t : Tensor) → slice_get ts i ≡ Some t → IsLinear model (matrices (get_or cs i Dummy)) t
  matrix_there [] [] all i t there = absurd (omega (arith, slice_get_within [] i t there))
  matrix_there [] (s ∷ ts) all i t there = absurd all
  matrix_there (c ∷ cs) [] all i t there = absurd all
  matrix_there (c ∷ cs) (s ∷ ts) all zero t there = subst (IsLinear model (matrices c)) (same_Some s t there) all.0
  matrix_there (c ∷ cs) (s ∷ ts) all (suc i) t there = matrix_there cs ts all.1 i t there
