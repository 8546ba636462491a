-- Matrices at the places of two components.
use Rattle.std.specs.Prelude.{◌≡◌, ℕ, false, List, [], ◌∷◌, length, slice_get, Option, Some, None, option_map}
use Rattle.std.proofs.Common.{refl, sym, ap, ap₂, ◌∙◌, arith}
use Rattle.std.proofs.lemmas.Option.{slice_get-map}
use Rattle.frac128.specs.Rational.{zero_ℚ}
use Rattle.beta_poly.specs.Polynomial.{Polynomial, zero_poly}
use Rattle.model_core.specs.declared.field.Field.{Field}
use Rattle.model_core.specs.declared.model.Model.{Model}
use Rattle.model_core.specs.Component.{Component, fermion_components}
use Rattle.model_core.specs.Scalar.Coordinate.{Of}
use Rattle.model_core.specs.TermTensor.{with_coordinate, value_or}
use Rattle.beta_formulas.specs.YukawaBeta.{Matrix}
use Rattle.yukawa_one_loop.specs.Matrices.{entry_at, matrix_at}

-- what holds of two places holds of a key of two
pub of_two : (P : List ℕ → Type 0) → ((j k : ℕ) → P (j ∷ k ∷ [])) → (key : List ℕ) → length key ≡ 2 → P key
of_two P h [] l = absurd (omega arith)
of_two P h (j ∷ []) l = absurd (omega arith)
of_two P h (j ∷ k ∷ []) l = h j k
of_two P h (j ∷ k ∷ i ∷ key) l = absurd (omega arith)

no_field : Field
no_field = record { name = []; generations = 0; charge = zero_ℚ; reps = []; real = false }

-- a component for places that none has
pub nobody : Component
nobody = record { field = no_field; conj = false; generation = 0; values = [] }

-- a matrix at two components, 0 where one is missing
abbrev pub pair_at : Matrix → Option Component → Option Component → Polynomial
pair_at matrix (Some j) (Some k) = matrix j k
pair_at matrix _ _ = zero_poly

pub no_row : (matrix : Matrix) (k : Option Component) → pair_at matrix None k ≡ zero_poly
no_row matrix (Some k) = refl
no_row matrix None = refl

pub no_column : (matrix : Matrix) (j : Option Component) → pair_at matrix j None ≡ zero_poly
no_column matrix (Some j) = refl
no_column matrix None = refl

at_options : (matrix : Matrix) (j k : Option Component) → value_or zero_poly (entry_at matrix) (with_coordinate (option_map Of j) (with_coordinate (option_map Of k) (Some []))) ≡ pair_at matrix j k
at_options matrix (Some j) (Some k) = refl
at_options matrix (Some j) None = refl
at_options matrix None (Some k) = refl
at_options matrix None None = refl

pub matrix_pair : (model : Model) (matrix : Matrix) (j k : ℕ) → matrix_at model matrix (j ∷ k ∷ []) ≡ pair_at matrix (slice_get (fermion_components model) j) (slice_get (fermion_components model) k)
matrix_pair model matrix j k =
    let cs = fermion_components model in
    ap₂ (λ x y. value_or zero_poly (entry_at matrix) (with_coordinate x (with_coordinate y (Some [])))) (slice_get-map Of cs j) (slice_get-map Of cs k)
    ∙ at_options matrix (slice_get cs j) (slice_get cs k)

pair_image : (h : Polynomial → Polynomial) → h zero_poly ≡ zero_poly → (matrix : Matrix) (j k : Option Component) → h (pair_at matrix j k) ≡ pair_at (λ x y. h (matrix x y)) j k
pair_image h none matrix (Some j) (Some k) = refl
pair_image h none matrix (Some j) None = none
pair_image h none matrix None (Some k) = none
pair_image h none matrix None None = none

-- a function of values that takes 0 to 0, entry by entry
pub matrix_image : (model : Model) (h : Polynomial → Polynomial) → h zero_poly ≡ zero_poly → (matrix : Matrix) (key : List ℕ) → length key ≡ 2 → h (matrix_at model matrix key) ≡ matrix_at model (λ x y. h (matrix x y)) key
matrix_image model h none matrix =
    of_two (λ key. h (matrix_at model matrix key) ≡ matrix_at model (λ x y. h (matrix x y)) key) (λ j k.
    let cs = fermion_components model in
    ap h (matrix_pair model matrix j k)
    ∙ pair_image h none matrix (slice_get cs j) (slice_get cs k)
    ∙ sym (matrix_pair model (λ x y. h (matrix x y)) j k))
