-- What a block has of a tensor with the values of its beta tensor is what it has of the beta tensor.
use Rattle.std.proofs.Common.{◌≡◌, ℕ, suc, Bool, true, false, List, [], ◌∷◌, map, length, Option, Some, None, refl, sym, ap, subst, ◌∙◌, inl, inr, arith, true≢false}
use Rattle.std.specs.Prelude.{◌==◌, slice_get, if◌then◌else◌}
use Rattle.std.specs.List.{filter}
use Rattle.std.proofs.lemmas.Bool.Decides.{nat_tests}
use mathlib.Core.Path.{fun_ext}
use Rattle.beta_poly.specs.Polynomial.{Polynomial, zero_poly}
use Rattle.sparse_tensor.specs.Tensor.{Tensor, HasValues, rank_of, entries_of, value}
use Rattle.model_core.specs.declared.model.Model.{Model}
use Rattle.model_core.specs.declared.term.TermKind.TheVariants.{Fermion}
use Rattle.model_core.specs.Directions.{Direction, directions}
use Rattle.model_core.specs.Scalar.{Coordinate}
use Rattle.model_core.specs.TermTensor.{legs_of, with_coordinate, coordinates_at, value_or, at_places}
use Rattle.span_solver.specs.BlockDirections.{same_name}
use Rattle.span_solver.specs.Coordinate.{AreCoordinates, IsOpenAt}
use Rattle.span_solver.specs.Dependence.{Numbers}
use Rattle.term_expand.specs.declared.token.Token.{Token}
use Rattle.derive_core.specs.Acceptance.{HaveSolvers}
use Rattle.derive_core.specs.Blocks.{name_of, is_of, tensor_of, numbers_of}
use Rattle.derive_core.specs.Outcomes.{IsOutcome}
use Rattle.derive_core.specs.Surveys.{HasSolver}
use Rattle.derive_core.specs.Works.{IsOutcomeOf}
use Rattle.derive_core.specs.BlockBetas.{IsLegCount, name_at, side_beta, block_beta}
use Rattle.derive_core.specs.declared.outcomes.Outcome.{Outcome}
use Rattle.derive_core.specs.declared.outcomes.Outcome.TheVariants.{Spanned, Unspanned}
use Rattle.derive_core.specs.declared.survey.Solver.{Solver}
use Rattle.derive_core.proofs.ConstantParts.{value_elsewhere}
use Rattle.derive_core.proofs.NameOrder.{name_same}
use Rattle.derive_core.proofs.NameSizes.{length-name_at}

-- ---- keys of another length

no_coordinate : (o : Option Coordinate) → with_coordinate o None ≡ None
no_coordinate (Some c) = refl
no_coordinate None = refl

too_many : (o : Option Coordinate) (r : Option (List Coordinate)) → r ≡ None → with_coordinate o r ≡ None
too_many o r none = ap (with_coordinate o) none ∙ no_coordinate o

no_coordinates : (legs : List (List Coordinate)) (key : List ℕ) → (length key ≡ length legs → ⊥) → coordinates_at legs key ≡ None
no_coordinates [] [] other = absurd (other refl)
no_coordinates [] (x ∷ key) other = refl
no_coordinates (leg ∷ legs) [] other = refl
no_coordinates (leg ∷ legs) (x ∷ key) other =
    too_many (slice_get leg x) (coordinates_at legs key) (no_coordinates legs key (λ same. other (ap suc same)))

pub places_elsewhere : (model : Model) (f : List Coordinate → Polynomial) (places : List ℕ) → (length places ≡ 3 → ⊥) → at_places zero_poly (legs_of model Fermion) f places ≡ zero_poly
places_elsewhere model f places other = ap (value_or zero_poly f) (no_coordinates (legs_of model Fermion) places other)

-- neither three places nor four
pub side_elsewhere : (model : Model) (side : ℕ) (places : List ℕ) → (IsLegCount (length places) → ⊥) → side_beta model side places ≡ zero_poly
side_elsewhere model side [] other = refl
side_elsewhere model side (j ∷ []) other = refl
side_elsewhere model side (j ∷ k ∷ []) other = refl
side_elsewhere model side (j ∷ k ∷ a ∷ []) other = absurd (other (inl refl))
side_elsewhere model side (a ∷ b ∷ c ∷ d ∷ []) other = absurd (other (inr refl))
side_elsewhere model side (a ∷ b ∷ c ∷ d ∷ e ∷ rest) other = refl

-- a side and a place for each token of the name
block_beta-elsewhere : (model : Model) (name : List Token) (key : List ℕ) → (length key ≡ suc (length name) → ⊥) → block_beta model name key ≡ zero_poly
block_beta-elsewhere model name [] other = refl
block_beta-elsewhere model name (side ∷ places) other = by_name (same_name (name_at model (side ∷ places)) name) refl
  where
    by_name : (b : Bool) → same_name (name_at model (side ∷ places)) name ≡ b → (if b then side_beta model side places else zero_poly) ≡ zero_poly
    by_name true named =
        side_elsewhere model side places
        (λ legs. other (ap suc (sym (length-name_at model side places legs) ∙ ap length (name_same (name_at model (side ∷ places)) name named))))
    by_name false named = refl

-- ---- the same function

by_length : (n : ℕ) (f g : List ℕ → Polynomial) → ((key : List ℕ) → length key ≡ n → f key ≡ g key) → ((key : List ℕ) → (length key ≡ n → ⊥) → f key ≡ g key) → (key : List ℕ) → f key ≡ g key
by_length n f g same other key = by_test (length key == n) refl
  where
    by_test : (b : Bool) → (length key == n) ≡ b → f key ≡ g key
    by_test true is = same key (grind (arith, nat_tests))
    by_test false is = other key (λ e. true≢false (grind (arith, nat_tests)))

pub same_function : (model : Model) (name : List Token) (t : Tensor) → HasValues (suc (length name)) (block_beta model name) t → value t ≡ block_beta model name
same_function model name t has =
    fun_ext (by_length (suc (length name)) (value t) (block_beta model name) has.value_is (λ key other. value_elsewhere (rank_of t) (entries_of t) key t.1.keys (λ same. other (same ∙ has.rank_is)) ∙ sym (block_beta-elsewhere model name key other)))

pub outcome_is : (model : Model) (name : List Token) (t : Tensor) (outcome : Outcome) (ds : List Numbers) → HasValues (suc (length name)) (block_beta model name) t → ds ≡ numbers_of name (directions model)
    → IsOutcomeOf ds t outcome → IsOutcome model name outcome
outcome_is model name t (Spanned coordinates) ds has are outcome =
    subst (λ f. AreCoordinates (numbers_of name (directions model)) f coordinates) (same_function model name t has) (subst (λ d. AreCoordinates d (value t) coordinates) are outcome)
outcome_is model name t (Unspanned key found) ds has are outcome = (
  subst (λ f. IsOpenAt (numbers_of name (directions model)) f key) (same_function model name t has) (subst (λ d. IsOpenAt d (value t) key) are outcome.0),
  outcome.1.0 ∙ ap (λ f. f key) (same_function model name t has),
)

-- ---- blocks without directions

filter_none : {A : Type 0} (test : A → Bool) (xs : List A) → ((place : ℕ) (x : A) → slice_get xs place ≡ Some x → test x ≡ false) → filter test xs ≡ []
filter_none test [] none = refl
filter_none test (x ∷ xs) none = rw (none 0 x refl) (filter_none test xs (λ place y at. none (suc place) y at))

not_named : (model : Model) (solvers : List Solver) (name : List Token) (direction : Direction) (b : Bool) → HasSolver (name_of direction) solvers → ¬ HasSolver name solvers → is_of name direction ≡ b → b ≡ false
not_named model solvers name direction true has none named = absurd (none (subst (λ n. HasSolver n solvers) (name_same (name_of direction) name named) has))
not_named model solvers name direction false has none named = refl

pub no_directions : (model : Model) (solvers : List Solver) (name : List Token) → HaveSolvers model solvers → ¬ HasSolver name solvers → numbers_of name (directions model) ≡ []
no_directions model solvers name have none =
    ap (map tensor_of) (filter_none (is_of name) (directions model) (λ place direction at.
    let is = not_named model solvers name direction (is_of name direction) (have.every place direction at) none refl in is))
