-- What is told of the blocks: coordinates, or the first component up to which there are none.
use Rattle.std.specs.Prelude.{◌≡◌, ◌≢◌, ◌⊎◌, ⊤, ℕ, true, List, [], ◌∷◌, slice_get, Some}
use Rattle.std.specs.List.{All}
use Rattle.std.proofs.Common.{Less}
use Rattle.beta_poly.specs.Polynomial.{zero_poly}
use Rattle.model_core.specs.declared.model.Model.{Model}
use Rattle.model_core.specs.Directions.{Direction, directions}
use Rattle.term_expand.specs.declared.token.Token.{Token}
use Rattle.span_solver.specs.Coordinate.{AreCoordinates, IsOpenAt}
use Rattle.derive_core.specs.Blocks.{is_of, numbers_of}
use Rattle.derive_core.specs.BlockBetas.{name_cmp, block_beta}
use Rattle.derive_core.specs.declared.outcomes.Outcome.{Outcome}
use Rattle.derive_core.specs.declared.outcomes.Outcome.TheVariants.{Spanned, Unspanned}
use Rattle.derive_core.specs.declared.outcomes.Told.{Told}

-- What a block has: polynomials with which its directions add up to its beta tensor at every component, or the first component such
-- that none solve the equations up to it, and the beta tensor there. Without directions this is the first component at which the
-- beta tensor isn't 0.
abbrev pub IsOutcome : Model → List Token → Outcome → Type 0
IsOutcome model name (Spanned coordinates) = AreCoordinates (numbers_of name (directions model)) (block_beta model name) coordinates
IsOutcome model name (Unspanned key value) = IsOpenAt (numbers_of name (directions model)) (block_beta model name) key × (value ≡ block_beta model name key)

-- ---- the blocks of which something is told

-- a direction in the block
pub record HasCoupling (model : Model) (name : List Token) : Type 0 where
  pub place : ℕ
  pub direction : Direction
  pub stands : slice_get (directions model) place ≡ Some direction
  pub in_block : is_of name direction ≡ true

-- a component at which the block's beta tensor isn't 0
pub record HasBeta (model : Model) (name : List Token) : Type 0 where
  pub key : List ℕ
  pub other : block_beta model name key ≢ zero_poly

abbrev pub HasSomething : Model → List Token → Type 0
HasSomething model name = HasCoupling model name ⊎ HasBeta model name

-- a block of which this is told
pub record IsTold (model : Model) (told : Told) : Type 0 where
  pub something : HasSomething model told.block
  pub outcome : IsOutcome model told.block told.outcome

-- the names ascend
abbrev pub Ascend : List Told → Type 0
Ascend [] = ⊤
Ascend (first ∷ []) = ⊤
Ascend (first ∷ second ∷ others) = (name_cmp first.block second.block ≡ Less) × Ascend (second ∷ others)

-- a block is among those told
abbrev pub IsAmong : List Token → List Told → Type 0
IsAmong name [] = ⊥
IsAmong name (first ∷ others) = (name ≡ first.block) ⊎ IsAmong name others

-- what is told of a model: in the order of names each block with a coupling or a beta tensor other than 0, with its outcome
pub record AreTold (model : Model) (told : List Told) : Type 0 where
  pub order : Ascend told
  pub each : All (IsTold model) told
  pub every : (name : List Token) → HasSomething model name → IsAmong name told
