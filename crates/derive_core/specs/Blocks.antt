-- Blocks by their names, and directions that are combinations of earlier ones of their block.
use Rattle.std.specs.Prelude.{◌≡◌, ◌<◌, ℕ, Bool, List, map, take, slice_get, Some}
use Rattle.std.specs.List.{filter}
use Rattle.model_core.specs.Directions.{Direction}
use Rattle.term_expand.specs.declared.token.Token.{Token}
use Rattle.term_expand.specs.Texts.{leg_count}
use Rattle.term_expand.specs.Tokens.{block_name}
use Rattle.span_solver.specs.BlockDirections.{same_name}
use Rattle.span_solver.specs.Dependence.{Numbers, IsDependent}

-- a block is named by its tokens, the dummies included
abbrev pub name_of : Direction → List Token
name_of direction = block_name direction.block (leg_count direction.kind)

abbrev pub is_of : List Token → Direction → Bool
is_of name direction = same_name (name_of direction) name

-- the directions of a block among some, in their order
abbrev pub directions_of : List Token → List Direction → List Direction
directions_of name directions = filter (is_of name) directions

abbrev pub tensor_of : Direction → Numbers
tensor_of direction = direction.numbers

abbrev pub numbers_of : List Token → List Direction → List Numbers
numbers_of name directions = map tensor_of (directions_of name directions)

-- the direction at a place is, at every component, a combination with fractions of the earlier ones of its block
pub record IsDependentAt (directions : List Direction) (place : ℕ) : Type 0 where
  pub direction : Direction
  pub stands : slice_get directions place ≡ Some direction
  pub dependent : IsDependent (numbers_of (name_of direction) (take place directions)) direction.numbers

abbrev pub NoneIsDependent : List Direction → Type 0
NoneIsDependent directions = (place : ℕ) → ¬ IsDependentAt directions place

-- the first one that is dependent
pub record IsFirstDependent (directions : List Direction) (place : ℕ) : Type 0 where
  pub dependent : IsDependentAt directions place
  pub first : (earlier : ℕ) → earlier < place → ¬ IsDependentAt directions earlier
