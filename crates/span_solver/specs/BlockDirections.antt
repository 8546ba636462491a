-- The directions of a block, among those of a model.
use Rattle.std.specs.Prelude.{◌≡◌, ◌≢◌, ⊤, ℕ, Bool, true, ◌==◌, ◌&&◌, false, List, [], ◌∷◌, map, take, slice_get, Some}
use Rattle.std.specs.List.{All, filter}
use Rattle.beta_poly.specs.Monomial.{one_monomial}
use Rattle.beta_poly.specs.Polynomial.{coefficient_of}
use Rattle.beta_poly.specs.Refusals.{IsRefusedPair}
use Rattle.sparse_tensor.specs.Constants.{AllConstant}
use Rattle.sparse_tensor.specs.Tensor.{rank_of, value}
use Rattle.term_expand.specs.declared.directions.Direction.{Direction}
use Rattle.term_expand.specs.declared.token.Token.{Token}
use Rattle.span_solver.specs.Dependence.{Numbers, IsDependent, AreIndependent}
use Rattle.span_solver.specs.declared.fault.SpanFault.{SpanFault}
use Rattle.span_solver.specs.declared.fault.SpanFault.TheVariants as fault

-- the numbers of a direction
abbrev pub numbers_of : Direction → Numbers
numbers_of direction key = coefficient_of (value direction.tensor key) one_monomial

-- ---- names of blocks

abbrev pub same_bool : Bool → Bool → Bool
same_bool true other = other
same_bool false true = false
same_bool false false = true

abbrev pub same_token : Token → Token → Bool
same_token a b =
    same_bool a.fermion b.fermion && ((a.field == b.field) && (same_bool a.conj b.conj && ((a.generation == b.generation) && same_bool a.dummy b.dummy)))

abbrev pub same_name : List Token → List Token → Bool
same_name [] [] = true
same_name (a ∷ first) (b ∷ second) = same_token a b && same_name first second
same_name _ _ = false

abbrev pub is_named : List Token → Direction → Bool
is_named name direction = same_name direction.block name

-- ---- the block

-- the directions of a block, in the order of the list
abbrev pub block_directions : List Direction → List Token → List Direction
block_directions directions name = filter (is_named name) directions

abbrev pub block_numbers : List Direction → List Token → List Numbers
block_numbers directions name = map numbers_of (block_directions directions name)

-- the tensor has keys of this rank and entries without symbols
pub record HasForm (rank : ℕ) (direction : Direction) : Type 0 where
  pub rank_is : rank_of direction.tensor ≡ rank
  pub numbers : AllConstant direction.tensor

-- the directions of a block have keys of one rank, and entries without symbols
pub record HaveForm (directions : List Direction) (name : List Token) : Type 0 where
  pub rank : ℕ
  pub each : All (HasForm rank) (block_directions directions name)

-- The direction at a place of the list is the block's first one that is dependent on earlier ones of the block.
pub record IsDependentPlace (directions : List Direction) (name : List Token) (place : ℕ) : Type 0 where
  pub direction : Direction
  pub stands : slice_get directions place ≡ Some direction
  pub named : is_named name direction ≡ true
  pub dependent : IsDependent (block_numbers (take place directions) name) (numbers_of direction)
  pub first : AreIndependent (block_numbers (take place directions) name)

-- why there is no block: a dependent direction, or a refused pair of fractions, which comes only where the block has a direction; want of memory says nothing
abbrev pub IsSpanFault : List Direction → List Token → SpanFault → Type 0
IsSpanFault directions name (fault.Dependent place) = IsDependentPlace directions name place
IsSpanFault directions name (fault.Overflow pair) = (block_directions directions name ≢ []) × IsRefusedPair pair.a pair.b
IsSpanFault directions name fault.NoMemory = ⊤
