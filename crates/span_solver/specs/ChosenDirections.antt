-- The directions of a block among those of a list: their places, and their keys as one list.
use Rattle.std.specs.Prelude.{◌≡◌, ℕ, List, [], ◌∷◌, map, take, slice_get, Some, true}
use Rattle.sparse_tensor.specs.Tensor.{entries_of}
use Rattle.sparse_tensor.specs.declared.fault.TensorFault.{TensorFault}
use Rattle.sparse_tensor.specs.declared.fault.TensorFault.TheVariants.{Overflow as TensorOverflow, NoMemory as TensorNoMemory}
use Rattle.term_expand.specs.declared.directions.Direction.{Direction}
use Rattle.term_expand.specs.declared.token.Token.{Token}
use Rattle.span_solver.specs.BlockDirections.{block_directions, is_named}
use Rattle.span_solver.specs.MergedKeys.{merge_keys}
use Rattle.span_solver.specs.declared.fault.SpanFault.{SpanFault}

-- the block's direction with this number stands at the place
pub record IsNamedPlace (directions : List Direction) (name : List Token) (number place : ℕ) : Type 0 where
  pub direction : Direction
  pub stands : slice_get directions place ≡ Some direction
  pub named : is_named name direction ≡ true
  pub before : block_directions (take place directions) name ≡ take number (block_directions directions name)
  pub own : slice_get (block_directions directions name) number ≡ Some direction

-- the keys of a direction's tensor, in their order
abbrev pub keys_of : Direction → List (List ℕ)
keys_of direction = map (λ e. e.0) (entries_of direction.tensor)

-- keys with those of directions, one direction after another
abbrev pub gathered_keys : List (List ℕ) → List Direction → List (List ℕ)
gathered_keys keys [] = keys
gathered_keys keys (direction ∷ directions) = gathered_keys (merge_keys keys (keys_of direction)) directions

-- the fault of an operation on tensors
abbrev pub span_fault : TensorFault → SpanFault
span_fault (TensorOverflow pair) = SpanFault.Overflow pair
span_fault TensorNoMemory = SpanFault.NoMemory
