-- What a block knows of its directions, and what it says of a tensor.
use Rattle.std.specs.Prelude.{◌≡◌, ◌⊎◌, ⊤, ℕ, List, [], ◌∷◌, length, map}
use Rattle.std.proofs.Common.{Less}
use Rattle.exact_algebra.specs.TensorContraction.{places_cmp}
use Rattle.frac128.specs.Rational.{ℚ}
use Rattle.sparse_tensor.specs.Tensor.{Tensor, rank_of, value}
use Rattle.span_solver.specs.Combine.{Each, AreZero}
use Rattle.span_solver.specs.Coordinate.{AreCoordinates, IsOpenAt}
use Rattle.span_solver.specs.Dependence.{Numbers}
use Rattle.span_solver.specs.declared.solved.Solved.{Solved}
use Rattle.span_solver.specs.declared.solved.Solved.TheVariants.{Coordinates, NotSpanned}

-- the key stands in the list
abbrev pub IsIn : List ℕ → List (List ℕ) → Type 0
IsIn key [] = ⊥
IsIn key (k ∷ keys) = (key ≡ k) ⊎ IsIn key keys

-- each key comes before those behind it
abbrev pub Ascend : List (List ℕ) → Type 0
Ascend [] = ⊤
Ascend (k ∷ keys) = Each (λ j. places_cmp k j ≡ Less) keys × Ascend keys

-- the numbers of the directions at a key, in their order
abbrev pub numbers_at : List Numbers → List ℕ → List ℚ
numbers_at directions key = map (λ d. d key) directions

-- the number of directions, and the keys at which one of them may be other than 0, each with the directions' numbers there
pub record BlockRows : Type 0 where
  pub count : ℕ
  pub keys : List (List ℕ)
  pub rows : List (List ℚ)

abbrev pub block_rows : ℕ → List (List ℕ) → List (List ℚ) → BlockRows
block_rows n ks es = record { count = n; keys = ks; rows = es }

-- The rows are those of the directions: at each key of the block their numbers, and at every other key all directions are 0.
pub record IsBlock (directions : List Numbers) (block : BlockRows) : Type 0 where
  pub many : block.count ≡ length directions
  pub rows_are : block.rows ≡ map (numbers_at directions) block.keys
  pub covers : (key : List ℕ) → IsIn key block.keys ⊎ AreZero (numbers_at directions key)
  pub ascend : Ascend block.keys

-- each key of the block has so many places
abbrev pub IsOfRank : ℕ → BlockRows → Type 0
IsOfRank rank block = Each (λ key. length key ≡ rank) block.keys

-- coordinates of the tensor, or the first key up to which there are none
abbrev pub IsSolved : List Numbers → Tensor → Solved → Type 0
IsSolved directions tensor (Coordinates coordinates) = AreCoordinates directions (value tensor) coordinates
IsSolved directions tensor (NotSpanned key) = IsOpenAt directions (value tensor) key × (length key ≡ rank_of tensor)
