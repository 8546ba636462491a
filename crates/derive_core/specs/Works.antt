-- What the steps towards the outcomes of blocks find.
use Rattle.std.specs.Prelude.{◌≡◌, ◌≢◌, ◌<◌, ℕ, Bool, false, nat_lt, ◌&&◌, List, [], ◌∷◌, length, slice_get, Option, Some, None}
use Rattle.std.specs.List.{All}
use Rattle.beta_poly.specs.Polynomial.{Polynomial, zero_poly}
use Rattle.sparse_tensor.specs.Tensor.{Tensor, HasValues, rank_of, entries_of, value}
use Rattle.model_core.specs.declared.model.Model.{Model}
use Rattle.model_core.specs.Component.{fermion_components}
use Rattle.model_core.specs.Directions.{Direction, directions}
use Rattle.model_core.specs.Scalar.{scalar_coordinates}
use Rattle.beta_formulas.specs.ScalarBeta.{scalar_beta_at}
use Rattle.beta_formulas.specs.YukawaBeta.{yukawa_beta_at}
use Rattle.span_solver.specs.BlockDirections.{same_name}
use Rattle.span_solver.specs.Coordinate.{AreCoordinates, IsOpenAt}
use Rattle.span_solver.specs.Dependence.{Numbers}
use Rattle.term_expand.specs.declared.token.Token.{Token}
use Rattle.derive_core.specs.Blocks.{name_of}
use Rattle.derive_core.specs.Components.{IsComponents}
use Rattle.derive_core.specs.Lines.{lines}
use Rattle.derive_core.specs.Outcomes.{IsTold, Ascend, IsAmong, HasSomething, AreTold}
use Rattle.derive_core.specs.SideBetas.{AreSideBetas}
use Rattle.derive_core.specs.BlockBetas.{IsLegCount, name_at, side_beta}
use Rattle.derive_core.specs.declared.betas.Line.{Line}
use Rattle.derive_core.specs.declared.block_betas.SideBetas.{SideBetas}
use Rattle.derive_core.specs.declared.outcomes.Outcome.{Outcome}
use Rattle.derive_core.specs.declared.outcomes.Outcome.TheVariants.{Spanned, Unspanned}
use Rattle.derive_core.specs.declared.outcomes.Told.{Told}
use Rattle.derive_core.specs.declared.outcomes.Work.{Work}
use Rattle.derive_core.specs.declared.survey.Solver.{Solver}

-- the components of a model, and its beta tensors on both sides
pub record IsWork (model : Model) (work : Work) : Type 0 where
  pub components : IsComponents model work.components
  pub sides : AreSideBetas model work.sides

-- what some directions have of a tensor
abbrev pub IsOutcomeOf : List Numbers → Tensor → Outcome → Type 0
IsOutcomeOf directions tensor (Spanned coordinates) = AreCoordinates directions (value tensor) coordinates
IsOutcomeOf directions tensor (Unspanned key found) = IsOpenAt directions (value tensor) key × ((found ≡ value tensor key) × (length key ≡ rank_of tensor))

-- a block that is told of has three legs or four
pub record HasLegs (told : Told) : Type 0 where
  pub count : IsLegCount (length told.block)

-- some blocks are told, in the order of their names
pub record AreSome (model : Model) (told : List Told) : Type 0 where
  pub order : Ascend told
  pub each : All (IsTold model) told
  pub legs : All HasLegs told

-- each name that is among some is among others
abbrev pub AreKept : List Told → List Told → Type 0
AreKept old new = (name : List Token) → IsAmong name old → IsAmong name new

-- more blocks are told, this one among them
pub record TellsOf (model : Model) (name : List Token) (old new : List Told) : Type 0 where
  pub some : AreSome model new
  pub kept : AreKept old new
  pub among : IsAmong name new

-- what is told of a model, whole
pub record IsWholeTold (model : Model) (told : List Told) : Type 0 where
  pub are : AreTold model told
  pub legs : All HasLegs told

-- the key of an entry of a beta tensor on a side
pub record IsEntryKey (model : Model) (side : ℕ) (key : List ℕ) : Type 0 where
  pub long : IsLegCount (length key)
  pub other : side_beta model side key ≢ zero_poly

-- the values of a beta tensor on a side
pub record AreSideValues (model : Model) (side : ℕ) (tensor : Tensor) : Type 0 where
  pub legs : IsLegCount (rank_of tensor)
  pub values : HasValues (rank_of tensor) (side_beta model side) tensor

-- a block of a name stands among some
pub record IsSolverAmong (solvers : List Solver) (name : List Token) (found : Solver) : Type 0 where
  pub named : found.name ≡ name
  pub place : ℕ
  pub there : slice_get solvers place ≡ Some found

-- the Yukawa beta tensor of a model, which has no entry where the model has no term
pub record IsYukawaBeta (tensor : Tensor) (model : Model) : Type 0 where
  pub values : HasValues 3 (yukawa_beta_at model) tensor
  pub none : model.terms ≡ [] → entries_of tensor ≡ []

-- the scalar beta tensor of a model, which has no entry where the model has no scalar field
pub record IsScalarBeta (tensor : Tensor) (model : Model) : Type 0 where
  pub values : HasValues 4 (scalar_beta_at model) tensor
  pub none : model.scalars ≡ [] → entries_of tensor ≡ []

-- both on the sides of blocks, without an entry where the model has neither a term nor a scalar field
pub record AreSides (sides : SideBetas) (model : Model) : Type 0 where
  pub are : AreSideBetas model sides
  pub no_yukawa : model.terms ≡ [] → entries_of sides.yukawa ≡ []
  pub no_conjugate_yukawa : model.terms ≡ [] → entries_of sides.conjugate_yukawa ≡ []
  pub no_scalar : model.scalars ≡ [] → entries_of sides.scalar ≡ []
  pub no_conjugate_scalar : model.scalars ≡ [] → entries_of sides.conjugate_scalar ≡ []

-- whether the block at a place has a name
abbrev pub is_named : Option Told → List Token → Bool
is_named (Some told) name = same_name told.block name
is_named None name = false

abbrev pub is_at : List Told → ℕ → List Token → Bool
is_at told place name = is_named (slice_get told place) name

-- a name of a block with something to tell
pub record MayBeTold (model : Model) (name : List Token) : Type 0 where
  pub something : HasSomething model name
  pub legs : IsLegCount (length name)

-- the blocks of the first directions are told
abbrev pub TellsDirections : Model → ℕ → List Told → Type 0
TellsDirections model count told =
    (place : ℕ) (direction : Direction) → place < count → slice_get (directions model) place ≡ Some direction → IsAmong (name_of direction) told

-- some blocks are told, those of the first directions among them
pub record AreDirectionsTold (model : Model) (count : ℕ) (told : List Told) : Type 0 where
  pub some : AreSome model told
  pub tells : TellsDirections model count told

-- the blocks of the first entries on a side are told
abbrev pub TellsEntries : Model → ℕ → Tensor → ℕ → List Told → Type 0
TellsEntries model side tensor count told =
    (place : ℕ) (e : List ℕ × Polynomial) → place < count → slice_get (entries_of tensor) place ≡ Some e → IsAmong (name_at model (side ∷ e.0)) told

-- more blocks are told, those of the first entries on a side among them
pub record AreEntriesTold (model : Model) (side : ℕ) (tensor : Tensor) (count : ℕ) (old new : List Told) : Type 0 where
  pub some : AreSome model new
  pub kept : AreKept old new
  pub tells : TellsEntries model side tensor count new

-- more blocks are told, those of all entries of two tensors among them, one on each side
pub record AreSidesTold (model : Model) (one other : Tensor) (old new : List Told) : Type 0 where
  pub some : AreSome model new
  pub kept : AreKept old new
  pub plain : TellsEntries model 0 one (length (entries_of one)) new
  pub conjugate : TellsEntries model 1 other (length (entries_of other)) new

-- ---- lines

-- the lines of a model with what is told of its blocks
pub record AreLines (loops : ℕ) (found : List Line) (model : Model) : Type 0 where
  pub told : List Told
  pub are : AreTold model told
  pub is : found ≡ lines loops model told

-- whether the legs of Yukawa couplings have these places
abbrev pub are_places : Model → ℕ → ℕ → ℕ → Bool
are_places model j k a =
    nat_lt j (length (fermion_components model)) && (nat_lt k (length (fermion_components model)) && nat_lt a (length (scalar_coordinates model)))

-- whether those of scalar couplings do
abbrev pub are_scalar_places : Model → ℕ → ℕ → ℕ → ℕ → Bool
are_scalar_places model a b c d =
    nat_lt a (length (scalar_coordinates model)) && (nat_lt b (length (scalar_coordinates model)) && (nat_lt c (length (scalar_coordinates model)) && nat_lt d (length (scalar_coordinates model))))
