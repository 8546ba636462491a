-- What the expansion of a model is.
use Rattle.std.specs.List.{All, flat_map}
use Rattle.std.specs.Prelude.{◌≡◌, ◌+◌, ℕ, ⊤, List, [], ◌∷◌, ◌++◌, map, length}
use Rattle.beta_poly.specs.Polynomial.{Polynomial, poly_ring, zero_poly, add_poly, constant}
use Rattle.exact_algebra.specs.Sums.{sum}
use Rattle.beta_poly.specs.declared.symbol.Symbol.{Symbol}
use Rattle.sparse_tensor.specs.declared.values.Value.{Value}
use Rattle.sparse_tensor.specs.Tensor.{HasValues}
use Rattle.sparse_tensor.specs.Operations.{entry, gathered_at}
use Rattle.model_core.specs.declared.model.Model.{Model}
use Rattle.model_core.specs.declared.term.TermKind.{TermKind}
use Rattle.model_core.specs.declared.term.TermKind.TheVariants.{Fermion, Scalar}
use Rattle.model_core.specs.TermTensor.{legs_of, at_places}
use Rattle.model_core.specs.declared.term.Term.{Term}
use Rattle.model_core.specs.declared.content.FieldToken.{FieldToken}
use Rattle.model_core.specs.Directions.{CouplingEntry, Direction, directions, entry_directions, yukawa_part, scalar_part, yukawa_at, scalar_at}
use Rattle.term_expand.specs.declared.directions.Direction.{Direction as Found}
use Rattle.term_expand.specs.declared.expansion.Tensors.{Tensors}
use Rattle.term_expand.specs.declared.expansion.Sums.{Sums}
use Rattle.term_expand.specs.declared.expansion.Place.{Place}
use Rattle.term_expand.specs.Texts.{leg_count}
use Rattle.term_expand.specs.Tokens.{block_name}

-- a direction with these parts, whose numbers are the sums of values
pub record IsMeant (place : ℕ) (kind : TermKind) (symbol : Symbol) (block : List FieldToken) (values : List Value) (meant : Direction) : Type 0 where
  pub place_is : meant.place ≡ place
  pub kind_is : meant.kind ≡ kind
  pub symbol_is : meant.symbol ≡ symbol
  pub block_is : meant.block ≡ block
  pub numbers : (key : List ℕ) → length key ≡ 1 + leg_count kind → gathered_at (map entry values) key ≡ constant (meant.numbers key)

-- a direction as it is defined: its tensor has its numbers at keys of a side and the legs
pub record IsDirection (meant : Direction) (found : Found) : Type 0 where
  pub place : found.term ≡ meant.place
  pub symbol : found.symbol ≡ meant.symbol
  pub block : found.block ≡ block_name meant.block (leg_count meant.kind)
  pub numbers : HasValues (1 + leg_count meant.kind) (λ key. constant (meant.numbers key)) found.tensor

-- one by one
abbrev pub AreDirections : List Direction → List Found → Type 0
AreDirections [] [] = ⊤
AreDirections (meant ∷ others) (found ∷ rest) = IsDirection meant found × AreDirections others rest
AreDirections _ _ = ⊥

-- ---- what entries add

-- the parts of entries in the two tensors
abbrev pub yukawa_sum : Model → List CouplingEntry → List ℕ → Polynomial
yukawa_sum model entries = at_places zero_poly (legs_of model Fermion) (λ cs. sum poly_ring.semiring entries (yukawa_part model cs))

abbrev pub scalar_sum : Model → List CouplingEntry → List ℕ → Polynomial
scalar_sum model entries = at_places zero_poly (legs_of model Scalar) (λ cs. sum poly_ring.semiring entries (scalar_part model cs))

-- values after more values: keys of so many places, and these sums more
pub record AddsValues (legs : ℕ) (more : List ℕ → Polynomial) (old new : List Value) : Type 0 where
  pub keys : All (λ v. length v.key ≡ legs) old → All (λ v. length v.key ≡ legs) new
  pub sums : (key : List ℕ) → length key ≡ legs → gathered_at (map entry new) key ≡ add_poly (gathered_at (map entry old) key) (more key)

-- the sums after some entries
pub record Adds (model : Model) (entries : List CouplingEntry) (old new : Sums) : Type 0 where
  pub yukawa : AddsValues 3 (yukawa_sum model entries) old.yukawa new.yukawa
  pub scalar : AddsValues 4 (scalar_sum model entries) old.scalar new.scalar
  pub directions : (before : List Direction) → AreDirections before old.directions → AreDirections (before ++ flat_map (entry_directions model) entries) new.directions

-- the sums of no entries
abbrev pub no_sums : Sums
no_sums = record { yukawa = []; scalar = []; directions = [] }

-- the entry of a term's coupling at a row and a column
abbrev pub entry_of : Place → Term → ℕ → ℕ → CouplingEntry
entry_of place term row column = record { place = place.term; term = term; id = place.id; row = row; column = column }

-- the Yukawa tensor, the scalar tensor and the directions of a model
pub record IsExpansion (model : Model) (tensors : Tensors) : Type 0 where
  pub yukawa : HasValues 3 (yukawa_at model) tensors.yukawa
  pub scalar : HasValues 4 (scalar_at model) tensors.scalar
  pub directions : AreDirections (directions model) tensors.directions
