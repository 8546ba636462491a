-- The lines of a derivation: gauge couplings, then the other couplings in the order of their symbols, then the open and the generated
-- blocks in the order of their names, those with fermions first.
use Rattle.std.specs.Prelude.{◌==◌, ℕ, Bool, not, if◌then◌else◌, List, [], ◌∷◌, ◌++◌, map, length, slice_get, Option, Some, None}
use Rattle.std.specs.List.{enumerate_from, flat_map, list_any}
use Rattle.beta_poly.specs.Monomial.{power}
use Rattle.beta_poly.specs.Polynomial.{Polynomial, term as poly_term}
use Rattle.model_core.specs.declared.field.Field.{Field}
use Rattle.model_core.specs.declared.group.Group.{Group}
use Rattle.model_core.specs.declared.leg.Leg.{Leg}
use Rattle.model_core.specs.declared.leg.Leg.TheVariants.{Fermion as FermionLeg, Scalar as ScalarLeg, Dummy as DummyLeg}
use Rattle.model_core.specs.declared.model.Model.{Model}
use Rattle.model_core.specs.declared.term.TermKind.{TermKind}
use Rattle.model_core.specs.declared.term.TermKind.TheVariants.{Fermion, Scalar}
use Rattle.model_core.specs.Directions.{Direction, directions}
use Rattle.model_core.specs.GaugeBeta.{gauge_one_loop}
use Rattle.model_core.specs.GaugeTwoLoop.{gauge_symbol, gauge_two_loop}
use Rattle.model_core.specs.Invariance.{component_legs}
use Rattle.model_core.specs.Leg.{printed_generation}
use Rattle.term_expand.specs.declared.token.Token.{Token}
use Rattle.span_solver.specs.BlockDirections.{same_name}
use Rattle.derive_core.specs.Blocks.{name_of, is_of, directions_of}
use Rattle.derive_core.specs.declared.betas.Line.{Line}
use Rattle.derive_core.specs.declared.betas.Line.TheVariants.{Beta, NotSpanned, Generated}
use Rattle.derive_core.specs.declared.outcomes.Outcome.{Outcome}
use Rattle.derive_core.specs.declared.outcomes.Outcome.TheVariants.{Spanned, Unspanned}
use Rattle.derive_core.specs.declared.outcomes.Told.{Told}

-- ---- gauge couplings

-- the one-loop beta function of the gauge coupling of the group at a place
abbrev pub gauge_line : Model → ℕ × Group → Line
gauge_line model at = Beta at.0 1 (poly_term (power (gauge_symbol at.0) 3) (gauge_one_loop model at.0 at.1))

-- the two-loop one
abbrev pub second_line : Model → ℕ × Group → Line
second_line model at = Beta at.0 2 (gauge_two_loop model at)

-- the two-loop line of a coupling with this beta function
abbrev pub second_of : ℕ × Polynomial → Line
second_of at = Beta at.0 2 at.1

-- the two-loop lines, where two loops are asked for
abbrev pub second_lines : ℕ → Model → List Line
second_lines loops model = if loops == 2 then map (second_line model) (enumerate_from 0 model.groups) else []

-- those of one loop first
abbrev pub gauge_lines : ℕ → Model → List Line
gauge_lines loops model = map (gauge_line model) (enumerate_from 0 model.groups) ++ second_lines loops model

-- ---- the other couplings

-- the outcome of a block
abbrev pub outcome_in : List Token → List Told → Option Outcome
outcome_in name [] = None
outcome_in name (first ∷ others) = if same_name first.block name then Some first.outcome else outcome_in name others

-- the line of a symbol with its coordinate
abbrev pub line_of : ℕ → Option Polynomial → List Line
line_of id (Some coordinate) = Beta id 1 coordinate ∷ []
line_of id None = []

-- where the block has coordinates, with that of the direction at a place among the block's
abbrev pub coordinate_line : ℕ → ℕ → Option Outcome → List Line
coordinate_line id place (Some (Spanned coordinates)) = line_of id (slice_get coordinates place)
coordinate_line id place _ = []

-- a plain direction has a line
abbrev pub has_line : Direction → Bool
has_line direction = not direction.symbol.conj

-- the line of a direction behind earlier ones
abbrev pub direction_line : List Told → List Direction → Direction → List Line
direction_line told earlier direction =
    if has_line direction
    then coordinate_line direction.symbol.id (length (directions_of (name_of direction) earlier)) (outcome_in (name_of direction) told)
    else []

-- those of all directions
abbrev pub coupling_lines_after : List Told → List Direction → List Direction → List Line
coupling_lines_after told earlier [] = []
coupling_lines_after told earlier (direction ∷ others) =
    direction_line told earlier direction ++ coupling_lines_after told (earlier ++ direction ∷ []) others

abbrev pub coupling_lines : Model → List Told → List Line
coupling_lines model told = coupling_lines_after told [] (directions model)

-- ---- blocks without coordinates

-- the name of the field at a place and its generation as it is printed, with which a leg is made
abbrev pub named_leg : (List ℕ → Bool → ℕ → List ℕ → Leg) → Token → Option Field → Leg
named_leg leg token (Some field) = leg field.name token.conj (printed_generation field token.generation) []
named_leg leg token None = DummyLeg

-- a token as a leg without slot values
abbrev pub token_leg : Model → Token → Leg
token_leg model token =
    if token.dummy then DummyLeg
    else if token.fermion then named_leg FermionLeg token (slice_get model.fermions token.field)
    else named_leg ScalarLeg token (slice_get model.scalars token.field)

abbrev pub block_legs : Model → List Token → List Leg
block_legs model name = map (token_leg model) name

-- the legs at a key, which has a side before the places of two fermions and a scalar, or of four scalars
abbrev pub key_kind : List ℕ → TermKind
key_kind (side ∷ j ∷ k ∷ a ∷ []) = Fermion
key_kind _ = Scalar

abbrev pub key_legs : Model → List ℕ → List Leg
key_legs model key = component_legs model (key_kind key) key

-- no direction is in the block
abbrev pub is_bare : Model → List Token → Bool
is_bare model name = not (list_any (is_of name) (directions model))

abbrev pub open_with : Model → List Token → Outcome → List Line
open_with model name (Unspanned key value) =
    if is_bare model name then [] else NotSpanned (block_legs model name) (key_legs model key) ∷ []
open_with model name _ = []

abbrev pub open_line : Model → Told → List Line
open_line model told = open_with model told.block told.outcome

abbrev pub generated_with : Model → List Token → Outcome → List Line
generated_with model name (Unspanned key value) =
    if is_bare model name then Generated (block_legs model name) (key_legs model key) value ∷ [] else []
generated_with model name _ = []

abbrev pub generated_line : Model → Told → List Line
generated_line model told = generated_with model told.block told.outcome

-- ---- all

-- what is told of the blocks
abbrev pub block_lines : Model → List Told → List Line
block_lines model told =
    coupling_lines model told ++ flat_map (open_line model) told ++ flat_map (generated_line model) told

-- the lines of a model to one loop or two, with what is told of its blocks
abbrev pub lines : ℕ → Model → List Told → List Line
lines loops model told = gauge_lines loops model ++ block_lines model told
