-- Gauge invariance of the terms' directions, and hermiticity of scalar terms.
use Rattle.std.specs.Prelude.{ℕ, zero, suc, ◌+◌, Bool, false, not, ◌||◌, if◌then◌else◌, List, [], ◌∷◌, ◌++◌, map, length, slice_get, Option, Some}
use Rattle.std.specs.List.{flat_map, list_any, range_with_len}
use Rattle.exact_algebra.specs.Sums.{below}
use Rattle.frac128.specs.Rational.{ℚ, zero_ℚ, ◌+ℚ◌, ◌*ℚ◌, eq_ℚ}
use Rattle.frac128.specs.RationalLaws.{ring_ℚ}
use Rattle.model_core.specs.declared.model.Model.{Model}
use Rattle.model_core.specs.declared.term.TermKind.{TermKind}
use Rattle.model_core.specs.declared.term.TermKind.TheVariants.{Fermion, Scalar}
use Rattle.model_core.specs.declared.term.Term.{Term}
use Rattle.model_core.specs.Scalar.{Coordinate, partner, scalar_coordinates}
use Rattle.model_core.specs.Scalar.Coordinate.{Of, Dummy}
use Rattle.model_core.specs.Content.{is_fermionic, symbol_count}
use Rattle.model_core.specs.Leg.{leg_of, scalar_leg_of}
use Rattle.model_core.specs.TermTensor.{legs_of, fermion_coordinates, at_places}
use Rattle.model_core.specs.Directions.{CouplingEntry, numbered, cells, entry_tensor, Direction, entry_directions}
use Rattle.model_core.specs.declared.generator.Generator.{Generator}
use Rattle.model_core.specs.declared.leg.Leg.{Leg}
use Rattle.model_core.specs.declared.leg.Leg.TheVariants.{Dummy as DummyLeg}
use Rattle.model_core.specs.Generators.{generators, coordinate_generator}

-- ---- the action on a tensor

-- a matrix at two places of a leg, 0 where the leg has no such place
abbrev pub matrix_or_zero : (Coordinate → Coordinate → ℚ) → Option Coordinate → Option Coordinate → ℚ
matrix_or_zero matrix (Some c) (Some d) = matrix c d
matrix_or_zero matrix _ _ = zero_ℚ

abbrev pub matrix_at : (Coordinate → Coordinate → ℚ) → List Coordinate → ℕ → ℕ → ℚ
matrix_at matrix leg x y = matrix_or_zero matrix (slice_get leg x) (slice_get leg y)

-- The sum over legs of the action of a matrix. On one leg it is at the place y the sum over x of the entry at (x, y) times
-- the tensor at x.
unfoldable pub acted : (Coordinate → Coordinate → ℚ) → List (List Coordinate) → (List ℕ → ℚ) → List ℕ → ℚ
acted matrix (leg ∷ legs) f (y ∷ key) =
    below ring_ℚ.semiring (length leg) (λ x. matrix_at matrix leg x y *ℚ f (x ∷ key)) +ℚ acted matrix legs (λ rest. f (y ∷ rest)) key
acted matrix _ f _ = zero_ℚ

-- the same coordinate of the conjugate field
abbrev pub of_conjugate : Coordinate → Coordinate
of_conjugate (Of c) = Of (record { field = c.field; conj = not c.conj; generation = c.generation; values = c.values })
of_conjugate Dummy = Dummy

-- The legs on a side of a block. On side 1 a fermion block has the content of the conjugate tensor Yd, whose fermions are
-- conjugate ones; a scalar's coordinate says itself whether it is.
abbrev pub legs_on : Model → TermKind → ℕ → List (List Coordinate)
legs_on model Fermion zero = legs_of model Fermion
legs_on model Fermion (suc side) =
    map of_conjugate (fermion_coordinates model) ∷ map of_conjugate (fermion_coordinates model) ∷ scalar_coordinates model ∷ []
legs_on model Scalar side = legs_of model Scalar

-- how a direction changes under a generator, at a side and the places of the legs
abbrev pub change : Model → Direction → Generator → List ℕ → ℚ
change model direction x [] = zero_ℚ
change model direction x (side ∷ key) =
    acted (coordinate_generator model.groups x) (legs_on model direction.kind side) (λ places. direction.numbers (side ∷ places)) key

-- ---- components

-- the places of some legs, in lexicographic order
abbrev pub keys_of : List (List Coordinate) → List (List ℕ)
keys_of [] = [] ∷ []
keys_of (leg ∷ legs) = flat_map (λ x. map (λ key. x ∷ key) (keys_of legs)) (range_with_len 0 (length leg))

-- the components of a block: those of its content, and then those of the conjugate one
abbrev pub block_keys : Model → TermKind → List (List ℕ)
block_keys model kind = flat_map (λ side. map (λ key. side ∷ key) (keys_of (legs_of model kind))) (0 ∷ 1 ∷ [])

-- the legs of a coordinate of a fermion, and of a scalar, as they are printed
abbrev pub fermion_leg : Coordinate → Leg
fermion_leg (Of c) = leg_of c
fermion_leg Dummy = DummyLeg

abbrev pub scalar_leg : Coordinate → Leg
scalar_leg (Of c) = scalar_leg_of c
scalar_leg Dummy = DummyLeg

abbrev pub legs_at : TermKind → List Coordinate → List Leg
legs_at Fermion (j ∷ k ∷ scalars) = fermion_leg j ∷ fermion_leg k ∷ map scalar_leg scalars
legs_at Fermion cs = map fermion_leg cs
legs_at Scalar cs = map scalar_leg cs

-- a component of a block as it is printed: its legs at a key, which has the side before the places
abbrev pub component_legs : Model → TermKind → List ℕ → List Leg
component_legs model kind [] = []
component_legs model kind (side ∷ key) = at_places [] (legs_on model kind side) (legs_at kind) key

-- ---- failures

-- What fails in a term, whose place counts from 1. A key has the side of the block before the places of the legs.
pub data Failure : Type 0 where
  NotInvariant : (place : ℕ) (term : Term) (x : Generator) (key : List ℕ) (value : ℚ) → Failure
  NotHermitian : (place : ℕ) (term : Term) (key : List ℕ) → Failure

-- a direction is invariant where it doesn't change at any component under any generator
abbrev pub failure_at : Model → Term → Direction → Generator → List ℕ → List Failure
failure_at model term direction x key =
    if eq_ℚ (change model direction x key) zero_ℚ then []
    else NotInvariant direction.place term x key (change model direction x key) ∷ []

abbrev pub failures_under : Model → Term → Direction → Generator → List Failure
failures_under model term direction x = flat_map (failure_at model term direction x) (block_keys model direction.kind)

-- all failures of a direction: by generator, then by component
abbrev pub direction_failures : Model → Term → Direction → List Failure
direction_failures model term direction = flat_map (failures_under model term direction) (generators model)

-- A scalar term to which no conjugate is added is hermitian where its tensor at (a, b, c, d) is that at (a*, b*, c*, d*).
-- Where a symbol's tensors differ there, so do the term's.
abbrev pub differs : Model → List Coordinate → CouplingEntry → Bool
differs model cs entry = not (eq_ℚ (entry_tensor model entry cs) (entry_tensor model entry (map partner cs)))

abbrev pub any_differs : Model → List CouplingEntry → List ℕ → Bool
any_differs model entries = at_places false (legs_of model Scalar) (λ cs. list_any (differs model cs) entries)

abbrev pub hermitian_failure_at : Model → ℕ → Term → List CouplingEntry → List ℕ → List Failure
hermitian_failure_at model place term entries key = if any_differs model entries key then NotHermitian place term key ∷ [] else []

abbrev pub hermitian_failures : Model → ℕ → Term → List CouplingEntry → List Failure
hermitian_failures model place term entries =
    if is_fermionic term.kind || term.hc then [] else flat_map (hermitian_failure_at model place term entries) (keys_of (legs_of model Scalar))

-- the failures of a term: those of its directions, by symbol, and then those of hermiticity
abbrev pub term_failures : Model → ℕ → Term → List CouplingEntry → List Failure
term_failures model place term entries =
    flat_map (direction_failures model term) (flat_map (entry_directions model) entries) ++ hermitian_failures model place term entries

-- those of all terms in their order; ids count the gauge couplings first
abbrev pub failures_from : Model → ℕ → ℕ → List Term → List Failure
failures_from model place id [] = []
failures_from model place id (term ∷ terms) =
    term_failures model place term (numbered place id term (cells term)) ++ failures_from model (suc place) (id + symbol_count term) terms

abbrev pub failures : Model → List Failure
failures model = failures_from model 1 (length model.groups) model.terms
