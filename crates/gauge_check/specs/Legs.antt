-- The legs of components, place by place.
use Rattle.std.specs.Prelude.{◌<◌, ℕ, zero, suc, true, false, List, [], length, slice_get, Option, Some, None}
use Rattle.model_core.specs.declared.leg.Leg.{Leg}
use Rattle.model_core.specs.declared.leg.Leg.TheVariants.{Fermion as FermionLeg, Dummy as DummyLeg}
use Rattle.model_core.specs.declared.model.Model.{Model}
use Rattle.model_core.specs.declared.term.TermKind.{TermKind}
use Rattle.model_core.specs.declared.term.TermKind.TheVariants.{Fermion}
use Rattle.model_core.specs.Scalar.{Coordinate}
use Rattle.model_core.specs.Invariance.{legs_on, fermion_leg, scalar_leg}

-- a fermion's leg on a side of a block
abbrev pub leg_on_side : ℕ → Leg → Leg
leg_on_side zero (FermionLeg name conj generation slots) = FermionLeg name false generation slots
leg_on_side (suc side) (FermionLeg name conj generation slots) = FermionLeg name true generation slots
leg_on_side side leg = leg

-- the coordinates of a leg
abbrev pub leg_or_none : Option (List Coordinate) → List Coordinate
leg_or_none (Some coordinates) = coordinates
leg_or_none None = []

abbrev pub coordinates_of_leg : Model → TermKind → ℕ → ℕ → List Coordinate
coordinates_of_leg model kind side leg = leg_or_none (slice_get (legs_on model kind side) leg)

-- the leg has the place
abbrev pub HasPlace : Model → TermKind → ℕ → ℕ → Type 0
HasPlace model kind leg place = place < length (coordinates_of_leg model kind 0 leg)

-- the first two legs of a term with fermions are theirs
abbrev pub leg_of : TermKind → ℕ → Coordinate → Leg
leg_of Fermion zero = fermion_leg
leg_of Fermion (suc zero) = fermion_leg
leg_of kind leg = scalar_leg

abbrev pub leg_or_dummy : (Coordinate → Leg) → Option Coordinate → Leg
leg_or_dummy f (Some c) = f c
leg_or_dummy f None = DummyLeg

-- the leg of a component at a place
abbrev pub leg_of_place : Model → TermKind → ℕ → ℕ → ℕ → Leg
leg_of_place model kind side leg place = leg_or_dummy (leg_of kind leg) (slice_get (coordinates_of_leg model kind side leg) place)
