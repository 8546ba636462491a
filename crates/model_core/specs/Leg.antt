-- Components as legs, which are named and printed.
use Rattle.std.specs.Prelude.{◌==◌, if◌then◌else◌, List, [], ◌∷◌, ◌++◌, map, ℕ}
use Rattle.model_core.specs.declared.leg.Leg.{Leg}
use Rattle.model_core.specs.declared.leg.Leg.TheVariants.{Fermion, Scalar, Dummy}
use Rattle.model_core.specs.declared.field.Field.{Field}
use Rattle.model_core.specs.declared.model.Model.{Model}
use Rattle.model_core.specs.Component.{Component, fermion_components}
use Rattle.model_core.specs.Scalar.{scalar_components}

-- a generation as it is printed: 0 where the field has one generation
abbrev pub printed_generation : Field → ℕ → ℕ
printed_generation field generation = if field.generations == 1 then 0 else generation

-- the leg of a fermion's component
abbrev pub leg_of : Component → Leg
leg_of c = Fermion c.field.name c.conj (printed_generation c.field c.generation) c.values

-- the leg of a scalar's component
abbrev pub scalar_leg_of : Component → Leg
scalar_leg_of c = Scalar c.field.name c.conj (printed_generation c.field c.generation) c.values

-- the legs of all fermion components
abbrev pub fermion_legs : Model → List Leg
fermion_legs model = map leg_of (fermion_components model)

-- the legs of all scalar coordinates, the dummy last
abbrev pub scalar_legs : Model → List Leg
scalar_legs model = map scalar_leg_of (scalar_components model) ++ Dummy ∷ []
