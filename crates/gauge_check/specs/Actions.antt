-- Generators on the components of a model, as links between places, and what is done with a tensor along these.
use Rattle.std.specs.Prelude.{◌≡◌, ◌≤◌, ◌==◌, ◌&&◌, get_or, drop, ⊤, Bool, not, if◌then◌else◌, slice_get, ℕ, zero, suc, List, [], ◌∷◌, ◌++◌, map, length, Option, Some}
use Rattle.std.specs.List.{All, flat_map, range_with_len}
use Rattle.frac128.specs.Rational.{ℚ, zero_ℚ, one_ℚ, neg_ℚ}
use Rattle.su_reps.specs.Tuples.{AreValues}
use Rattle.beta_poly.specs.Polynomial.{Polynomial, zero_poly, add_poly, scale_poly, constant}
use Rattle.sparse_tensor.specs.declared.links.Link.{Link}
use Rattle.sparse_tensor.specs.Laws.{IsBetween, link_value}
use Rattle.sparse_tensor.specs.declared.values.Value.{Value}
use Rattle.sparse_tensor.specs.Tensor.{Tensor, entries_of}
use Rattle.sparse_tensor.specs.Operations.{Values, projected_at}
use Rattle.model_core.specs.declared.generator.Generator.{Generator}
use Rattle.model_core.specs.declared.component_lists.FieldComponent.{FieldComponent}
use Rattle.model_core.specs.declared.group.Group.{Group}
use Rattle.model_core.specs.declared.field.Field.{Field}
use Rattle.model_core.specs.declared.model.Model.{Model}
use Rattle.model_core.specs.declared.term.TermKind.{TermKind}
use Rattle.model_core.specs.declared.term.TermKind.TheVariants.{Fermion}
use Rattle.model_core.specs.Scalar.{Coordinate, scalar_coordinates}
use Rattle.model_core.specs.TermTensor.{fermion_coordinates}
use Rattle.model_core.specs.Component.{Component, same_side}
use Rattle.model_core.specs.Generators.{generator_at, coordinate_generator}
use Rattle.model_core.specs.Invariance.{matrix_at, of_conjugate}
use Rattle.model_core.specs.ComponentLists.{fermion_list, scalar_list}
use Rattle.term_expand.specs.LinkSteps.{component_at}
use Rattle.gauge_check.specs.declared.action.Legs.{Legs}
use Rattle.gauge_check.specs.declared.action.Action.{Action}

-- ---- generators

-- X_ij of an SU(n) at a place, with i and j from 1 to n
pub record IsGenerator (groups : List Group) (place i j : ℕ) : Type 0 where
  pub group : Group
  pub at : slice_get groups place ≡ Some group
  pub special : 2 ≤ group.n
  pub indices : AreValues group.n (i ∷ j ∷ [])

-- the X_ij with this i
abbrev pub special_row : ℕ → ℕ → ℕ → List Generator
special_row place i n = map (λ j. record { place = place; i = i; j = j }) (range_with_len 1 n)

-- ---- links

-- both components are of the field at one place, on one side, and of one generation
abbrev pub have_one_place : FieldComponent → FieldComponent → Bool
have_one_place x y = (x.field == y.field && same_side x.conj y.conj) && x.generation == y.generation

-- a generator at two components, 0 where one is missing
abbrev pub generator_between : List Group → Generator → Option Component → Option Component → ℚ
generator_between groups x (Some c) (Some d) = generator_at groups x c d
generator_between groups x _ _ = zero_ℚ

-- a generator at two places of a list of components
unfoldable pub place_generator : List Group → List Field → List FieldComponent → Generator → ℕ → ℕ → ℚ
place_generator groups fields components x from to =
    generator_between groups x (component_at fields components from) (component_at fields components to)

-- links are a matrix on a leg
pub record AreMatrix (matrix : Coordinate → Coordinate → ℚ) (leg : List Coordinate) (links : List Link) : Type 0 where
  pub between : All (IsBetween (length leg) (length leg)) links
  pub value : (x y : ℕ) → link_value links x y ≡ constant (matrix_at matrix leg x y)

-- ---- a model's components

-- the same component of the conjugate field
abbrev pub conjugate_of : FieldComponent → FieldComponent
conjugate_of c = record { field = c.field; conj = not c.conj; generation = c.generation; slots = c.slots }

-- the components of a model's fermions, of their conjugates, and of its scalars
pub record AreLegs (model : Model) (legs : Legs) : Type 0 where
  pub fermions : legs.fermions ≡ fermion_list model
  pub conjugates : legs.conjugates ≡ map conjugate_of (fermion_list model)
  pub scalars : legs.scalars ≡ scalar_list model

-- a generator on each kind of leg
pub record IsAction (model : Model) (x : Generator) (action : Action) : Type 0 where
  pub generator_is : action.generator ≡ x
  pub fermions : AreMatrix (coordinate_generator model.groups x) (fermion_coordinates model) action.fermions
  pub conjugates : AreMatrix (coordinate_generator model.groups x) (map of_conjugate (fermion_coordinates model)) action.conjugates
  pub scalars : AreMatrix (coordinate_generator model.groups x) (scalar_coordinates model) action.scalars

-- one by one
abbrev pub AreActions : Model → List Generator → List Action → Type 0
AreActions model [] [] = ⊤
AreActions model (x ∷ xs) (action ∷ actions) = IsAction model x action × AreActions model xs actions
AreActions model _ _ = ⊥

-- actions after some more
abbrev pub Extends : Model → List Generator → List Action → List Action → Type 0
Extends model xs old new = (before : List Generator) → AreActions model before old → AreActions model (before ++ xs) new

-- ---- tensors

-- the links of a leg of a kind of terms, on a side of the block
abbrev pub leg_links : Action → TermKind → ℕ → ℕ → List Link
leg_links action Fermion zero zero = action.fermions
leg_links action Fermion zero (suc zero) = action.fermions
leg_links action Fermion (suc side) zero = action.conjugates
leg_links action Fermion (suc side) (suc zero) = action.conjugates
leg_links action kind side leg = action.scalars

-- a function of keys with the links of each of the first legs, all added
unfoldable pub acted_along : (ℕ → List Link) → ℕ → Values → Values
acted_along links zero f key = zero_poly
acted_along links (suc legs) f key = add_poly (acted_along links legs f key) (projected_at legs (links legs) f key)

-- the values on a side of a block
abbrev pub on_side : ℕ → Values → Values
on_side side f key = f (side ∷ key)

-- the values on both sides, added
abbrev pub on_both : Values → Values
on_both f key = add_poly (f (0 ∷ key)) (f (1 ∷ key))

-- an entry without its side, where that is this one
abbrev pub side_value : ℕ → List ℕ × Polynomial → List Value
side_value side e = if get_or e.0 0 0 == side then record { key = drop 1 e.0; value = e.1 } ∷ [] else []

-- the entries on a side, without it
abbrev pub side_values : ℕ → Tensor → List Value
side_values side tensor = flat_map (side_value side) (entries_of tensor)

-- the entries of a tensor as values, and each times -1
abbrev pub value_of : List ℕ × Polynomial → Value
value_of e = record { key = e.0; value = e.1 }

abbrev pub negated_value : List ℕ × Polynomial → Value
negated_value e = record { key = e.0; value = scale_poly (neg_ℚ one_ℚ) e.1 }

abbrev pub negated_values : Tensor → List Value
negated_values tensor = map negated_value (entries_of tensor)
