-- What the steps of the check need and what they look for.
use Rattle.std.specs.Prelude.{◌≡◌, ◌+◌, ◌==◌, ◌||◌, if◌then◌else◌, not, ℕ, Bool, true, false, List, [], ◌∷◌, map, length, Option, Some, None}
use Rattle.std.specs.List.{flat_map, list_any, AllByRecursion, AllZip}
use Rattle.std.proofs.Common.{Ordering, Less, Greater}
use Rattle.exact_algebra.specs.TensorContraction.{places_cmp}
use Rattle.frac128.specs.Rational.{ℚ, zero_ℚ, eq_ℚ}
use Rattle.beta_poly.specs.Polynomial.{constant}
use Rattle.sparse_tensor.specs.Tensor.{Tensor, Entries, HasValues, rank_of, value}
use Rattle.model_core.specs.declared.generator.Generator.{Generator}
use Rattle.model_core.specs.declared.model.Model.{Model}
use Rattle.model_core.specs.declared.term.Term.{Term}
use Rattle.model_core.specs.declared.term.TermKind.{TermKind}
use Rattle.model_core.specs.declared.term.TermKind.TheVariants.{Scalar}
use Rattle.model_core.specs.Scalar.{partner}
use Rattle.model_core.specs.TermTensor.{Numbers, legs_of, coordinates_at, at_places}
use Rattle.model_core.specs.Directions.{CouplingEntry, Direction, entry_directions}
use Rattle.model_core.specs.Invariance.{Failure, keys_of, failure_at, failures_under}
use Rattle.term_expand.specs.declared.directions.Direction.{Direction as Found}
use Rattle.term_expand.specs.Expansion.{AreDirections}
use Rattle.term_expand.specs.Multiples.{HasCoordinates}
use Rattle.term_expand.specs.Texts.{leg_count}
use Rattle.gauge_check.specs.Actions.{on_both}

-- ---- numbers at keys

-- the tensor has these numbers, which are 0 where a place is none of its leg's
pub record HasKeyNumbers (model : Model) (kind : TermKind) (g : List ℕ → ℚ) (tensor : Tensor) : Type 0 where
  pub has : HasValues (leg_count kind) (λ key. constant (g key)) tensor
  pub outside : (key : List ℕ) → coordinates_at (legs_of model kind) key ≡ None → g key ≡ zero_ℚ

-- it has the numbers of some function
pub record HasSomeKeyNumbers (model : Model) (kind : TermKind) (tensor : Tensor) : Type 0 where
  pub numbers : List ℕ → ℚ
  pub has : HasKeyNumbers model kind numbers tensor

-- ---- the directions of a term

-- an entry of the coupling of the term at a place
pub record IsEntryOf (place : ℕ) (term : Term) (e : CouplingEntry) : Type 0 where
  pub place_is : e.place ≡ place
  pub term_is : e.term ≡ term

-- the directions of entries of that coupling
pub record AreDirectionsOf (model : Model) (place : ℕ) (term : Term) (es : List CouplingEntry) (found : List Found) : Type 0 where
  pub entries : AllByRecursion (IsEntryOf place term) es
  pub directions : AreDirections (flat_map (entry_directions model) es) found

pub record AreTermDirections (model : Model) (place : ℕ) (term : Term) (found : List Found) : Type 0 where
  pub entries : List CouplingEntry
  pub are : AreDirectionsOf model place term entries found

-- one direction of the term at a place
pub record IsDirectionOf (model : Model) (place : ℕ) (term : Term) (meant : Direction) (found : Found) : Type 0 where
  pub place_is : meant.place ≡ place
  pub kind_is : meant.kind ≡ term.kind
  pub has : HasValues (1 + leg_count term.kind) (λ key. constant (meant.numbers key)) found.tensor
  pub outside : (side : ℕ) (key : List ℕ) → coordinates_at (legs_of model term.kind) key ≡ None → meant.numbers (side ∷ key) ≡ zero_ℚ

pub record IsTermDirection (model : Model) (place : ℕ) (term : Term) (found : Found) : Type 0 where
  pub meant : Direction
  pub is : IsDirectionOf model place term meant found

-- the failures of a direction under a generator on a side of its block
abbrev pub side_failures : Model → Term → Direction → Generator → ℕ → List Failure
side_failures model term direction x side =
    flat_map (failure_at model term direction x) (map (λ key. side ∷ key) (keys_of (legs_of model direction.kind)))

-- the charge, and X_ij with j = i + 1 or i = j + 1
abbrev pub is_neighbour : Generator → Bool
is_neighbour x = (x.i == 0 || x.i + 1 == x.j) || x.j + 1 == x.i

-- the failures of a direction under a generator that is one of these
abbrev pub near_failures : Model → Term → Direction → Generator → List Failure
near_failures model term direction x = if is_neighbour x then failures_under model term direction x else []

-- ---- hermiticity

-- both sides of a direction together have the numbers of a tensor of scalars
pub record IsWhole (model : Model) (f : Numbers) (found : Found) : Type 0 where
  pub rank_is : rank_of found.tensor ≡ 5
  pub numbers : (key : List ℕ) → length key ≡ 4 → on_both (value found.tensor) key ≡ constant (at_places zero_ℚ (legs_of model Scalar) f key)

pub record HasWhole (model : Model) (found : Found) : Type 0 where
  pub whole : Numbers
  pub is : IsWhole model whole found

-- one by one
abbrev pub AreWhole : Model → List Numbers → List Found → Type 0
AreWhole model fs found = AllZip (IsWhole model) fs found

pub record HaveWhole (model : Model) (found : List Found) : Type 0 where
  pub wholes : List Numbers
  pub are : AreWhole model wholes found

-- whether numbers of scalars at a key aren't those at the partners
abbrev pub differs_at : Model → Numbers → List ℕ → Bool
differs_at model f = at_places false (legs_of model Scalar) (λ cs. not (eq_ℚ (f cs) (f (map partner cs))))

abbrev pub any_differs_at : Model → List Numbers → List ℕ → Bool
any_differs_at model fs key = list_any (λ f. differs_at model f key) fs

-- the first key of scalars at which a test passes
pub record IsFirstAt (model : Model) (test : List ℕ → Bool) (first : List ℕ) : Type 0 where
  pub inside : HasCoordinates model Scalar first
  pub here : test first ≡ true
  pub before : (key : List ℕ) → length key ≡ 4 → places_cmp key first ≡ Less → test key ≡ false

-- the test passes nowhere, or first there
abbrev pub IsFirstKey : Model → (List ℕ → Bool) → Option (List ℕ) → Type 0
IsFirstKey model test (Some first) = IsFirstAt model test first
IsFirstKey model test None = (key : List ℕ) → length key ≡ 4 → test key ≡ false

-- the key of the first entry
abbrev pub first_key : Entries → Option (List ℕ)
first_key [] = None
first_key (e ∷ es) = Some e.0

-- of two keys the one that comes first
abbrev pub earlier_by : Ordering → List ℕ → List ℕ → List ℕ
earlier_by Greater a b = b
earlier_by order a b = a

abbrev pub earlier : Option (List ℕ) → Option (List ℕ) → Option (List ℕ)
earlier None o = o
earlier (Some a) None = Some a
earlier (Some a) (Some b) = Some (earlier_by (places_cmp a b) a b)
