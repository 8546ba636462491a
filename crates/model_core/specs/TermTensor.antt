-- The tensor of a term's text: the sum over all ways to give the legs to the fields, projected on each leg. A tensor is a
-- function of the coordinates on its legs, or of their places.
use Rattle.std.specs.Prelude.{ℕ, ◌==◌, Bool, ◌&&◌, not, if◌then◌else◌, List, [], ◌∷◌, map, slice_get, Option, Some, None}
use Rattle.exact_algebra.specs.Sums.{sum}
use Rattle.exact_algebra.specs.Orders.{sum_orders}
use Rattle.frac128.specs.Rational.{ℚ, zero_ℚ, one_ℚ, ◌+ℚ◌, ◌*ℚ◌}
use Rattle.frac128.specs.RationalLaws.{ring_ℚ}
use Rattle.model_core.specs.declared.group.Group.{Group}
use Rattle.model_core.specs.declared.model.Model.{Model}
use Rattle.model_core.specs.declared.term.TermKind.{TermKind}
use Rattle.model_core.specs.declared.term.TermKind.TheVariants.{Fermion, Scalar}
use Rattle.model_core.specs.declared.term.Term.{Term}
use Rattle.model_core.specs.Component.{fermion_components, projector_at}
use Rattle.model_core.specs.Scalar.{Coordinate, scalar_coordinates}
use Rattle.model_core.specs.Scalar.Coordinate.{Of, Dummy}
use Rattle.model_core.specs.Flavour.{is_symmetric}
use Rattle.model_core.specs.MonomialValue.{text_at}

-- a function of the coordinates on legs
abbrev pub Numbers : Type 0
Numbers = List Coordinate → ℚ

-- ---- legs

-- the components that a fermion's leg may have
abbrev pub fermion_coordinates : Model → List Coordinate
fermion_coordinates model = map Of (fermion_components model)

-- the legs of a term's tensor: two fermions and a scalar, or four scalars
abbrev pub legs_of : Model → TermKind → List (List Coordinate)
legs_of model Fermion = fermion_coordinates model ∷ fermion_coordinates model ∷ scalar_coordinates model ∷ []
legs_of model Scalar = scalar_coordinates model ∷ scalar_coordinates model ∷ scalar_coordinates model ∷ scalar_coordinates model ∷ []

-- the projector on coordinates: the dummy is a singlet
abbrev pub coordinate_projector : List Group → Coordinate → Coordinate → ℚ
coordinate_projector groups (Of c) (Of d) = projector_at groups c d
coordinate_projector groups Dummy Dummy = one_ℚ
coordinate_projector groups _ _ = zero_ℚ

-- a function projected on each leg
unfoldable pub projected : List Group → List (List Coordinate) → Numbers → Numbers
projected groups [] f [] = f []
projected groups (leg ∷ legs) f (c ∷ cs) =
    sum ring_ℚ.semiring leg (λ d. coordinate_projector groups d c *ℚ projected groups legs (λ ds. f (d ∷ ds)) cs)
projected groups _ f _ = zero_ℚ

-- ---- all ways to give the legs

-- a text of two fermions at j and k, and at a scalar or the dummy a
abbrev pub fermion_ways : Model → Term → ℕ → ℕ → Numbers
fermion_ways model term row column (j ∷ k ∷ a ∷ []) =
    sum_orders ring_ℚ.semiring (j ∷ k ∷ []) (λ fermions. text_at model term row column fermions (a ∷ []))
fermion_ways model term row column _ = zero_ℚ

-- a text of scalars, at these and at dummies
abbrev pub scalar_ways : Model → Term → ℕ → ℕ → Numbers
scalar_ways model term row column legs = sum_orders ring_ℚ.semiring legs (text_at model term row column [])

abbrev pub all_ways : Model → Term → ℕ → ℕ → TermKind → Numbers
all_ways model term row column Fermion = fermion_ways model term row column
all_ways model term row column Scalar = scalar_ways model term row column

-- ---- the tensor

-- the tensor of a text with this row and column
abbrev pub text_tensor : Model → Term → ℕ → ℕ → Numbers
text_tensor model term row column =
    projected model.groups (legs_of model term.kind) (all_ways model term row column term.kind)

-- The tensor of a symbol's text. The symbol [i,j] of a symmetric coupling with i less than j has the texts at [i,j] and
-- [j,i] added.
abbrev pub has_two_texts : Term → ℕ → ℕ → Bool
has_two_texts term row column = is_symmetric term.shape && not (row == column)

abbrev pub symbol_tensor : Model → Term → ℕ → ℕ → Numbers
symbol_tensor model term row column cs =
    if has_two_texts term row column then text_tensor model term row column cs +ℚ text_tensor model term column row cs
    else text_tensor model term row column cs

-- ---- places

-- the coordinates at places of the legs
abbrev pub with_coordinate : Option Coordinate → Option (List Coordinate) → Option (List Coordinate)
with_coordinate (Some c) (Some cs) = Some (c ∷ cs)
with_coordinate _ _ = None

abbrev pub coordinates_at : List (List Coordinate) → List ℕ → Option (List Coordinate)
coordinates_at [] [] = Some []
coordinates_at (leg ∷ legs) (place ∷ places) = with_coordinate (slice_get leg place) (coordinates_at legs places)
coordinates_at _ _ = None

-- a function of coordinates at those of a key, and 0 where the key has a place that no leg has
abbrev pub value_or : {A : Type 0} → A → (List Coordinate → A) → Option (List Coordinate) → A
value_or zero f None = zero
value_or zero f (Some cs) = f cs

abbrev pub at_places : {A : Type 0} → A → List (List Coordinate) → (List Coordinate → A) → List ℕ → A
at_places zero legs f key = value_or zero f (coordinates_at legs key)
