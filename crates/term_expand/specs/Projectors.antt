-- The projectors on the components of a model, as links between places.
use Rattle.std.specs.Prelude.{◌≡◌, ℕ, List, length, slice_get, Option, Some}
use Rattle.std.specs.List.{All}
use Rattle.frac128.specs.Rational.{ℚ, zero_ℚ}
use Rattle.beta_poly.specs.Polynomial.{constant}
use Rattle.sparse_tensor.specs.declared.links.Link.{Link}
use Rattle.sparse_tensor.specs.Laws.{IsBetween, link_value}
use Rattle.model_core.specs.declared.group.Group.{Group}
use Rattle.model_core.specs.declared.model.Model.{Model}
use Rattle.model_core.specs.Scalar.{Coordinate, scalar_coordinates}
use Rattle.model_core.specs.ComponentLists.{fermion_list, scalar_list}
use Rattle.model_core.specs.TermTensor.{coordinate_projector, fermion_coordinates}
use Rattle.term_expand.specs.declared.basis.Basis.{Basis}

-- the projector at two coordinates, 0 where one is missing
abbrev pub projector_or_zero : List Group → Option Coordinate → Option Coordinate → ℚ
projector_or_zero groups (Some c) (Some d) = coordinate_projector groups c d
projector_or_zero groups _ _ = zero_ℚ

-- the projector at the places of a leg
abbrev pub place_projector : List Group → List Coordinate → ℕ → ℕ → ℚ
place_projector groups leg x y = projector_or_zero groups (slice_get leg x) (slice_get leg y)

-- links are the projector on a leg
pub record AreProjectors (groups : List Group) (leg : List Coordinate) (links : List Link) : Type 0 where
  pub between : All (IsBetween (length leg) (length leg)) links
  pub value : (x y : ℕ) → link_value links x y ≡ constant (place_projector groups leg x y)

-- the components of a model with the projectors on them
pub record IsBasis (model : Model) (basis : Basis) : Type 0 where
  pub fermions : basis.fermions ≡ fermion_list model
  pub scalars : basis.scalars ≡ scalar_list model
  pub fermion_links : AreProjectors model.groups (fermion_coordinates model) basis.fermion_links
  pub scalar_links : AreProjectors model.groups (scalar_coordinates model) basis.scalar_links
