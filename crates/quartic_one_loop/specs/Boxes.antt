-- The loop of four Yukawa couplings, as it is summed over the fermion component i that the trace begins and ends with.
use Rattle.std.specs.Prelude.{◌≡◌, ℕ, List, [], ◌∷◌, length, get_or, slice_get, option_map}
use Rattle.beta_poly.specs.Polynomial.{Polynomial, zero_poly, conj_poly}
use Rattle.sparse_tensor.specs.declared.values.Value.{Value}
use Rattle.sparse_tensor.specs.Tensor.{Tensor, HasValues}
use Rattle.model_core.specs.declared.model.Model.{Model}
use Rattle.model_core.specs.declared.term.TermKind.TheVariants.{Fermion}
use Rattle.model_core.specs.Component.{Component, fermion_components}
use Rattle.model_core.specs.GaugeTwoLoop.{conjugate_yukawa}
use Rattle.model_core.specs.Scalar.{Coordinate, partner, scalar_coordinates}
use Rattle.model_core.specs.Scalar.Coordinate.{Of}
use Rattle.model_core.specs.TermTensor.{fermion_coordinates, legs_of, at_places}
use Rattle.model_core.specs.Valid.{IsValid}
use Rattle.beta_formulas.specs.ScalarBeta.{FourLegs}
use Rattle.beta_formulas.specs.YukawaBeta.{Matrix, yukawa, conjugate, times}
use Rattle.yukawa_one_loop.specs.Matrices.{identity_links}
use Rattle.quartic_one_loop.specs.declared.boxes.Vertices.{Vertices}
use Rattle.quartic_one_loop.specs.FourLegs.{AreWithin, IsYukawa}

-- ---- the conjugate tensor

-- Yd[a][j,k] at the places of a key (j, k, a)
abbrev pub conjugate_at : Model → List ℕ → Polynomial
conjugate_at model = at_places zero_poly (legs_of model Fermion) (conjugate_yukawa model)

-- the conjugate of the Yukawa tensor, which has no symbol twice in a value
pub record IsConjugate (model : Model) (tensor : Tensor) : Type 0 where
  pub values : HasValues 3 (conjugate_at model) tensor
  pub within : AreWithin 1 tensor

-- the conjugate value of an entry, at the partner of its scalar
pub record IsConjugateValue (model : Model) (e : List ℕ × Polynomial) (v : Value) : Type 0 where
  pub place : ℕ
  pub key : v.key ≡ get_or e.0 0 0 ∷ get_or e.0 1 0 ∷ place ∷ []
  pub partner_is : slice_get (scalar_coordinates model) place ≡ option_map partner (slice_get (scalar_coordinates model) (get_or e.0 2 0))
  pub value : v.value ≡ conj_poly e.1

-- the tensors and the links of a valid model
pub record IsVertices (vertices : Vertices) : Type 0 where
  pub valid : IsValid vertices.model.now
  pub yukawa : IsYukawa vertices.model.now vertices.yukawa.now
  pub conjugate : IsConjugate vertices.model.now vertices.conjugate
  pub links : vertices.links ≡ identity_links (length (fermion_components vertices.model.now))

-- ---- the halves of the loop, and both together

module _ (model : Model) where
  -- Y[a] Yd[b]
  abbrev pub half : Coordinate → Coordinate → Matrix
  half a b = times model (yukawa model a) (conjugate model b)

  -- the half from i to another component j, and the half from j back to i
  abbrev pub half_from : Component → List Coordinate → Polynomial
  half_from i (a ∷ Of j ∷ b ∷ []) = half a b i j
  half_from i _ = zero_poly

  abbrev pub half_to : Component → List Coordinate → Polynomial
  half_to i (Of j ∷ c ∷ d ∷ []) = half c d j i
  half_to i _ = zero_poly

  -- both at the places of keys (a, j, b) and (j, c, d)
  abbrev pub half_from_at : Component → List ℕ → Polynomial
  half_from_at i = at_places zero_poly (scalar_coordinates model ∷ fermion_coordinates model ∷ scalar_coordinates model ∷ []) (half_from i)

  abbrev pub half_to_at : Component → List ℕ → Polynomial
  half_to_at i = at_places zero_poly (fermion_coordinates model ∷ scalar_coordinates model ∷ scalar_coordinates model ∷ []) (half_to i)

  -- what i gives the trace of Y[a] Yd[b] Y[c] Yd[d]
  abbrev pub box_from : Component → FourLegs
  box_from i a b c d = times model (half a b) (half c d) i i
