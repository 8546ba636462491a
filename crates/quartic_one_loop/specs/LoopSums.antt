-- The loop of two quartic couplings, one of its scalars at a time.
use Rattle.std.specs.Prelude.{◌≡◌, ◌<◌, ℕ, List, length, get_or, slice_get, option_map}
use Rattle.frac128.specs.Rational.{one_ℚ}
use Rattle.beta_poly.specs.Polynomial.{mul_poly}
use Rattle.sparse_tensor.specs.declared.links.Link.{Link}
use Rattle.model_core.specs.declared.model.Model.{Model}
use Rattle.model_core.specs.GaugeTwoLoop.{over_scalars}
use Rattle.model_core.specs.Scalar.{Coordinate, partner, scalar_coordinates}
use Rattle.beta_formulas.specs.ScalarBeta.{FourLegs, quartic}

-- sum_f L(a,b,e,f) L(e*,f*,c,d)
abbrev pub loop_over : Model → Coordinate → FourLegs
loop_over model e a b c d =
    over_scalars model (λ f. mul_poly (quartic model a b e f) (quartic model (partner e) (partner f) c d))

-- a link of value 1 from a place to that of the partner
pub record IsPartnerLink (model : Model) (place : ℕ) (link : Link) : Type 0 where
  pub from_is : link.from ≡ place
  pub to_is : slice_get (scalar_coordinates model) link.to ≡ option_map partner (slice_get (scalar_coordinates model) place)
  pub value_is : link.value ≡ one_ℚ

-- one such link from each of the first places
pub record ArePartnerLinks (model : Model) (count : ℕ) (links : List Link) : Type 0 where
  pub count_is : length links ≡ count
  pub each : (i : ℕ) (d : Link) → i < length links → IsPartnerLink model i (get_or links i d)
