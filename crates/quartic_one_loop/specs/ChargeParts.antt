-- The charges of the first leg as they are summed.
use Rattle.std.specs.Prelude.{◌<◌, ℕ, List, map, get_or}
use Rattle.frac128.specs.Rational.{ℚ, zero_ℚ, neg_ℚ}
use Rattle.beta_poly.specs.Monomial.{power}
use Rattle.beta_poly.specs.Polynomial.{Polynomial, mul_poly, scale_poly, term as poly_term}
use Rattle.sparse_tensor.specs.declared.values.Value.{Value}
use Rattle.sparse_tensor.specs.Tensor.{Tensor, entries_of}
use Rattle.su_reps.specs.Operators.{fraction}
use Rattle.model_core.specs.declared.group.Group.{Group}
use Rattle.model_core.specs.declared.model.Model.{Model}
use Rattle.model_core.specs.GaugeBeta.{casimir_at}
use Rattle.model_core.specs.GaugeTwoLoop.{gauge_symbol}
use Rattle.model_core.specs.Scalar.{Coordinate}
use Rattle.model_core.specs.Scalar.Coordinate.{Of, Dummy}
use Rattle.beta_formulas.specs.ScalarBeta.{FourLegs, quartic}

-- the Casimir of a scalar coordinate: the dummy has no charge
abbrev pub coordinate_casimir : ℕ × Group → Coordinate → ℚ
coordinate_casimir g (Of c) = casimir_at g.1 g.0 c
coordinate_casimir g Dummy = zero_ℚ

-- minus 1/2 g_k^2
abbrev pub charge_factor : ℕ → Polynomial
charge_factor place = poly_term (power (gauge_symbol place) 2) (neg_ℚ (fraction 1 2))

-- the factor times the Casimir at the first place of a key
abbrev pub charge_at : List ℚ → Polynomial → List ℕ → Polynomial
charge_at casimirs factor key = scale_poly (get_or casimirs (get_or key 0 0) zero_ℚ) factor

-- the entries of a tensor times these
abbrev pub charged : List ℚ → Polynomial → List ℕ × Polynomial → Value
charged casimirs factor e = record { key = e.0; value = mul_poly (charge_at casimirs factor e.0) e.1 }

abbrev pub charged_values : List ℚ → Polynomial → Tensor → List Value
charged_values casimirs factor tensor = map (charged casimirs factor) (entries_of tensor)

-- the first place of the key is below n
abbrev pub StartsBelow : ℕ → List ℕ × Polynomial → Type 0
StartsBelow n e = get_or e.0 0 0 < n

-- what a group gives: minus 1/2 g_k^2 C_k(a) L(a,b,c,d)
abbrev pub group_share : Model → ℕ × Group → FourLegs
group_share model g a b c d = mul_poly (scale_poly (coordinate_casimir g a) (charge_factor g.0)) (quartic model a b c d)
