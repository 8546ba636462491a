-- What pairs of generators add.
use Rattle.std.specs.Prelude.{◌≡◌, ℕ, get_or}
use Rattle.std.proofs.Common.{sym, subst, arith}
use Rattle.std.specs.List.{All}
use Rattle.frac128.specs.Rational.{one_ℚ}
use Rattle.beta_poly.specs.Exponents.{AllWithin}
use Rattle.beta_poly.specs.Monomial.{power}
use Rattle.beta_poly.specs.Polynomial.{Polynomial, ProductsFit, mul_poly}
use Rattle.beta_poly.proofs.ExponentLaws.{AllWithin-mul, AllWithin-scale, AllWithin-term, IsWithin-power, products_fit_within}
use Rattle.sparse_tensor.specs.Tensor.{Tensor, entries_of}
use Rattle.su_reps.specs.Operators.{fraction}
use Rattle.model_core.specs.declared.group.Group.{Group}
use Rattle.model_core.specs.declared.model.Model.{Model}
use Rattle.model_core.specs.GaugeTwoLoop.{gauge_power, gauge_symbol}
use Rattle.beta_formulas.specs.ScalarBeta.{generator_weight}
use Rattle.quartic_one_loop.specs.GaugePairs.{HasNumbers, NumberMatrix, group_coupling, share_factor}
use Rattle.quartic_one_loop.proofs.NumberMatrices.{numbers_within}

pub coupling_within : (place : ℕ) (group : Group) → AllWithin 2 (group_coupling place group)
coupling_within place group =
    AllWithin-scale 2 (generator_weight group) (gauge_power place 2) (AllWithin-term 2 (power (gauge_symbol place) 2) one_ℚ (IsWithin-power (gauge_symbol place) 2))

pub share_within : (p q w : Polynomial) → AllWithin 2 p → AllWithin 2 q → w ≡ share_factor p q → AllWithin 4 w
share_within p q w first second is =
    subst (AllWithin 4) (sym is) (AllWithin-scale 4 (fraction 3 8) (mul_poly p q) (AllWithin-mul 2 2 p q first second))

-- products of numbers keep to the limit
pub numbers_fit : (model : Model) (f g : NumberMatrix) (s t : Tensor) → HasNumbers model f s → HasNumbers model g t → All (λ a. All (λ b. ProductsFit a.1 b.1) (entries_of t)) (entries_of s)
numbers_fit model f g s t first second i d inside j e within =
    products_fit_within 0 0 (get_or (entries_of s) i d).1 (get_or (entries_of t) j e).1 (omega arith) (numbers_within 0 model f s first i d inside) (numbers_within 0 model g t second j e within)
