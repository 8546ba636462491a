-- The self-energies of scalar components as a tensor.
use Rattle.std.specs.Prelude.{◌≡◌, ◌<◌, ◌≤◌, ℕ, List, [], ◌∷◌, map, length}
use Rattle.std.specs.List.{flat_map, range_with_len}
use Rattle.beta_poly.specs.Polynomial.{Polynomial, zero_poly}
use Rattle.sparse_tensor.specs.declared.values.Value.{Value}
use Rattle.sparse_tensor.specs.Tensor.{Tensor, rank_of, value}
use Rattle.model_core.specs.declared.model.Model.{Model}
use Rattle.model_core.specs.Scalar.{partner, scalar_components}
use Rattle.beta_formulas.specs.YukawaBeta.{scalar_square}
use Rattle.yukawa_one_loop.specs.Parts.{coordinate_at}

-- S2(a,e*) at the places of a and e
abbrev pub energy_at : Model → ℕ → ℕ → Polynomial
energy_at model a e = scalar_square model (coordinate_at model a) (partner (coordinate_at model e))

-- the same with its key, for the first places e, and for the first places of both
abbrev pub energy_value : Model → ℕ → ℕ → Value
energy_value model a e = record { key = a ∷ e ∷ []; value = energy_at model a e }

abbrev pub energy_row : Model → ℕ → ℕ → List Value
energy_row model count a = map (energy_value model a) (range_with_len 0 count)

abbrev pub energy_rows : Model → ℕ → ℕ → List Value
energy_rows model count rows = flat_map (energy_row model count) (range_with_len 0 rows)

-- the tensor has the self-energies of all scalar components, and none at other places of its first leg
pub record AreEnergies (model : Model) (tensor : Tensor) : Type 0 where
  pub rank_is : rank_of tensor ≡ 2
  pub inside : (a e : ℕ) → a < length (scalar_components model) → e < length (scalar_components model) → value tensor (a ∷ e ∷ []) ≡ energy_at model a e
  pub outside : (a e : ℕ) → length (scalar_components model) ≤ a → value tensor (a ∷ e ∷ []) ≡ zero_poly
