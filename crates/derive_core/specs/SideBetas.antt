-- The beta tensors on the sides of blocks, and the values of them that belong to a block.
use Rattle.std.specs.Prelude.{◌==◌, ℕ, Bool, if◌then◌else◌, List, [], ◌∷◌}
use Rattle.std.specs.List.{flat_map}
use Rattle.beta_poly.specs.Polynomial.{Polynomial}
use Rattle.sparse_tensor.specs.declared.values.Value.{Value}
use Rattle.sparse_tensor.specs.Tensor.{Entries, HasValues}
use Rattle.model_core.specs.declared.model.Model.{Model}
use Rattle.term_expand.specs.declared.token.Token.{Token}
use Rattle.term_expand.specs.Multiples.{entry_on_side}
use Rattle.span_solver.specs.BlockDirections.{same_name}
use Rattle.beta_formulas.specs.YukawaBeta.{yukawa_beta_at}
use Rattle.derive_core.specs.BlockBetas.{name_at, conjugate_beta_at, scalar_side, scalar_side_beta}
use Rattle.derive_core.specs.declared.block_betas.SideBetas.{SideBetas}

-- the Yukawa beta tensor on side 0 and the conjugate one on side 1, and the parts of the scalar beta tensor on both
pub record AreSideBetas (model : Model) (sides : SideBetas) : Type 0 where
  pub yukawa : HasValues 3 (yukawa_beta_at model) sides.yukawa
  pub conjugate_yukawa : HasValues 3 (conjugate_beta_at model) sides.conjugate_yukawa
  pub scalar : HasValues 4 (scalar_side_beta model 0) sides.scalar
  pub conjugate_scalar : HasValues 4 (scalar_side_beta model 1) sides.conjugate_scalar

-- an entry on a side where it belongs to the block, or nothing
abbrev pub where_it_belongs : Bool → ℕ → List ℕ × Polynomial → List Value
where_it_belongs belongs side e = if belongs then entry_on_side side e ∷ [] else []

-- an entry of the scalar beta tensor on its side
abbrev pub side_values : Model → ℕ → List ℕ × Polynomial → List Value
side_values model side e = if scalar_side model e.0 == side then record { key = e.0; value = e.1 } ∷ [] else []

abbrev pub named_value : Model → List Token → ℕ → List ℕ × Polynomial → List Value
named_value model name side e = where_it_belongs (same_name (name_at model (side ∷ e.0)) name) side e

abbrev pub named_values : Model → List Token → ℕ → Entries → List Value
named_values model name side es = flat_map (named_value model name side) es
