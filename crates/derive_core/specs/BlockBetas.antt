-- The beta tensors of Yukawa couplings and of scalar couplings on the blocks. A component of a block has the side before the places of
-- its legs, two fermions and a scalar, or four scalars: on side 0 the block's own content, and on side 1 the conjugate one.
use Rattle.std.specs.Prelude.{◌≡◌, ◌⊎◌, ◌==◌, ℕ, zero, suc, if◌then◌else◌, List, [], ◌∷◌}
use Rattle.std.specs.Ordering.{nat_cmp, bool_cmp, ordering_then}
use Rattle.std.proofs.Common.{Ordering}
use Rattle.std.specs.Cmp.Lexicographic.{slice_cmp}
use Rattle.beta_poly.specs.Polynomial.{Polynomial, zero_poly, conj_poly}
use Rattle.model_core.specs.declared.model.Model.{Model}
use Rattle.model_core.specs.declared.term.TermKind.{TermKind}
use Rattle.model_core.specs.declared.term.TermKind.TheVariants.{Fermion, Scalar}
use Rattle.model_core.specs.BlockSide.{component_block, component_side}
use Rattle.model_core.specs.Scalar.{Coordinate, partner}
use Rattle.model_core.specs.TermTensor.{legs_of, at_places}
use Rattle.term_expand.specs.declared.token.Token.{Token}
use Rattle.term_expand.specs.Texts.{leg_count}
use Rattle.term_expand.specs.Tokens.{block_name}
use Rattle.span_solver.specs.BlockDirections.{same_name}
use Rattle.beta_formulas.specs.ScalarBeta.{scalar_beta_at}
use Rattle.beta_formulas.specs.YukawaBeta.{yukawa_beta, yukawa_beta_at}

-- ---- names

-- the order of tokens is that of their places: fermions before scalars, and the dummy last
abbrev pub order_of_token : Token → Token → Ordering
order_of_token a b =
    ordering_then (bool_cmp a.dummy b.dummy) (ordering_then (bool_cmp b.fermion a.fermion)
    (ordering_then (nat_cmp a.field b.field) (ordering_then (bool_cmp a.conj b.conj) (nat_cmp a.generation b.generation))))

-- names are ordered as words are, by their tokens
abbrev pub name_cmp : List Token → List Token → Ordering
name_cmp = slice_cmp order_of_token

-- a block has three legs or four
abbrev pub IsLegCount : ℕ → Type 0
IsLegCount n = (n ≡ 3) ⊎ (n ≡ 4)

-- the name of the block to which a component belongs, as one of a kind of terms
abbrev pub name_of_kind : Model → TermKind → List ℕ → List Token
name_of_kind model kind key = block_name (component_block model kind key) (leg_count kind)

-- two fermions and a scalar, or four scalars
abbrev pub name_at : Model → List ℕ → List Token
name_at model (side ∷ j ∷ k ∷ a ∷ []) = name_of_kind model Fermion (side ∷ j ∷ k ∷ a ∷ [])
name_at model (side ∷ a ∷ b ∷ c ∷ d ∷ []) = name_of_kind model Scalar (side ∷ a ∷ b ∷ c ∷ d ∷ [])
name_at model _ = []

-- the side of scalars, which their places alone decide
abbrev pub scalar_side : Model → List ℕ → ℕ
scalar_side model places = component_side model Scalar (0 ∷ places)

-- ---- the beta tensors

-- the conjugate Yukawa beta tensor: the conjugate of the value at the partner of the scalar
abbrev pub conjugate_beta : Model → List Coordinate → Polynomial
conjugate_beta model (j ∷ k ∷ a ∷ []) = conj_poly (yukawa_beta model (j ∷ k ∷ partner a ∷ []))
conjugate_beta model _ = zero_poly

abbrev pub conjugate_beta_at : Model → List ℕ → Polynomial
conjugate_beta_at model = at_places zero_poly (legs_of model Fermion) (conjugate_beta model)

-- the Yukawa beta tensor on a side
abbrev pub yukawa_side_beta : Model → ℕ → List ℕ → Polynomial
yukawa_side_beta model zero places = yukawa_beta_at model places
yukawa_side_beta model (suc zero) places = conjugate_beta_at model places
yukawa_side_beta model side places = zero_poly

-- the scalar beta tensor on a side
abbrev pub scalar_side_beta : Model → ℕ → List ℕ → Polynomial
scalar_side_beta model side places = if scalar_side model places == side then scalar_beta_at model places else zero_poly

-- both, by the number of legs
abbrev pub side_beta : Model → ℕ → List ℕ → Polynomial
side_beta model side (j ∷ k ∷ a ∷ []) = yukawa_side_beta model side (j ∷ k ∷ a ∷ [])
side_beta model side (a ∷ b ∷ c ∷ d ∷ []) = scalar_side_beta model side (a ∷ b ∷ c ∷ d ∷ [])
side_beta model side _ = zero_poly

-- the part of them that belongs to a block
abbrev pub block_beta : Model → List Token → List ℕ → Polynomial
block_beta model name [] = zero_poly
block_beta model name (side ∷ places) = if same_name (name_at model (side ∷ places)) name then side_beta model side places else zero_poly
