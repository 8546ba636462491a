-- The components of a block: which content a component has, and on which side of its block it stands. A key has the side before
-- the places of its legs, two fermions and a scalar, or four scalars; the dummy stands behind the scalars.
use Rattle.std.specs.Prelude.{◌≡◌, ℕ, zero, suc, if◌then◌else◌, List, [], ◌∷◌, ◌++◌, map, slice_get, Option, Some, None}
use Rattle.std.specs.List.{flat_map}
use Rattle.model_core.specs.declared.component_lists.FieldComponent.{FieldComponent}
use Rattle.model_core.specs.declared.content.FieldToken.{FieldToken}
use Rattle.model_core.specs.declared.model.Model.{Model}
use Rattle.model_core.specs.declared.term.TermKind.{TermKind}
use Rattle.model_core.specs.declared.term.TermKind.TheVariants.{Fermion, Scalar}
use Rattle.model_core.specs.ComponentLists.{fermion_list, scalar_list}
use Rattle.model_core.specs.Content.{sorted, conjugate_token, block_of, same_block}

-- ---- tokens

-- the token of what stands at a place: the dummy has none
abbrev pub token_of : TermKind → Option FieldComponent → List FieldToken
token_of kind None = []
token_of kind (Some x) = record { kind = kind; field = x.field; conj = x.conj; generation = x.generation } ∷ []

abbrev pub tokens_at : TermKind → List FieldComponent → List ℕ → List FieldToken
tokens_at kind components places = flat_map (λ place. token_of kind (slice_get components place)) places

abbrev pub scalar_tokens : Model → List ℕ → List FieldToken
scalar_tokens model places = tokens_at Scalar (scalar_list model) places

-- the fermions of the Yukawa tensor on side 0, and those of the conjugate one, whose tokens are the conjugates, on side 1
abbrev pub fermion_tokens : Model → ℕ → List ℕ → List FieldToken
fermion_tokens model zero places = tokens_at Fermion (fermion_list model) places
fermion_tokens model (suc side) places = map (conjugate_token model) (tokens_at Fermion (fermion_list model) places)

-- ---- the block and the side of a component

-- the content of a component is the list of its tokens in order
abbrev pub component_content : Model → TermKind → List ℕ → List FieldToken
component_content model Fermion (side ∷ j ∷ k ∷ places) = sorted (fermion_tokens model side (j ∷ k ∷ []) ++ scalar_tokens model places)
component_content model Scalar (side ∷ places) = sorted (scalar_tokens model places)
component_content model _ _ = []

-- 0 where a content is the block's own, and 1 where it is the conjugate one
abbrev pub side_of : List FieldToken → List FieldToken → ℕ
side_of block content = if same_block content block then 0 else 1

abbrev pub component_block : Model → TermKind → List ℕ → List FieldToken
component_block model kind key = block_of model (component_content model kind key)

abbrev pub component_side : Model → TermKind → List ℕ → ℕ
component_side model kind key = side_of (component_block model kind key) (component_content model kind key)

-- a component of a block has the block's content or the conjugate one, and its key the side of that
pub record IsComponentOf (model : Model) (kind : TermKind) (block : List FieldToken) (side : ℕ) (places : List ℕ) : Type 0 where
  pub block_is : component_block model kind (side ∷ places) ≡ block
  pub side_is : component_side model kind (side ∷ places) ≡ side
