-- How many tokens the name of a component's block has, and the name by the number of places.
use Rattle.std.proofs.Common.{◌≡◌, ◌≤◌, ℕ, zero, suc, List, [], ◌∷◌, ◌++◌, length, Option, None, Some, refl, inl, inr, arith, length-append}
use Rattle.std.specs.Prelude.{slice_get}
use Rattle.std.proofs.lemmas.List.{length-map}
use Rattle.model_core.specs.declared.component_lists.FieldComponent.{FieldComponent}
use Rattle.model_core.specs.declared.model.Model.{Model}
use Rattle.model_core.specs.declared.term.TermKind.{TermKind}
use Rattle.model_core.specs.declared.term.TermKind.TheVariants.{Fermion, Scalar}
use Rattle.model_core.specs.BlockSide.{token_of, tokens_at, scalar_tokens, fermion_tokens, component_content, component_block}
use Rattle.model_core.specs.ComponentLists.{fermion_list, scalar_list}
use Rattle.model_core.specs.Content.{conjugate_token}
use Rattle.derive_core.specs.BlockBetas.{IsLegCount, name_of_kind, name_at}
use Rattle.derive_core.proofs.BlockSizes.{length-sorted, length-block_of, length-block_name}

-- ---- contents

-- one token at most stands at a place
one_token : (kind : TermKind) (found : Option FieldComponent) → length (token_of kind found) ≤ 1
one_token kind None = omega arith
one_token kind (Some x) = omega arith

few_tokens : (kind : TermKind) (components : List FieldComponent) (places : List ℕ) → length (tokens_at kind components places) ≤ length places
few_tokens kind components [] = omega arith
few_tokens kind components (place ∷ places) =
    let here = one_token kind (slice_get components place) in
    let rest = few_tokens kind components places in
    let both = length-append (token_of kind (slice_get components place)) (tokens_at kind components places) in
    omega (arith, here, rest, both)

few_fermions : (model : Model) (side : ℕ) (places : List ℕ) → length (fermion_tokens model side places) ≤ length places
few_fermions model zero places = few_tokens Fermion (fermion_list model) places
few_fermions model (suc side) places =
    let mapped = length-map (tokens_at Fermion (fermion_list model) places) (conjugate_token model) in
    let few = few_tokens Fermion (fermion_list model) places in
    omega (arith, mapped, few)

three_fit : (model : Model) (side j k a : ℕ) → length (component_block model Fermion (side ∷ j ∷ k ∷ a ∷ [])) ≤ 3
three_fit model side j k a =
    let pair : List ℕ = j ∷ k ∷ [] in
    let block = length-block_of model (component_content model Fermion (side ∷ j ∷ k ∷ a ∷ [])) in
    let content = length-sorted (fermion_tokens model side pair ++ scalar_tokens model (a ∷ [])) in
    let both = length-append (fermion_tokens model side pair) (scalar_tokens model (a ∷ [])) in
    let fermions = few_fermions model side pair in
    let scalars = few_tokens Scalar (scalar_list model) (a ∷ []) in
    omega (arith, block, content, both, fermions, scalars)

four_fit : (model : Model) (side a b c d : ℕ) → length (component_block model Scalar (side ∷ a ∷ b ∷ c ∷ d ∷ [])) ≤ 4
four_fit model side a b c d =
    let block = length-block_of model (component_content model Scalar (side ∷ a ∷ b ∷ c ∷ d ∷ [])) in
    let content = length-sorted (scalar_tokens model (a ∷ b ∷ c ∷ d ∷ [])) in
    let scalars = few_tokens Scalar (scalar_list model) (a ∷ b ∷ c ∷ d ∷ []) in
    omega (arith, block, content, scalars)

-- ---- names

-- a token for each leg
pub length-name_at : (model : Model) (side : ℕ) (places : List ℕ) → IsLegCount (length places) → length (name_at model (side ∷ places)) ≡ length places
length-name_at model side (j ∷ k ∷ a ∷ []) legs = length-block_name (component_block model Fermion (side ∷ j ∷ k ∷ a ∷ [])) 3 (three_fit model side j k a)
length-name_at model side (a ∷ b ∷ c ∷ d ∷ []) legs = length-block_name (component_block model Scalar (side ∷ a ∷ b ∷ c ∷ d ∷ [])) 4 (four_fit model side a b c d)
length-name_at model side [] (inl three) = let never : ⊥ = omega (arith, three) in absurd never
length-name_at model side [] (inr four) = let never : ⊥ = omega (arith, four) in absurd never
length-name_at model side (j ∷ []) (inl three) = let never : ⊥ = omega (arith, three) in absurd never
length-name_at model side (j ∷ []) (inr four) = let never : ⊥ = omega (arith, four) in absurd never
length-name_at model side (j ∷ k ∷ []) (inl three) = let never : ⊥ = omega (arith, three) in absurd never
length-name_at model side (j ∷ k ∷ []) (inr four) = let never : ⊥ = omega (arith, four) in absurd never
length-name_at model side (a ∷ b ∷ c ∷ d ∷ e ∷ rest) (inl three) = let never : ⊥ = omega (arith, three) in absurd never
length-name_at model side (a ∷ b ∷ c ∷ d ∷ e ∷ rest) (inr four) = let never : ⊥ = omega (arith, four) in absurd never

-- by the number of places
pub name_of_three : (model : Model) (side : ℕ) (places : List ℕ) → length places ≡ 3 → name_of_kind model Fermion (side ∷ places) ≡ name_at model (side ∷ places)
name_of_three model side (j ∷ k ∷ a ∷ []) three = refl
name_of_three model side [] three = let never : ⊥ = omega (arith, three) in absurd never
name_of_three model side (j ∷ []) three = let never : ⊥ = omega (arith, three) in absurd never
name_of_three model side (j ∷ k ∷ []) three = let never : ⊥ = omega (arith, three) in absurd never
name_of_three model side (a ∷ b ∷ c ∷ d ∷ rest) three = let never : ⊥ = omega (arith, three) in absurd never

pub name_of_four : (model : Model) (side : ℕ) (places : List ℕ) → length places ≡ 4 → name_of_kind model Scalar (side ∷ places) ≡ name_at model (side ∷ places)
name_of_four model side (a ∷ b ∷ c ∷ d ∷ []) four = refl
name_of_four model side [] four = let never : ⊥ = omega (arith, four) in absurd never
name_of_four model side (j ∷ []) four = let never : ⊥ = omega (arith, four) in absurd never
name_of_four model side (j ∷ k ∷ []) four = let never : ⊥ = omega (arith, four) in absurd never
name_of_four model side (j ∷ k ∷ a ∷ []) four = let never : ⊥ = omega (arith, four) in absurd never
name_of_four model side (a ∷ b ∷ c ∷ d ∷ e ∷ rest) four = let never : ⊥ = omega (arith, four) in absurd never

pub no_name : (model : Model) (side : ℕ) (places : List ℕ) → (length places ≡ 3 → ⊥) → (length places ≡ 4 → ⊥) → [] ≡ name_at model (side ∷ places)
no_name model side [] three four = refl
no_name model side (j ∷ []) three four = refl
no_name model side (j ∷ k ∷ []) three four = refl
no_name model side (j ∷ k ∷ a ∷ []) three four = absurd (three refl)
no_name model side (a ∷ b ∷ c ∷ d ∷ []) three four = absurd (four refl)
no_name model side (a ∷ b ∷ c ∷ d ∷ e ∷ rest) three four = refl
