-- How many tokens the block of a direction has, and its name.
use Rattle.std.specs.Prelude.{◌≡◌, ◌≤◌, ◌-◌, ◌==◌, ◌&&◌, if◌then◌else◌, nat_le, ℕ, suc, Bool, true, false, List, [], ◌∷◌, ◌++◌, map, length, replicate}
use Rattle.std.specs.List.{count_by, list_all}
use Rattle.std.proofs.Common.{refl, ap, ◌∙◌, arith, length-append}
use Rattle.std.proofs.lemmas.Bool.Decides.{nat_tests}
use Rattle.std.proofs.lemmas.List.{length-map, length-replicate}
use Rattle.model_core.specs.declared.content.FieldToken.{FieldToken}
use Rattle.model_core.specs.declared.content.FieldUse.{FieldUse}
use Rattle.model_core.specs.declared.model.Model.{Model}
use Rattle.model_core.specs.declared.term.Monomial.{Monomial}
use Rattle.model_core.specs.declared.term.Term.{Term}
use Rattle.model_core.specs.declared.term.TermKind.{TermKind}
use Rattle.model_core.specs.declared.term.TermKind.TheVariants.{Fermion, Scalar}
use Rattle.model_core.specs.Content.{is_fermion, may_couple, same_uses, has_content, first_uses, token_cmp, is_before, inserted, sorted, token_at, content_at, conjugate_token, conjugate_content, content_cmp, block_of}
use Rattle.model_core.specs.Directions.{CouplingEntry, Direction, cell_content, entry_block}
use Rattle.model_core.specs.Factors.{uses}
use Rattle.model_core.specs.Groups.{is_between}
use Rattle.model_core.specs.TermRules.{has_monomials, has_shape, has_one_content, has_good_monomials, has_good_coupling, is_term}
use Rattle.model_core.proofs.ValidLaws.{both, between, first_passes}
use Rattle.term_expand.specs.Texts.{leg_count}
use Rattle.term_expand.specs.Tokens.{token_of, dummy_token}
use Rattle.derive_core.specs.Blocks.{name_of}
use Rattle.derive_core.proofs.OwnDirections.{IsOwn}

-- ---- contents

length-inserted : (token : FieldToken) (tokens : List FieldToken) → length (inserted token tokens) ≡ suc (length tokens)
length-inserted token [] = refl
length-inserted token (first ∷ tokens) = by_order (is_before (token_cmp first token)) (length-inserted token tokens)
  where
    by_order : (b : Bool) → length (inserted token tokens) ≡ suc (length tokens) → length (if b then first ∷ inserted token tokens else token ∷ first ∷ tokens) ≡ suc (length (first ∷ tokens))
    by_order true h = ap suc h
    by_order false h = refl

pub length-sorted : (tokens : List FieldToken) → length (sorted tokens) ≡ length tokens
length-sorted [] = refl
length-sorted (token ∷ tokens) = length-inserted token (sorted tokens) ∙ ap suc (length-sorted tokens)

length-content_at : (used : List FieldUse) (row column : ℕ) → length (content_at used row column) ≡ length used
length-content_at used row column = length-sorted (map (token_at row column) used) ∙ length-map used (token_at row column)

length-conjugate_content : (model : Model) (content : List FieldToken) → length (conjugate_content model content) ≡ length content
length-conjugate_content model content = length-sorted (map (conjugate_token model) content) ∙ length-map content (conjugate_token model)

pub length-block_of : (model : Model) (content : List FieldToken) → length (block_of model content) ≡ length content
length-block_of model content = by_order (is_before (content_cmp (conjugate_content model content) content))
  where
    by_order : (b : Bool) → length (if b then conjugate_content model content else content) ≡ length content
    by_order true = length-conjugate_content model content
    by_order false = refl

length-entry_block : (model : Model) (e : CouplingEntry) → length (entry_block model e) ≡ length (first_uses e.term.monomials)
length-entry_block model e = length-block_of model (cell_content e.term (e.row, e.column)) ∙ length-content_at (first_uses e.term.monomials) e.row e.column

-- ---- what a term may have

may_fit : (kind : TermKind) (used : List FieldUse) → may_couple kind used ≡ true → length used ≤ leg_count kind
may_fit Fermion used passes =
    let test : nat_le (length used) 3 ≡ true = (both (count_by is_fermion used == 2) (nat_le (length used) 3) passes).1 in
    grind (arith, nat_tests)
may_fit Scalar used passes = (between 2 4 (length used) (both (count_by is_fermion used == 0) (is_between 2 4 (length used)) passes).1).1

content_fits : (kind : TermKind) (monomials : List Monomial) → list_all (has_content kind (first_uses monomials)) monomials ≡ true → length (first_uses monomials) ≤ leg_count kind
content_fits kind [] all = omega arith
content_fits kind (monomial ∷ monomials) all =
    may_fit kind (uses monomial.factors)
    (both (may_couple kind (uses monomial.factors)) (same_uses (uses monomial.factors) (uses monomial.factors)) (first_passes (has_content kind (uses monomial.factors)) monomial monomials all).0).0

uses_fit : (model : Model) (term : Term) → is_term model term ≡ true → length (first_uses term.monomials) ≤ leg_count term.kind
uses_fit model term is =
    content_fits term.kind term.monomials
    (both (has_monomials model term && has_shape model term) (has_one_content term) (both (has_good_monomials model term) (has_good_coupling model term) is).0).1

-- ---- names

pub length-block_name : (block : List FieldToken) (legs : ℕ) → length block ≤ legs → length (map token_of block ++ replicate (legs - length block) dummy_token) ≡ legs
length-block_name block legs fits =
    omega (arith, fits, length-append (map token_of block) (replicate (legs - length block) dummy_token), length-map block token_of, length-replicate (legs - length block) dummy_token)

-- a name has a token for each leg
pub length-name_of : (model : Model) (e : CouplingEntry) (d : Direction) → is_term model e.term ≡ true → IsOwn model e d → length (name_of d) ≡ leg_count d.kind
length-name_of model e d is own =
    length-block_name d.block (leg_count d.kind)
    (let first = ap length own.block_is in
    let second = length-entry_block model e in
    let third = uses_fit model e.term is in
    let kinds = ap leg_count own.kind_is in
    omega (arith, first, second, third, kinds))
