-- Conjugate contents, and the block of both.
use Rattle.std.proofs.Common.{◌≡◌, Bool, true, false, List, [], ◌∷◌, map, Ordering, Less, Equal, Greater, refl, sym, ap, ap₂, ◌∙◌}
use Rattle.std.specs.Prelude.{if◌then◌else◌, not}
use Rattle.std.specs.Cmp.{IsTotalOrder, tied_itself}
use Rattle.std.specs.Cmp.Lexicographic.{lists_total}
use Rattle.std.specs.Ordering.{is_eq, ordering_reverse}
use Rattle.model_core.specs.declared.content.FieldToken.{FieldToken}
use Rattle.model_core.specs.declared.model.Model.{Model}
use Rattle.model_core.specs.Content.{token_cmp, is_before, sorted, is_self_conjugate, conjugate_token, conjugate_content, content_cmp, first_of_two, block_of, same_block}
use Rattle.direction_laws.proofs.Sorting.{tokens_total, then_equal, token_equal, sorted_map, sorted_twice}

-- ---- the order of contents

contents_total : IsTotalOrder content_cmp
contents_total = lists_total tokens_total

content_equal : (a b : List FieldToken) → content_cmp a b ≡ Equal → a ≡ b
content_equal [] [] h = refl
content_equal [] (y ∷ b) h = let never : ⊥ = cc in absurd never
content_equal (x ∷ a) [] h = let never : ⊥ = cc in absurd never
content_equal (x ∷ a) (y ∷ b) h =
    let parts = then_equal (token_cmp x y) (content_cmp a b) h in ap₂ ◌∷◌ (token_equal x y parts.0) (content_equal a b parts.1)

is_equal : (o : Ordering) → is_eq o ≡ true → o ≡ Equal
is_equal Less h = let never : ⊥ = cc in absurd never
is_equal Equal h = refl
is_equal Greater h = let never : ⊥ = cc in absurd never

pub same_content : (a b : List FieldToken) → same_block a b ≡ true → a ≡ b
same_content a b h = content_equal a b (is_equal (content_cmp a b) h)

pub content_itself : (a : List FieldToken) → same_block a a ≡ true
content_itself a = ap is_eq (tied_itself contents_total a)

-- ---- conjugates

not_twice : (b : Bool) → not (not b) ≡ b
not_twice true = refl
not_twice false = refl

token_twice : (model : Model) (t : FieldToken) → conjugate_token model (conjugate_token model t) ≡ t
token_twice model t = by_real (is_self_conjugate model t) refl
  where
    by_real : (b : Bool) → is_self_conjugate model t ≡ b → conjugate_token model (conjugate_token model t) ≡ t
    by_real true h =
        let once : conjugate_token model t ≡ t = ap (λ (b : Bool). if b then t else record t { conj = not t.conj }) h in
        ap (conjugate_token model) once ∙ once
    by_real false h =
        let turned : FieldToken = record { kind = t.kind; field = t.field; conj = not t.conj; generation = t.generation } in
        let once : conjugate_token model t ≡ turned = ap (λ (b : Bool). if b then t else record t { conj = not t.conj }) h in
        let twice : conjugate_token model turned ≡ record { kind = t.kind; field = t.field; conj = not (not t.conj); generation = t.generation } = ap (λ (b : Bool). if b then turned else record turned { conj = not turned.conj }) h in
        ap (conjugate_token model) once ∙ twice
        ∙ ap (λ (c : Bool). record { kind = t.kind; field = t.field; conj = c; generation = t.generation }) (not_twice t.conj)

pub tokens_twice : (model : Model) (ts : List FieldToken) → map (conjugate_token model) (map (conjugate_token model) ts) ≡ ts
tokens_twice model [] = refl
tokens_twice model (t ∷ ts) = ap₂ ◌∷◌ (token_twice model t) (tokens_twice model ts)

-- the conjugate of the conjugate content
conjugate_twice : (model : Model) (ts : List FieldToken) → conjugate_content model (conjugate_content model (sorted ts)) ≡ sorted ts
conjugate_twice model ts =
    sorted_map (conjugate_token model) (map (conjugate_token model) (sorted ts)) ∙ ap sorted (tokens_twice model (sorted ts)) ∙ sorted_twice ts

-- ---- the block

first_either : (x y : List FieldToken) → first_of_two x y ≡ first_of_two y x
first_either x y = by_order (content_cmp y x) (content_cmp x y) refl (contents_total.antisymm x y)
  where
    by_order : (o r : Ordering) → content_cmp y x ≡ o → r ≡ ordering_reverse (content_cmp y x) → (if is_before o then y else x) ≡ (if is_before r then x else y)
    by_order Less r h k = ap (λ s. if is_before s then x else y) (sym (k ∙ ap ordering_reverse h))
    by_order Equal r h k = sym (content_equal y x h) ∙ ap (λ s. if is_before s then x else y) (sym (k ∙ ap ordering_reverse h))
    by_order Greater r h k = ap (λ s. if is_before s then x else y) (sym (k ∙ ap ordering_reverse h))

-- a content and its conjugate have one block
pub block_conjugate : (model : Model) (ts : List FieldToken) → block_of model (conjugate_content model (sorted ts)) ≡ block_of model (sorted ts)
block_conjugate model ts =
    ap (first_of_two (conjugate_content model (sorted ts))) (conjugate_twice model ts) ∙ first_either (conjugate_content model (sorted ts)) (sorted ts)
