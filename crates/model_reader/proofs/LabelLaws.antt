-- The labels of a monomial, each where its text stands first.
use Rattle.std.proofs.Common.{◌≡◌, ℕ, ◌≤◌, ◌<◌, ◌+◌, Bool, true, false, List, [], ◌∷◌, ◌++◌, length, map, drop, get_or, refl, sym, ap, ◌∙◌, arith}
use Rattle.std.specs.Prelude.{if◌then◌else◌}
use Rattle.std.specs.List.{list_any, flat_map}
use Rattle.std.proofs.lemmas.List.{length-append, drop_more}
use Rattle.model_core.specs.declared.sum.Span.{Span}
use Rattle.model_core.specs.declared.sum.WrittenFactor.{WrittenFactor}
use Rattle.model_core.specs.TermMeaning.{same_text, first_labels, labels_in}

-- labels after others
pub first_labels_append : (text : List ℕ) (first xs ys : List Span) → first_labels text first (xs ++ ys) ≡ first_labels text (first_labels text first xs) ys
first_labels_append text first [] ys = refl
first_labels_append text first (x ∷ xs) ys =
    first_labels_append text (if list_any (same_text text x) first then first else first ++ x ∷ []) xs ys

one_more : (first : List Span) (x : Span) (met : Bool) → length (if met then first else first ++ x ∷ []) ≤ length first + 1
one_more first x true = omega arith
one_more first x false = omega (arith, length-append first (x ∷ []))

length-first_labels : (text : List ℕ) (first labels : List Span) → length (first_labels text first labels) ≤ length first + length labels
length-first_labels text first [] = omega arith
length-first_labels text first (x ∷ labels) =
    let more = length-first_labels text (if list_any (same_text text x) first then first else first ++ x ∷ []) labels in
    let one = one_more first x (list_any (same_text text x) first) in
    omega (arith, more, one)

-- at most as many as stand in the monomial
pub few_labels : (text : List ℕ) (labels : List Span) → length (first_labels text [] labels) ≤ length labels
few_labels text labels =
    let most = length-first_labels text [] labels in
    omega (arith, most)

append_one : {B : Type 0} (built : List B) (y : B) (rest : List B) → (built ++ y ∷ []) ++ rest ≡ built ++ y ∷ rest
append_one [] y rest = refl
append_one (b ∷ built) y rest = ap (λ tail. b ∷ tail) (append_one built y rest)

-- one element more of a list is mapped
pub map_next : {A B : Type 0} (xs : List A) (f : A → B) (i : ℕ) (d : A) (built more : List B) (y : B) → i < length xs → map f xs ≡ built ++ map f (drop i xs)
    → y ≡ f (get_or xs i d) → more ≡ built ++ y ∷ [] → map f xs ≡ more ++ map f (drop (i + 1) xs)
map_next xs f i d built more y inside before is new =
    before ∙ ap (λ rest. built ++ map f rest) (drop_more xs i d inside) ∙ sym (append_one built (f (get_or xs i d)) (map f (drop (i + 1) xs)))
    ∙ ap (λ last. (built ++ last ∷ []) ++ map f (drop (i + 1) xs)) (sym is) ∙ ap (λ front. front ++ map f (drop (i + 1) xs)) (sym new)

-- one factor more has its labels added
pub labels_next : (text : List ℕ) (first : List Span) (factors : List WrittenFactor) (i : ℕ) (factor : WrittenFactor) (all more : List Span) → i < length factors
    → factor ≡ get_or factors i factor → all ≡ first_labels text first (flat_map labels_in (drop i factors)) → more ≡ first_labels text first factor.labels
    → all ≡ first_labels text more (flat_map labels_in (drop (i + 1) factors))
labels_next text first factors i factor all more inside at before new =
    before ∙ ap (λ rest. first_labels text first (flat_map labels_in rest)) (drop_more factors i factor inside)
    ∙ ap (λ next. first_labels text first (flat_map labels_in (next ∷ drop (i + 1) factors))) (sym at)
    ∙ first_labels_append text first factor.labels (flat_map labels_in (drop (i + 1) factors))
    ∙ ap (λ labels. first_labels text labels (flat_map labels_in (drop (i + 1) factors))) (sym new)
