-- The numbered entries of a term's rows, and of terms, one by one.
use Rattle.std.specs.Prelude.{◌≡◌, ◌^◌, ◌+◌, ◌<◌, ◌≤◌, ℕ, suc, List, [], ◌∷◌, ◌++◌, length, sum_by}
use Rattle.std.specs.List.{flat_map}
use Rattle.std.proofs.Common.{Bool, true, false, refl, take, get_or, subst, sym, ap, ap₂, ◌∙◌, arith, length-append}
use Rattle.std.proofs.lemmas.List.{length-map, length-take-le, append-nil, append_assoc, take_more, take_all}
use Rattle.std.proofs.lemmas.List.Concat.{length-flat_map}
use Rattle.std.proofs.lemmas.List.Folds.{length-flat_map-take, list_all_at}
use Rattle.std.proofs.lemmas.List.FromFn.{length-range_with_len, get_or-range_with_len}
use Rattle.std.proofs.lemmas.List.Sums.{sum_by-append, sum_by-cons, sum_by-take-le}
use Rattle.std.proofs.lemmas.Grind.{flat_map-append}
use mathlib.Core.Path.{fun_ext}
use Rattle.model_core.specs.declared.model.Model.{Model}
use Rattle.model_core.specs.declared.term.Term.{Term}
use Rattle.model_core.specs.Content.{columns_at, rows_of, symbol_count}
use Rattle.model_core.specs.TermRules.{is_term}
use Rattle.model_core.specs.Valid.{IsValid}
use Rattle.model_core.proofs.ValidLaws.{valid_parts, parts_groups, group_limit}
use Rattle.model_core.proofs.ValidTerms.{all_terms, few_symbols}
use Rattle.model_core.specs.Directions.{cells_in, cells, numbered, entries_from}
use Rattle.term_expand.specs.declared.expansion.Sums.{Sums}
use Rattle.term_expand.specs.declared.expansion.Place.{Place}
use Rattle.term_expand.specs.Expansion.{Adds}
use Rattle.term_expand.proofs.Added.{adds_both}
use Rattle.term_expand.proofs.Numbered.{numbered-append}

-- ---- the rows of a term

-- the cells of the first rows
abbrev pub first_rows : Term → ℕ → List (ℕ × ℕ)
first_rows term i = flat_map (cells_in term) (take i (rows_of term))

length-cells_in : (term : Term) (row : ℕ) → length (cells_in term row) ≡ length (columns_at term row)
length-cells_in term row = length-map (columns_at term row) (λ column. (row, column))

-- as many cells as symbols
pub length-cells : (term : Term) → length (cells term) ≡ symbol_count term
length-cells term = length-flat_map (cells_in term) (rows_of term) ∙ ap (λ f. sum_by f (rows_of term)) (fun_ext (length-cells_in term))

row_at : (term : Term) (i : ℕ) → i < term.rows → get_or (rows_of term) i 0 ≡ i + 1
row_at term i within = get_or-range_with_len 1 term.rows i 0 within ∙ omega arith

row_within : (term : Term) (i : ℕ) → i < term.rows → i < length (rows_of term)
row_within term i within = omega (arith, within, length-range_with_len 1 term.rows)

-- the ids of a row stay below those of the next term
pub row_ids : (term : Term) (i : ℕ) → i < term.rows → length (first_rows term i) + length (columns_at term (i + 1)) ≤ symbol_count term
row_ids term i within =
    omega (arith, length-flat_map-take (cells_in term) (rows_of term) i 0 (row_within term i within), ap (λ row. length (cells_in term row)) (row_at term i within), length-cells_in term (i + 1), length-cells term)

first_rows-more : (term : Term) (i : ℕ) → i < term.rows → first_rows term (i + 1) ≡ first_rows term i ++ cells_in term (i + 1)
first_rows-more term i within =
    ap (flat_map (cells_in term)) (take_more (rows_of term) i 0 (row_within term i within) ∙ ap (λ row. take i (rows_of term) ++ row ∷ []) (row_at term i within))
    ∙ flat_map-append (cells_in term) (take i (rows_of term)) ((i + 1) ∷ [])
    ∙ ap (λ cs. first_rows term i ++ cs) (append-nil (cells_in term (i + 1)))

-- one row more: its ids go on
pub rows_count : (term : Term) (i : ℕ) → i < term.rows → length (first_rows term (i + 1)) ≡ length (first_rows term i) + length (columns_at term (i + 1))
rows_count term i within =
    ap length (first_rows-more term i within) ∙ omega (arith, length-append (first_rows term i) (cells_in term (i + 1)), length-cells_in term (i + 1))

-- one row more: its entries are added
pub rows_step : (model : Model) (place next : Place) (term : Term) (i row : ℕ) (old now new : Sums) → i < term.rows → next.term ≡ place.term → next.id ≡ place.id + length (first_rows term i) → row ≡ i + 1
    → Adds model (numbered place.term place.id term (first_rows term i)) old now → Adds model (numbered next.term next.id term (cells_in term row)) now new → Adds model (numbered place.term place.id term (first_rows term (i + 1))) old new
rows_step model place next term i row old now new within places ids rows so_far last =
    let all : numbered place.term place.id term (first_rows term (i + 1)) ≡ numbered place.term place.id term (first_rows term i) ++ numbered next.term next.id term (cells_in term row) =
    ap (numbered place.term place.id term) (first_rows-more term i within) ∙ numbered-append place.term place.id term (first_rows term i) (cells_in term (i + 1))
    ∙ ap₂ (λ t n. numbered place.term place.id term (first_rows term i) ++ numbered t n term (cells_in term (i + 1))) (sym places) (sym ids)
    ∙ ap (λ r. numbered place.term place.id term (first_rows term i) ++ numbered next.term next.id term (cells_in term r)) (sym rows) in
    subst (λ es. Adds model es old new) (sym all) (adds_both model (numbered place.term place.id term (first_rows term i)) (numbered next.term next.id term (cells_in term row)) old now new so_far last)

-- all rows are all cells
pub rows_end : (term : Term) (i : ℕ) → term.rows ≤ i → first_rows term i ≡ cells term
rows_end term i over = ap (flat_map (cells_in term)) (take_all i (rows_of term) (omega (arith, over, length-range_with_len 1 term.rows)))

-- ---- terms

-- ids go on behind the first terms
entries_from-append : (place id : ℕ) (xs ys : List Term) → entries_from place id (xs ++ ys) ≡ entries_from place id xs ++ entries_from (place + length xs) (id + sum_by symbol_count xs) ys
entries_from-append place id [] ys = ap₂ (λ p n. entries_from p n ys) (omega arith) (omega arith)
entries_from-append place id (x ∷ xs) ys =
    ap (λ es. numbered place id x (cells x) ++ es)
    (entries_from-append (suc place) (id + symbol_count x) xs ys
    ∙ ap₂ (λ p n. entries_from (suc place) (id + symbol_count x) xs ++ entries_from p n ys) (omega arith) (omega (arith, sum_by-cons symbol_count x xs)))
    ∙ sym (append_assoc (numbered place id x (cells x)) (entries_from (suc place) (id + symbol_count x) xs) (entries_from (place + length (x ∷ xs)) (id + sum_by symbol_count (x ∷ xs)) ys))

-- one term more: its entries are added
pub terms_step : (model : Model) (next : Place) (i : ℕ) (d : Term) (old now new : Sums) → i < length model.terms → next.term ≡ i + 1 → next.id ≡ length model.groups + sum_by symbol_count (take i model.terms)
    → Adds model (entries_from 1 (length model.groups) (take i model.terms)) old now → Adds model (numbered next.term next.id (get_or model.terms i d) (cells (get_or model.terms i d))) now new
    → Adds model (entries_from 1 (length model.groups) (take (i + 1) model.terms)) old new
terms_step model next i d old now new within places ids so_far last =
    let term = get_or model.terms i d in
    let first = take i model.terms in
    let count : length first ≡ i = length-take-le i model.terms (omega (arith, within)) in
    let all : entries_from 1 (length model.groups) (take (i + 1) model.terms) ≡ entries_from 1 (length model.groups) first ++ numbered next.term next.id term (cells term) =
    ap (entries_from 1 (length model.groups)) (take_more model.terms i d within)
    ∙ entries_from-append 1 (length model.groups) first (term ∷ [])
    ∙ ap (λ es. entries_from 1 (length model.groups) first ++ es) (append-nil (numbered (1 + length first) (length model.groups + sum_by symbol_count first) term (cells term)))
    ∙ ap₂ (λ p n. entries_from 1 (length model.groups) first ++ numbered p n term (cells term)) (omega (arith, count, places)) (sym ids) in
    subst (λ es. Adds model es old new) (sym all) (adds_both model (entries_from 1 (length model.groups) first) (numbered next.term next.id term (cells term)) old now new so_far last)

-- one term more: the ids go on
pub terms_count : (terms : List Term) (i : ℕ) (d : Term) → i < length terms → sum_by symbol_count (take (i + 1) terms) ≡ sum_by symbol_count (take i terms) + symbol_count (get_or terms i d)
terms_count terms i d within =
    ap (sum_by symbol_count) (take_more terms i d within) ∙ omega (arith, sum_by-append symbol_count (take i terms) (get_or terms i d ∷ []), sum_by-cons symbol_count (get_or terms i d) [])

passes : (b : Bool) → (b ≡ false → ⊥) → b ≡ true
passes true never = refl
passes false never = absurd (never refl)

-- each term of a valid model meets the rules of terms
pub term_meets : (model : Model) (i : ℕ) (d : Term) → IsValid model → i < length model.terms → is_term model (get_or model.terms i d) ≡ true
term_meets model i d valid within =
    passes (is_term model (get_or model.terms i d))
    (λ no.
    let clash : true ≡ false = sym (all_terms model valid) ∙ list_all_at (is_term model) model.terms i d within no in
    let never : ⊥ = cc in never)

-- ids are few
pub ids_fit : (model : Model) (i : ℕ) (d : Term) → IsValid model → i < length model.terms → length model.groups + sum_by symbol_count (take i model.terms) + symbol_count (get_or model.terms i d) < 2 ^ 16
ids_fit model i d valid within =
    omega (arith, terms_count model.terms i d within, sum_by-take-le symbol_count model.terms (i + 1), few_symbols model valid, group_limit model.groups (parts_groups model (valid_parts model valid)))
