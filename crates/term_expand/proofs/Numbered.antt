-- The numbered entries of a row, one by one.
use Rattle.std.specs.Prelude.{◌≡◌, ◌+◌, ◌-◌, ◌<◌, ◌≤◌, ℕ, suc, List, [], ◌∷◌, ◌++◌, map, length}
use Rattle.std.proofs.Common.{take, get_or, subst, sym, ap, ap₂, ◌∙◌, arith}
use Rattle.std.proofs.lemmas.List.{length-map, length-take-le, map-append, take_more, take_all}
use Rattle.std.proofs.lemmas.List.FromFn.{length-range_with_len, get_or-range_with_len}
use Rattle.model_core.specs.declared.model.Model.{Model}
use Rattle.model_core.specs.declared.term.Term.{Term}
use Rattle.model_core.specs.Content.{first_column, columns_at}
use Rattle.model_core.specs.Directions.{cells_in, numbered}
use Rattle.term_expand.specs.declared.expansion.Sums.{Sums}
use Rattle.term_expand.specs.declared.expansion.Place.{Place}
use Rattle.term_expand.specs.Expansion.{Adds, entry_of}
use Rattle.term_expand.proofs.Added.{adds_both}

-- ids go on behind the first cells
pub numbered-append : (place id : ℕ) (term : Term) (xs ys : List (ℕ × ℕ)) → numbered place id term (xs ++ ys) ≡ numbered place id term xs ++ numbered place (id + length xs) term ys
numbered-append place id term [] ys = ap (λ n. numbered place n term ys) (omega arith)
numbered-append place id term (x ∷ xs) ys =
    ap (λ es. record { place = place; term = term; id = id; row = x.0; column = x.1 } ∷ es)
    (numbered-append place (suc id) term xs ys ∙ ap (λ n. numbered place (suc id) term xs ++ numbered place n term ys) (omega arith))

-- the first cells of a row
abbrev pub first_cells : Term → ℕ → ℕ → List (ℕ × ℕ)
first_cells term row i = map (λ column. (row, column)) (take i (columns_at term row))

-- one cell more
pub row_step : (model : Model) (place next : Place) (term : Term) (row i column : ℕ) (old now new : Sums) → i < length (columns_at term row) → next.term ≡ place.term → next.id ≡ place.id + i → column ≡ first_column term row + i
    → Adds model (numbered place.term place.id term (first_cells term row i)) old now → Adds model (entry_of next term row column ∷ []) now new → Adds model (numbered place.term place.id term (first_cells term row (i + 1))) old new
row_step model place next term row i column old now new within places ids columns so_far last =
    let columns_of = columns_at term row in
    let pair : ℕ → ℕ × ℕ = λ c. (row, c) in
    let at : get_or columns_of i 0 ≡ column = get_or-range_with_len (first_column term row) (suc term.columns - first_column term row) i 0 (omega (arith, within, length-range_with_len (first_column term row) (suc term.columns - first_column term row))) ∙ sym columns in
    let cells : first_cells term row (i + 1) ≡ first_cells term row i ++ (row, column) ∷ [] =
    ap (map pair) (take_more columns_of i 0 within ∙ ap (λ c. take i columns_of ++ c ∷ []) at) ∙ map-append pair (take i columns_of) (column ∷ []) in
    let counted : length (first_cells term row i) ≡ i = length-map (take i columns_of) pair ∙ length-take-le i columns_of (omega (arith, within)) in
    let id : place.id + length (first_cells term row i) ≡ next.id = ap (λ n. place.id + n) counted ∙ sym ids in
    let all : numbered place.term place.id term (first_cells term row (i + 1)) ≡ numbered place.term place.id term (first_cells term row i) ++ entry_of next term row column ∷ [] =
    ap (numbered place.term place.id term) cells ∙ numbered-append place.term place.id term (first_cells term row i) ((row, column) ∷ [])
    ∙ ap₂ (λ t n. numbered place.term place.id term (first_cells term row i) ++ record { place = t; term = term; id = n; row = row; column = column } ∷ []) (sym places) id in
    subst (λ es. Adds model es old new) (sym all) (adds_both model (numbered place.term place.id term (first_cells term row i)) (entry_of next term row column ∷ []) old now new so_far last)

-- all cells of a row
pub row_end : (model : Model) (place : Place) (term : Term) (row i : ℕ) (old new : Sums) → length (columns_at term row) ≤ i → Adds model (numbered place.term place.id term (first_cells term row i)) old new → Adds model (numbered place.term place.id term (cells_in term row)) old new
row_end model place term row i old new over all =
    subst (λ cs. Adds model (numbered place.term place.id term (map (λ column. (row, column)) cs)) old new) (take_all i (columns_at term row) over) all

-- how many cells a row has, as it is counted
pub row_count : (term : Term) (row first count : ℕ) → first ≡ first_column term row → count ≡ term.columns + 1 - first → length (columns_at term row) ≡ count
row_count term row first count is counted =
    length-range_with_len (first_column term row) (suc term.columns - first_column term row) ∙ ap (λ n. suc term.columns - n) (sym is) ∙ omega (arith, counted)
