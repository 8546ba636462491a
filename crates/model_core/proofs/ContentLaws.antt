-- Laws for the code of contents and blocks: a token put in its place, and ranges of rows and columns.
use Rattle.std.proofs.Common.{◌≡◌, ℕ, zero, suc, ◌+◌, ◌-◌, ◌<◌, ◌≤◌, Bool, true, false, List, [], ◌∷◌, drop, length, map, refl, ap, ap₂, ◌∙◌, arith, length-append, ◌*◌}
use Rattle.std.specs.List.{insert, prefix_len, range_with_len}
use Rattle.model_core.specs.declared.content.FieldToken.{FieldToken}
use Rattle.std.specs.List.{list_all, flat_map}
use Rattle.std.specs.Prelude.{◌&&◌, nat_le, if◌then◌else◌}
use Rattle.std.proofs.lemmas.List.{drop_all, length-map}
use Rattle.std.proofs.lemmas.List.Folds.{list_all-append}
use Rattle.model_core.specs.declared.model.Model.{Model}
use Rattle.std.proofs.lemmas.List.FromFn.{length-range_with_len}
use Rattle.model_core.specs.declared.term.Term.{Term}
use Rattle.model_core.specs.Content.{token_cmp, is_before, inserted, first_column, columns_at, rows_of, symbol_block, row_blocks, term_blocks, has_small_directions}
use Rattle.model_core.specs.Flavour.{is_symmetric}

-- how many tokens at the front come before this one
abbrev pub place_of : FieldToken → List FieldToken → ℕ
place_of token tokens = prefix_len (λ first. is_before (token_cmp first token)) tokens

-- a token stands behind those that come before it
pub inserted_at : (token : FieldToken) (tokens : List FieldToken) → inserted token tokens ≡ insert tokens (place_of token tokens) token
inserted_at token [] = refl
inserted_at token (first ∷ tokens) = by_order (is_before (token_cmp first token)) refl (inserted_at token tokens)
  where
    by_order : (before : Bool) → is_before (token_cmp first token) ≡ before → inserted token tokens ≡ insert tokens (place_of token tokens) token →
        inserted token (first ∷ tokens) ≡ insert (first ∷ tokens) (place_of token (first ∷ tokens)) token
    by_order true e others =
        let next : 1 + place_of token tokens ≡ suc (place_of token tokens) = omega arith in
        rw e (rw next (ap (λ xs. first ∷ xs) others))
    by_order false e others = rw e refl

-- the number at a place of a range, with those behind it
pub drop-range : (a n i : ℕ) → i < n → drop i (range_with_len a n) ≡ (a + i) ∷ drop (i + 1) (range_with_len a n)
drop-range a zero i h = absurd (omega arith)
drop-range a (suc n) zero h = ap (λ b. b ∷ range_with_len (a + 1) n) (omega arith)
drop-range a (suc n) (suc i) h =
    let next : suc i + 1 ≡ suc (i + 1) = omega arith in
    let at : a + 1 + i ≡ a + suc i = omega arith in
    rw next (drop-range (a + 1) n i (omega arith) ∙ ap (λ b. b ∷ drop (i + 1) (range_with_len (a + 1) n)) at)

-- the row at a place, with those behind it
pub drop-rows : (term : Term) (place : ℕ) → place < term.rows → drop place (rows_of term) ≡ (place + 1) ∷ drop (place + 1) (rows_of term)
drop-rows term place h =
    let at : 1 + place ≡ place + 1 = omega arith in
    drop-range 1 term.rows place h ∙ ap (λ row. row ∷ drop (place + 1) (rows_of term)) at

pub drop-all_rows : (term : Term) (place : ℕ) → term.rows ≤ place → drop place (rows_of term) ≡ []
drop-all_rows term place h = drop_all place (rows_of term) (omega (arith, length-range_with_len 1 term.rows))

-- the column at a place, with those behind it
pub drop-columns : (term : Term) (row place : ℕ) → place < suc term.columns - first_column term row → drop place (columns_at term row) ≡ (first_column term row + place) ∷ drop (place + 1) (columns_at term row)
drop-columns term row place h = drop-range (first_column term row) (suc term.columns - first_column term row) place h

pub drop-all_columns : (term : Term) (row place : ℕ) → suc term.columns - first_column term row ≤ place → drop place (columns_at term row) ≡ []
drop-all_columns term row place h = drop_all place (columns_at term row) (omega (arith, length-range_with_len (first_column term row) (suc term.columns - first_column term row)))

-- the first element decides, or those behind it
pub all_from : (test : ℕ → Bool) (x : ℕ) (xs rest : List ℕ) → xs ≡ x ∷ rest → test x ≡ true → list_all test xs ≡ list_all test rest
all_from test x xs rest e passes = ap (list_all test) e ∙ ap (λ b. b && list_all test rest) passes

pub not_all_from : (test : ℕ → Bool) (x : ℕ) (xs rest : List ℕ) → xs ≡ x ∷ rest → test x ≡ false → list_all test xs ≡ false
not_all_from test x xs rest e fails = ap (list_all test) e ∙ ap (λ b. b && list_all test rest) fails

-- ---- a term's blocks

-- none has more than two directions
small_block : (model : Model) (term : Term) (row column : ℕ) → has_small_directions (symbol_block model term row column) ≡ true
small_block model term row column = by_realness term.real
  where
    by_realness : (real : Bool) → nat_le (if real then 1 else 2) 2 ≡ true
    by_realness true = refl
    by_realness false = refl

small_row : (model : Model) (term : Term) (row : ℕ) (columns : List ℕ) → list_all has_small_directions (map (symbol_block model term row) columns) ≡ true
small_row model term row [] = refl
small_row model term row (column ∷ columns) = ap₂ ◌&&◌ (small_block model term row column) (small_row model term row columns)

small_rows : (model : Model) (term : Term) (rows : List ℕ) → list_all has_small_directions (flat_map (row_blocks model term) rows) ≡ true
small_rows model term [] = refl
small_rows model term (row ∷ rows) =
    list_all-append has_small_directions (row_blocks model term row) (flat_map (row_blocks model term) rows)
    ∙ ap₂ ◌&&◌ (small_row model term row (columns_at term row)) (small_rows model term rows)

pub term_blocks-small : (model : Model) (term : Term) → list_all has_small_directions (term_blocks model term) ≡ true
term_blocks-small model term = small_rows model term (rows_of term)

-- there are at most 36
first_column-positive : (term : Term) (row : ℕ) → 1 ≤ row → 1 ≤ first_column term row
first_column-positive term row h = by_shape (is_symmetric term.shape)
  where
    by_shape : (symmetric : Bool) → 1 ≤ (if symmetric then row else 1)
    by_shape true = h
    by_shape false = omega arith

few_in_row : (model : Model) (term : Term) (row : ℕ) → term.columns ≤ 6 → 1 ≤ row → length (row_blocks model term row) ≤ 6
few_in_row model term row columns h =
    let first = first_column term row in
    omega (arith, columns, first_column-positive term row h, length-map (columns_at term row) (symbol_block model term row), length-range_with_len first (suc term.columns - first))

few_in_rows : (model : Model) (term : Term) (a n : ℕ) → term.columns ≤ 6 → 1 ≤ a → length (flat_map (row_blocks model term) (range_with_len a n)) ≤ 6 * n
few_in_rows model term a zero columns h = omega arith
few_in_rows model term a (suc n) columns h =
    let others : List ℕ = range_with_len (a + 1) n in
    omega (arith, few_in_row model term a columns h, few_in_rows model term (a + 1) n columns (omega arith), length-append (row_blocks model term a) (flat_map (row_blocks model term) others))

pub term_blocks-few : (model : Model) (term : Term) → term.rows ≤ 6 → term.columns ≤ 6 → length (term_blocks model term) ≤ 36
term_blocks-few model term rows columns = omega (arith, rows, few_in_rows model term 1 term.rows columns (omega arith))
