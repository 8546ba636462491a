-- The targets of terms, row by row and cell by cell.
use Rattle.std.proofs.Common.{◌≡◌, ℕ, suc, ◌+◌, ◌-◌, ◌<◌, ◌≤◌, List, [], ◌∷◌, ◌++◌, length, map, take, drop, append_assoc, Some, refl, sym, ap, ap₂, ◌∙◌}
use Rattle.std.specs.Prelude.{slice_get}
use Rattle.std.specs.List.{flat_map}
use Rattle.std.proofs.lemmas.List.{append-nil, map-append, take_more}
use Rattle.std.proofs.lemmas.Grind.{flat_map-append}
use Rattle.std.proofs.lemmas.Option.{slice_get_within, get_or_from_slice_get}
use Rattle.model_core.specs.declared.model.Model.{Model}
use Rattle.model_core.specs.declared.term.Term.{Term}
use Rattle.model_core.specs.Content.{first_column, columns_at, rows_of, symbol_count}
use Rattle.model_core.specs.Directions.{cells_in, cells, numbered, entries_from}
use Rattle.model_core.specs.TermRules.{is_term}
use Rattle.model_core.specs.Valid.{IsValid}
use Rattle.model_core.proofs.ContentLaws.{drop-rows, drop-all_rows, drop-columns, drop-all_columns}
use Rattle.model_core.proofs.ValidTerms.{term_sizes}
use Rattle.term_expand.proofs.NumberedTerms.{term_meets}
use Rattle.derive_core.specs.declared.betas.Target.{Target}
use Rattle.derive_core.specs.Targets.{gauge_target, cell_target, term_targets, entry_target, targets}

-- one element of a mapped list more
mapped_more : {A B : Type 0} (f : A → B) (done : List B) (rest others : List A) (x : A) → rest ≡ x ∷ others → (done ++ f x ∷ []) ++ map f others ≡ done ++ map f rest
mapped_more f done rest others x is = append_assoc done (f x ∷ []) (map f others) ∙ ap (λ r. done ++ map f r) (sym is)

-- the cells of a row from a step on
abbrev pub cells_from : Term → ℕ → ℕ → List (ℕ × ℕ)
cells_from term row step = map (λ column. (row, column)) (drop step (columns_at term row))

pub row_step : (term : Term) (row step : ℕ) (done : List Target) → step < suc term.columns - first_column term row
    → (done ++ cell_target term (row, first_column term row + step) ∷ []) ++ map (cell_target term) (cells_from term row (step + 1)) ≡ done ++ map (cell_target term) (cells_from term row step)
row_step term row step done inside =
    mapped_more (cell_target term) done (cells_from term row step) (cells_from term row (step + 1)) (row, first_column term row + step)
    (ap (map (λ column. (row, column))) (drop-columns term row step inside))

pub row_end : (term : Term) (row step : ℕ) (done : List Target) → suc term.columns - first_column term row ≤ step → done ++ map (cell_target term) (cells_from term row step) ≡ done
row_end term row step done over = ap (λ cs. done ++ map (cell_target term) (map (λ column. (row, column)) cs)) (drop-all_columns term row step over) ∙ append-nil done

-- the cells of the rows from a place on
abbrev pub rows_from : Term → ℕ → List (ℕ × ℕ)
rows_from term place = flat_map (cells_in term) (drop place (rows_of term))

pub term_step : (term : Term) (place : ℕ) (done : List Target) → place < term.rows
    → (done ++ map (cell_target term) (cells_in term (place + 1))) ++ map (cell_target term) (rows_from term (place + 1)) ≡ done ++ map (cell_target term) (rows_from term place)
term_step term place done inside =
    append_assoc done (map (cell_target term) (cells_in term (place + 1))) (map (cell_target term) (rows_from term (place + 1)))
    ∙ ap (λ ts. done ++ ts) (sym (map-append (cell_target term) (cells_in term (place + 1)) (rows_from term (place + 1))))
    ∙ ap (λ rs. done ++ map (cell_target term) (flat_map (cells_in term) rs)) (sym (drop-rows term place inside))

pub term_end : (term : Term) (place : ℕ) (done : List Target) → term.rows ≤ place → done ++ map (cell_target term) (rows_from term place) ≡ done
term_end term place done over = ap (λ rs. done ++ map (cell_target term) (flat_map (cells_in term) rs)) (drop-all_rows term place over) ∙ append-nil done

-- the terms from the first to one more
pub terms_step : (terms : List Term) (i : ℕ) (term : Term) (start done : List Target) → slice_get terms i ≡ Some term → done ≡ start ++ flat_map term_targets (take i terms)
    → done ++ term_targets term ≡ start ++ flat_map term_targets (take (i + 1) terms)
terms_step terms i term start done found is =
    let before = flat_map term_targets (take i terms) in
    let more : flat_map term_targets (take (i + 1) terms) ≡ before ++ term_targets term =
    ap (flat_map term_targets) (take_more terms i term (slice_get_within terms i term found) ∙ ap (λ t. take i terms ++ t ∷ []) (get_or_from_slice_get terms i term term found))
    ∙ flat_map-append term_targets (take i terms) (term ∷ []) ∙ ap (λ ts. before ++ ts) (append-nil (term_targets term)) in
    ap (λ d. d ++ term_targets term) is ∙ append_assoc start before (term_targets term) ∙ ap (λ ts. start ++ ts) (sym more)

-- a term among those of a valid model has few rows and columns
pub sizes_at : (model : Model) (i : ℕ) (term : Term) → IsValid model → slice_get model.terms i ≡ Some term → (term.rows ≤ 6) × (term.columns ≤ 6)
sizes_at model i term valid found =
    term_sizes model term
    (ap (is_term model) (sym (get_or_from_slice_get model.terms i term term found)) ∙ term_meets model i term valid (slice_get_within model.terms i term found))

-- ---- entries

numbered_targets : (place id : ℕ) (term : Term) (cs : List (ℕ × ℕ)) → map entry_target (numbered place id term cs) ≡ map (cell_target term) cs
numbered_targets place id term [] = refl
numbered_targets place id term (c ∷ cs) = ap (λ ts. cell_target term c ∷ ts) (numbered_targets place (suc id) term cs)

entry_targets : (place id : ℕ) (terms : List Term) → map entry_target (entries_from place id terms) ≡ flat_map term_targets terms
entry_targets place id [] = refl
entry_targets place id (term ∷ terms) =
    map-append entry_target (numbered place id term (cells term)) (entries_from (suc place) (id + symbol_count term) terms)
    ∙ ap₂ ◌++◌ (numbered_targets place id term (cells term)) (entry_targets (suc place) (id + symbol_count term) terms)

pub targets_are : (model : Model) → targets model ≡ map gauge_target model.groups ++ flat_map term_targets model.terms
targets_are model = ap (λ ts. map gauge_target model.groups ++ ts) (entry_targets 1 (length model.groups) model.terms)
