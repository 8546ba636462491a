-- A block of a valid model has at most four directions.
use Rattle.std.specs.Prelude.{◌≡◌, ◌≤◌, ◌+◌, nat_le, if◌then◌else◌, ℕ, suc, Bool, true, false, List, [], ◌∷◌, ◌++◌, map, length}
use Rattle.std.specs.List.{flat_map, list_all}
use Rattle.std.specs.Ordering.{ordering_then, is_eq}
use Rattle.std.proofs.Common.{refl, sym, ap, ap₂, ◌∙◌, arith, length-append, Equal}
use Rattle.std.specs.Cmp.{bool_cmp_total}
use Rattle.std.proofs.lemmas.Bool.Decides.{nat_tests}
use Rattle.std.proofs.lemmas.Cmp.{nat_cmp_total, tied_itself}
use Rattle.std.proofs.lemmas.List.{map-append}
use Rattle.std.proofs.lemmas.List.Elements.{filter-append}
use Rattle.std.proofs.lemmas.List.Sums.{sum_by-cons}
use Rattle.beta_poly.specs.Symbol.{conj_symbol}
use Rattle.model_core.specs.declared.content.FieldToken.{FieldToken}
use Rattle.model_core.specs.declared.content.SymbolBlock.{SymbolBlock}
use Rattle.model_core.specs.declared.model.Model.{Model}
use Rattle.model_core.specs.declared.term.Term.{Term}
use Rattle.model_core.specs.declared.term.TermKind.{TermKind}
use Rattle.model_core.specs.declared.term.TermKind.TheVariants.{Fermion, Scalar}
use Rattle.model_core.specs.Content.{kind_cmp, token_cmp, content_cmp, same_block, columns_at, symbol_count, directions_of as count_of, symbol_block, row_blocks, term_blocks, directions_in, block_directions, is_few, have_few_directions}
use Rattle.model_core.specs.Directions.{CouplingEntry, Direction, cells_in, cells, numbered, entries_from, entries, symbol_of, plain_part, conjugate_part, real_part, direction_of, entry_block, entry_directions, directions}
use Rattle.model_core.specs.Valid.{IsValid}
use Rattle.model_core.proofs.ValidLaws.{both, terms_meet}
use Rattle.term_expand.specs.declared.token.Token.{Token}
use Rattle.derive_core.specs.Blocks.{name_of, is_of, directions_of}
use Rattle.derive_core.proofs.BlockNames.{name_same, blocks_alike}
use Rattle.derive_core.proofs.Elements.{IsIn, in_first, in_second, image_in, passes_in, short_filter, filter_none}
use Rattle.derive_core.proofs.OwnDirections.{has_entry, own_in}

-- ---- a block is the same as itself

kind_tied : (kind : TermKind) → kind_cmp kind kind ≡ Equal
kind_tied Fermion = refl
kind_tied Scalar = refl

token_tied : (t : FieldToken) → token_cmp t t ≡ Equal
token_tied t =
    ap₂ ordering_then (kind_tied t.kind)
    (ap₂ ordering_then (tied_itself nat_cmp_total t.field) (ap₂ ordering_then (tied_itself bool_cmp_total t.conj) (tied_itself nat_cmp_total t.generation)))

content_tied : (content : List FieldToken) → content_cmp content content ≡ Equal
content_tied [] = refl
content_tied (t ∷ content) = ap₂ ordering_then (token_tied t) (content_tied content)

block_tied : (a b : List FieldToken) → a ≡ b → same_block a b ≡ true
block_tied a b same = ap is_eq (ap (content_cmp a) (sym same) ∙ content_tied a)

-- ---- directions are counted by the blocks of symbols

abbrev block_of_symbol : Model → CouplingEntry → SymbolBlock
block_of_symbol model e = symbol_block model e.term e.row e.column

pub length-entry_directions : (model : Model) (e : CouplingEntry) → length (entry_directions model e) ≤ count_of e.term
length-entry_directions model e = by_realness e.term.real
  where
    by_realness : (b : Bool)
        → length (if b then direction_of model e (symbol_of e) (real_part model e) ∷ [] else direction_of model e (symbol_of e) (plain_part model e) ∷ direction_of model e (conj_symbol (symbol_of e)) (conjugate_part model e) ∷ [])
        ≤ (if b then 1 else 2)
    by_realness true = omega arith
    by_realness false = omega arith

module _ (model : Model) (name : List Token) (block : List FieldToken) where
  -- the directions with the name are of the block
  abbrev AreAlike : List Direction → Type 0
  AreAlike ds = (d : Direction) → IsIn d ds → is_of name d ≡ true → same_block block d.block ≡ true

  entry_counted : (e : CouplingEntry) → AreAlike (entry_directions model e) → length (directions_of name (entry_directions model e)) ≤ directions_in block (block_of_symbol model e)
  entry_counted e alike = by_block (same_block block (entry_block model e)) refl
    where
      by_block : (b : Bool) → same_block block (entry_block model e) ≡ b → length (directions_of name (entry_directions model e)) ≤ (if b then count_of e.term else 0)
      by_block true same = short_filter (is_of name) (entry_directions model e) (count_of e.term) (length-entry_directions model e)
      by_block false other =
          let none = filter_none (is_of name) (entry_directions model e) (λ d there named.
          let clash : true ≡ false = sym (alike d there named) ∙ ap (same_block block) (own_in model e d there).block_is ∙ other in
          let never : ⊥ = cc in
          never) in
          let counted : length (directions_of name (entry_directions model e)) ≡ 0 = ap length none in
          omega (arith, counted)

  all_counted : (es : List CouplingEntry) → AreAlike (flat_map (entry_directions model) es)
      → length (directions_of name (flat_map (entry_directions model) es)) ≤ block_directions (map (block_of_symbol model) es) block
  all_counted [] alike = omega arith
  all_counted (e ∷ es) alike =
      let first = entry_directions model e in
      let rest = flat_map (entry_directions model) es in
      let split : length (directions_of name (first ++ rest)) ≡ length (directions_of name first) + length (directions_of name rest) =
      ap length (filter-append (is_of name) first rest) ∙ length-append (directions_of name first) (directions_of name rest) in
      omega (
        arith,
        split,
        entry_counted e (λ d there. alike d (in_first d first rest there)),
        all_counted es (λ d there. alike d (in_second d first rest there)),
        sum_by-cons (directions_in block) (block_of_symbol model e) (map (block_of_symbol model) es),
      )

-- ---- the blocks of symbols

module _ (model : Model) where
  abbrev block_at_cell : Term → ℕ × ℕ → SymbolBlock
  block_at_cell term cell = symbol_block model term cell.0 cell.1

  numbered_blocks : (place id : ℕ) (term : Term) (cs : List (ℕ × ℕ)) → map (block_of_symbol model) (numbered place id term cs) ≡ map (block_at_cell term) cs
  numbered_blocks place id term [] = refl
  numbered_blocks place id term (c ∷ cs) = ap (λ blocks. block_at_cell term c ∷ blocks) (numbered_blocks place (suc id) term cs)

  row_cells : (term : Term) (row : ℕ) (columns : List ℕ) → map (block_at_cell term) (map (λ column. (row, column)) columns) ≡ map (symbol_block model term row) columns
  row_cells term row [] = refl
  row_cells term row (column ∷ columns) = ap (λ blocks. symbol_block model term row column ∷ blocks) (row_cells term row columns)

  cell_blocks : (term : Term) (rows : List ℕ) → map (block_at_cell term) (flat_map (cells_in term) rows) ≡ flat_map (row_blocks model term) rows
  cell_blocks term [] = refl
  cell_blocks term (row ∷ rows) =
      map-append (block_at_cell term) (cells_in term row) (flat_map (cells_in term) rows) ∙ ap₂ ◌++◌ (row_cells term row (columns_at term row)) (cell_blocks term rows)

  entry_blocks : (place id : ℕ) (terms : List Term) → map (block_of_symbol model) (entries_from place id terms) ≡ flat_map (term_blocks model) terms
  entry_blocks place id [] = refl
  entry_blocks place id (term ∷ terms) =
      map-append (block_of_symbol model) (numbered place id term (cells term)) (entries_from (suc place) (id + symbol_count term) terms)
      ∙ ap₂ ◌++◌ (numbered_blocks place id term (cells term) ∙ cell_blocks term _) (entry_blocks (suc place) (id + symbol_count term) terms)

few_blocks : (model : Model) → IsValid model → have_few_directions (flat_map (term_blocks model) model.terms) ≡ true
few_blocks model valid =
    (both _ (have_few_directions (flat_map (term_blocks model) model.terms)) (terms_meet model valid)).1

-- ---- at most four

pub few_named : (model : Model) (d : Direction) → IsValid model → IsIn d (directions model) → length (directions_of (name_of d) (directions model)) ≤ 4
few_named model d valid there =
    let from = has_entry model (entries model) d there in
    let blocks = map (block_of_symbol model) (entries model) in
    let all : list_all (is_few blocks) blocks ≡ true = ap have_few_directions (entry_blocks model 1 (length model.groups) model.terms) ∙ few_blocks model valid in
    let few : is_few blocks (block_of_symbol model from.entry) ≡ true = passes_in (is_few blocks) (block_of_symbol model from.entry) blocks all (image_in (block_of_symbol model) from.entry (entries model) from.there) in
    let own : nat_le (block_directions blocks d.block) 4 ≡ true = ap (λ b. nat_le (block_directions blocks b) 4) from.own.block_is ∙ few in
    let bound : block_directions blocks d.block ≤ 4 = grind (arith, nat_tests) in
    let counted = all_counted model (name_of d) d.block (entries model) (λ other inside named. block_tied d.block other.block (sym (blocks_alike other d (name_same (name_of other) (name_of d) named)))) in
    omega (arith, counted, bound)
