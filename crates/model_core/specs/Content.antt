-- The contents of a term, the blocks in which they stand, and how many directions these have.
use Rattle.std.specs.Prelude.{ℕ, suc, ◌-◌, ◌==◌, nat_le, nat_lt, Bool, true, false, not, ◌&&◌, ◌||◌, if◌then◌else◌, List, [], ◌∷◌, map, length, slice_get, sum_by, Option, Some, None}
use Rattle.std.specs.Ordering.{nat_cmp, bool_cmp, ordering_then, is_eq}
use Rattle.std.proofs.Common.{Ordering, Less, Equal, Greater}
use Rattle.std.specs.List.{flat_map, list_all, count_by, range_with_len}
use Rattle.std.specs.Cmp.Lexicographic.{slice_cmp}
use Rattle.model_core.specs.declared.field.Field.{Field}
use Rattle.model_core.specs.declared.model.Model.{Model}
use Rattle.model_core.specs.declared.term.Generation.{Generation}
use Rattle.model_core.specs.declared.term.Generation.TheVariants.{Fixed, Row, Column}
use Rattle.model_core.specs.declared.term.TermKind.{TermKind}
use Rattle.model_core.specs.declared.term.TermKind.TheVariants.{Fermion, Scalar}
use Rattle.model_core.specs.declared.term.Monomial.{Monomial}
use Rattle.model_core.specs.declared.term.Term.{Term}
use Rattle.model_core.specs.declared.content.FieldUse.{FieldUse}
use Rattle.model_core.specs.declared.content.FieldToken.{FieldToken}
use Rattle.model_core.specs.declared.content.SymbolBlock.{SymbolBlock}
use Rattle.model_core.specs.Groups.{is_between}
use Rattle.model_core.specs.Component.{same_side}
use Rattle.model_core.specs.Factors.{uses}
use Rattle.model_core.specs.Flavour.{is_symmetric}

-- ---- the fields that a monomial may have

abbrev pub is_fermionic : TermKind → Bool
is_fermionic Fermion = true
is_fermionic Scalar = false

abbrev pub is_fermion : FieldUse → Bool
is_fermion used = is_fermionic used.kind

-- fermions make a fermion term
abbrev pub kind_of : List FieldUse → TermKind
kind_of used = if nat_lt 0 (count_by is_fermion used) then Fermion else Scalar

-- two fermions with one scalar or none, or two to four scalars
abbrev pub may_couple : TermKind → List FieldUse → Bool
may_couple Fermion used = count_by is_fermion used == 2 && nat_le (length used) 3
may_couple Scalar used = count_by is_fermion used == 0 && is_between 2 4 (length used)

-- the same field, conjugate or not, in the same generation
abbrev pub same_kind : TermKind → TermKind → Bool
same_kind Fermion other = is_fermionic other
same_kind Scalar other = not (is_fermionic other)

abbrev pub same_generation : Generation → Generation → Bool
same_generation (Fixed a) (Fixed b) = a == b
same_generation Row Row = true
same_generation Column Column = true
same_generation _ _ = false

abbrev pub same_use : FieldUse → FieldUse → Bool
same_use a b = ((same_kind a.kind b.kind && a.field == b.field) && same_side a.conj b.conj) && same_generation a.generation b.generation

-- the same multiset of fields
abbrev pub equally_often : List FieldUse → List FieldUse → FieldUse → Bool
equally_often first second used = count_by (same_use used) first == count_by (same_use used) second

abbrev pub same_uses : List FieldUse → List FieldUse → Bool
same_uses first second = length first == length second && list_all (equally_often first second) first

-- the fields of the first monomial
abbrev pub first_uses : List Monomial → List FieldUse
first_uses [] = []
first_uses (monomial ∷ monomials) = uses monomial.factors

-- a monomial has fields that a term of this kind may have, and those of the first one
abbrev pub has_content : TermKind → List FieldUse → Monomial → Bool
has_content kind first monomial = may_couple kind (uses monomial.factors) && same_uses first (uses monomial.factors)

-- ---- tokens and contents

abbrev pub kind_cmp : TermKind → TermKind → Ordering
kind_cmp Fermion Scalar = Less
kind_cmp Scalar Fermion = Greater
kind_cmp _ _ = Equal

-- The order of tokens is that of their components: fermions first, then by field, then a field before its conjugate, then
-- by generation.
abbrev pub token_cmp : FieldToken → FieldToken → Ordering
token_cmp a b =
    ordering_then (kind_cmp a.kind b.kind) (ordering_then (nat_cmp a.field b.field) (ordering_then (bool_cmp a.conj b.conj) (nat_cmp a.generation b.generation)))

-- a token put in its place
abbrev pub is_before : Ordering → Bool
is_before Less = true
is_before _ = false

abbrev pub inserted : FieldToken → List FieldToken → List FieldToken
inserted token [] = token ∷ []
inserted token (first ∷ others) = if is_before (token_cmp first token) then first ∷ inserted token others else token ∷ first ∷ others

-- tokens in order
abbrev pub sorted : List FieldToken → List FieldToken
sorted [] = []
sorted (token ∷ others) = inserted token (sorted others)

-- the generation at a row and a column
abbrev pub generation_at : ℕ → ℕ → Generation → ℕ
generation_at row column (Fixed generation) = generation
generation_at row column Row = row
generation_at row column Column = column

abbrev pub token_at : ℕ → ℕ → FieldUse → FieldToken
token_at row column used = record { kind = used.kind; field = used.field; conj = used.conj; generation = generation_at row column used.generation }

-- the content of a coupling's entry
abbrev pub content_at : List FieldUse → ℕ → ℕ → List FieldToken
content_at used row column = sorted (map (token_at row column) used)

-- ---- conjugates and blocks

-- a real scalar is its own conjugate
abbrev pub is_real : Option Field → Bool
is_real None = false
is_real (Some field) = field.real

abbrev pub is_self_conjugate : Model → FieldToken → Bool
is_self_conjugate model token = not (is_fermionic token.kind) && is_real (slice_get model.scalars token.field)

abbrev pub conjugate_token : Model → FieldToken → FieldToken
conjugate_token model token = if is_self_conjugate model token then token else record token { conj = not token.conj }

abbrev pub conjugate_content : Model → List FieldToken → List FieldToken
conjugate_content model content = sorted (map (conjugate_token model) content)

-- contents are ordered as words are, by their tokens
abbrev pub content_cmp : List FieldToken → List FieldToken → Ordering
content_cmp = slice_cmp token_cmp

-- the first of two contents
abbrev pub first_of_two : List FieldToken → List FieldToken → List FieldToken
first_of_two a b = if is_before (content_cmp b a) then b else a

-- A block is a content with its conjugate, and is named by the first of both. A fermion's content comes before its conjugate.
abbrev pub block_of : Model → List FieldToken → List FieldToken
block_of model content = first_of_two content (conjugate_content model content)

abbrev pub block_at : Model → List FieldUse → ℕ → ℕ → List FieldToken
block_at model used row column = block_of model (content_at used row column)

abbrev pub same_block : List FieldToken → List FieldToken → Bool
same_block a b = is_eq (content_cmp a b)

-- ---- symbols

-- the columns at which a row has symbols: all, and from the row on where the coupling is symmetric
abbrev pub first_column : Term → ℕ → ℕ
first_column term row = if is_symmetric term.shape then row else 1

abbrev pub columns_at : Term → ℕ → List ℕ
columns_at term row = range_with_len (first_column term row) (suc term.columns - first_column term row)

abbrev pub rows_of : Term → List ℕ
rows_of term = range_with_len 1 term.rows

-- how many symbols a coupling has
abbrev pub symbols_at : Term → ℕ → ℕ
symbols_at term row = length (columns_at term row)

abbrev pub symbol_count : Term → ℕ
symbol_count term = sum_by (symbols_at term) (rows_of term)

-- each entry of a symmetric coupling stands in the block of the entry [j,i]
abbrev pub is_mirrored : Model → List FieldUse → ℕ → ℕ → Bool
is_mirrored model used row column = same_block (block_at model used row column) (block_at model used column row)

abbrev pub row_is_mirrored : Model → List FieldUse → Term → ℕ → Bool
row_is_mirrored model used term row = list_all (is_mirrored model used row) (columns_at term row)

abbrev pub has_mirrored_blocks : Model → Term → Bool
has_mirrored_blocks model term =
    not (is_symmetric term.shape) || list_all (row_is_mirrored model (first_uses term.monomials) term) (rows_of term)

-- ---- directions

-- a real coupling has one direction, and a complex one also that of its conjugate
abbrev pub directions_of : Term → ℕ
directions_of term = if term.real then 1 else 2

abbrev pub symbol_block : Model → Term → ℕ → ℕ → SymbolBlock
symbol_block model term row column = record { block = block_at model (first_uses term.monomials) row column; directions = directions_of term }

abbrev pub row_blocks : Model → Term → ℕ → List SymbolBlock
row_blocks model term row = map (symbol_block model term row) (columns_at term row)

-- the blocks of a term's symbols, row by row
abbrev pub term_blocks : Model → Term → List SymbolBlock
term_blocks model term = flat_map (row_blocks model term) (rows_of term)

-- no symbol gives its block more than two directions
abbrev pub has_small_directions : SymbolBlock → Bool
has_small_directions block = nat_le block.directions 2

-- how many directions a block has
abbrev pub directions_in : List FieldToken → SymbolBlock → ℕ
directions_in block other = if same_block block other.block then other.directions else 0

abbrev pub block_directions : List SymbolBlock → List FieldToken → ℕ
block_directions blocks block = sum_by (directions_in block) blocks

-- at most 4
abbrev pub is_few : List SymbolBlock → SymbolBlock → Bool
is_few blocks block = nat_le (block_directions blocks block.block) 4

abbrev pub have_few_directions : List SymbolBlock → Bool
have_few_directions blocks = list_all (is_few blocks) blocks
