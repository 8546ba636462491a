-- Symbols, the directions in which they move a block, and the Yukawa and scalar tensors.
use Rattle.std.specs.Prelude.{ℕ, suc, ◌+◌, ◌==◌, Bool, false, ◌||◌, if◌then◌else◌, List, [], ◌∷◌, ◌++◌, map, length}
use Rattle.std.specs.List.{flat_map}
use Rattle.exact_algebra.specs.Sums.{sum}
use Rattle.frac128.specs.Rational.{ℚ, zero_ℚ, ◌+ℚ◌}
use Rattle.frac128.specs.RationalLaws.{ring_ℚ}
use Rattle.beta_poly.specs.declared.symbol.Symbol.{Symbol}
use Rattle.beta_poly.specs.Symbol.{conj_symbol}
use Rattle.beta_poly.specs.Monomial.{power}
use Rattle.beta_poly.specs.Polynomial.{Polynomial, poly_ring, zero_poly, add_poly, term as poly_term}
use Rattle.model_core.specs.declared.model.Model.{Model}
use Rattle.model_core.specs.declared.term.TermKind.{TermKind}
use Rattle.model_core.specs.declared.term.TermKind.TheVariants.{Fermion, Scalar}
use Rattle.model_core.specs.declared.term.Term.{Term}
use Rattle.model_core.specs.declared.content.FieldToken.{FieldToken}
use Rattle.model_core.specs.Scalar.{Coordinate, partner}
use Rattle.model_core.specs.Content.{is_fermionic, first_uses, content_at, conjugate_content, block_of, columns_at, rows_of, symbol_count}
use Rattle.model_core.specs.TermTensor.{Numbers, legs_of, has_two_texts, text_tensor, symbol_tensor, at_places}
use Rattle.model_core.specs.BlockSide.{side_of}

-- ---- symbols

-- An entry of a coupling, which has a symbol: the place of its term, which counts from 1, the symbol's id, row and column.
pub record CouplingEntry : Type 0 where
  pub place : ℕ
  pub term : Term
  pub id : ℕ
  pub row : ℕ
  pub column : ℕ

-- the rows and columns at which a coupling has symbols, row by row
abbrev pub cells_in : Term → ℕ → List (ℕ × ℕ)
cells_in term row = map (λ column. (row, column)) (columns_at term row)

abbrev pub cells : Term → List (ℕ × ℕ)
cells term = flat_map (cells_in term) (rows_of term)

-- the entries of a term, with ids in their order
abbrev pub numbered : ℕ → ℕ → Term → List (ℕ × ℕ) → List CouplingEntry
numbered place id term [] = []
numbered place id term (cell ∷ others) =
    record { place = place; term = term; id = id; row = cell.0; column = cell.1 } ∷ numbered place (suc id) term others

-- the entries of all terms: ids count the gauge couplings first
abbrev pub entries_from : ℕ → ℕ → List Term → List CouplingEntry
entries_from place id [] = []
entries_from place id (term ∷ terms) = numbered place id term (cells term) ++ entries_from (suc place) (id + symbol_count term) terms

abbrev pub entries : Model → List CouplingEntry
entries model = entries_from 1 (length model.groups) model.terms

abbrev pub symbol_of : CouplingEntry → Symbol
symbol_of entry = record { id = entry.id; real = entry.term.real; conj = false }

-- ---- tensors of numbers

-- the tensor of an entry: of its text, or of both where it has two
abbrev pub entry_tensor : Model → CouplingEntry → Numbers
entry_tensor model entry = symbol_tensor model entry.term entry.row entry.column

-- the conjugate of a tensor of numbers: its value at the partners of scalars
abbrev pub conjugated : TermKind → Numbers → Numbers
conjugated Fermion f (j ∷ k ∷ a ∷ []) = f (j ∷ k ∷ partner a ∷ [])
conjugated Fermion f _ = zero_ℚ
conjugated Scalar f cs = f (map partner cs)

abbrev pub conjugate_tensor : Model → CouplingEntry → Numbers
conjugate_tensor model entry = conjugated entry.term.kind (entry_tensor model entry)

-- ---- texts

-- the cells whose texts the entry [i,j] has: its own, and [j,i] too where the shape is symmetric and i isn't j
abbrev pub text_cells : Term → ℕ → ℕ → List (ℕ × ℕ)
text_cells term row column =
    if has_two_texts term row column then (row, column) ∷ (column, row) ∷ [] else (row, column) ∷ []

-- the content and the tensor of the text at a cell
abbrev pub cell_content : Term → ℕ × ℕ → List FieldToken
cell_content term cell = content_at (first_uses term.monomials) cell.0 cell.1

abbrev pub cell_tensor : Model → Term → ℕ × ℕ → Numbers
cell_tensor model term cell = text_tensor model term cell.0 cell.1

-- ---- directions

-- Where a symbol moves its block: at keys that begin with 0 for the block's content, or 1 for the conjugate one.
pub record Direction : Type 0 where
  pub place : ℕ
  pub kind : TermKind
  pub symbol : Symbol
  pub block : List FieldToken
  pub numbers : List ℕ → ℚ

-- a tensor of numbers at keys with this side, and 0 at others
abbrev pub on_side : ℕ → (List ℕ → ℚ) → List ℕ → ℚ
on_side side f [] = zero_ℚ
on_side side f (first ∷ key) = if first == side then f key else zero_ℚ

abbrev pub at_key : Model → TermKind → Numbers → List ℕ → ℚ
at_key model kind f = at_places zero_ℚ (legs_of model kind) f

-- the block of an entry, in which the contents of all its texts are
abbrev pub entry_block : Model → CouplingEntry → List FieldToken
entry_block model entry = block_of model (cell_content entry.term (entry.row, entry.column))

-- the tensor of the text at a cell on the side of its content, and the conjugate tensor on that of the conjugate content
abbrev pub plain_cell : Model → CouplingEntry → List ℕ → ℕ × ℕ → ℚ
plain_cell model entry key cell =
    on_side (side_of (entry_block model entry) (cell_content entry.term cell)) (at_key model entry.term.kind (cell_tensor model entry.term cell)) key

abbrev pub conjugate_cell : Model → CouplingEntry → List ℕ → ℕ × ℕ → ℚ
conjugate_cell model entry key cell =
    on_side (side_of (entry_block model entry) (conjugate_content model (cell_content entry.term cell))) (at_key model entry.term.kind (conjugated entry.term.kind (cell_tensor model entry.term cell))) key

-- the sums of these over the texts of an entry
abbrev pub plain_part : Model → CouplingEntry → List ℕ → ℚ
plain_part model entry key = sum ring_ℚ.semiring (text_cells entry.term entry.row entry.column) (plain_cell model entry key)

abbrev pub conjugate_part : Model → CouplingEntry → List ℕ → ℚ
conjugate_part model entry key = sum ring_ℚ.semiring (text_cells entry.term entry.row entry.column) (conjugate_cell model entry key)

-- a real coupling of fermions, or of scalars with the conjugate added, moves both contents
abbrev pub moves_both : Term → Bool
moves_both term = is_fermionic term.kind || term.hc

abbrev pub real_part : Model → CouplingEntry → List ℕ → ℚ
real_part model entry key =
    if moves_both entry.term then plain_part model entry key +ℚ conjugate_part model entry key else plain_part model entry key

abbrev pub direction_of : Model → CouplingEntry → Symbol → (List ℕ → ℚ) → Direction
direction_of model entry symbol numbers =
    record { place = entry.place; kind = entry.term.kind; symbol = symbol; block = entry_block model entry; numbers = numbers }

-- a real symbol has one direction, and a complex one has its own and its conjugate's
abbrev pub entry_directions : Model → CouplingEntry → List Direction
entry_directions model entry =
    if entry.term.real then direction_of model entry (symbol_of entry) (real_part model entry) ∷ []
    else direction_of model entry (symbol_of entry) (plain_part model entry) ∷ direction_of model entry (conj_symbol (symbol_of entry)) (conjugate_part model entry) ∷ []

-- the directions in the order of terms, then symbols, the plain symbol before its conjugate
abbrev pub directions : Model → List Direction
directions model = flat_map (entry_directions model) (entries model)

-- ---- the Yukawa and the scalar tensor

-- a symbol times a number
abbrev pub multiple : Symbol → ℚ → Polynomial
multiple symbol number = poly_term (power symbol 1) number

-- Y[a][j,k] at j, k and a: the sum over the entries of fermion terms of the symbol times the tensor of its text
abbrev pub yukawa_part : Model → List Coordinate → CouplingEntry → Polynomial
yukawa_part model cs entry =
    if is_fermionic entry.term.kind then multiple (symbol_of entry) (entry_tensor model entry cs) else zero_poly

abbrev pub yukawa_tensor : Model → List Coordinate → Polynomial
yukawa_tensor model cs = sum poly_ring.semiring (entries model) (yukawa_part model cs)

-- L(a,b,c,d): the same of scalar terms, the conjugates that are added included
abbrev pub conjugate_multiple : Model → List Coordinate → CouplingEntry → Polynomial
conjugate_multiple model cs entry =
    if entry.term.hc then multiple (conj_symbol (symbol_of entry)) (conjugate_tensor model entry cs) else zero_poly

abbrev pub scalar_part : Model → List Coordinate → CouplingEntry → Polynomial
scalar_part model cs entry =
    if is_fermionic entry.term.kind then zero_poly
    else add_poly (multiple (symbol_of entry) (entry_tensor model entry cs)) (conjugate_multiple model cs entry)

abbrev pub scalar_tensor : Model → List Coordinate → Polynomial
scalar_tensor model cs = sum poly_ring.semiring (entries model) (scalar_part model cs)

-- both at the places of a key
abbrev pub yukawa_at : Model → List ℕ → Polynomial
yukawa_at model = at_places zero_poly (legs_of model Fermion) (yukawa_tensor model)

abbrev pub scalar_at : Model → List ℕ → Polynomial
scalar_at model = at_places zero_poly (legs_of model Scalar) (scalar_tensor model)
