-- The texts of a symbol, each on the side of its own content, and the values that they give to directions and to the tensors.
use Rattle.std.specs.Prelude.{◌≡◌, ℕ, Bool, if◌then◌else◌, List, [], ◌++◌}
use Rattle.std.specs.List.{flat_map, AllByRecursion, AllZip}
use Rattle.beta_poly.specs.declared.symbol.Symbol.{Symbol}
use Rattle.beta_poly.specs.Symbol.{conj_symbol}
use Rattle.sparse_tensor.specs.declared.values.Value.{Value}
use Rattle.sparse_tensor.specs.Tensor.{Tensor, rank_of}
use Rattle.model_core.specs.declared.content.FieldToken.{FieldToken}
use Rattle.model_core.specs.declared.model.Model.{Model}
use Rattle.model_core.specs.declared.term.Term.{Term}
use Rattle.model_core.specs.declared.term.TermKind.{TermKind}
use Rattle.model_core.specs.BlockSide.{side_of}
use Rattle.model_core.specs.Content.{is_fermionic, conjugate_content, block_of}
use Rattle.model_core.specs.Directions.{text_cells, cell_content, cell_tensor, conjugated, moves_both}
use Rattle.term_expand.specs.declared.moves.Moves.{Moves}
use Rattle.term_expand.specs.declared.moves.Text.{Text}
use Rattle.term_expand.specs.Multiples.{HasNumbers, multiples, values_on_side}
use Rattle.term_expand.specs.Texts.{leg_count}

-- ---- texts

-- the text of a term at a cell: its tensor and the conjugate one, each on the side of a block that has its content
pub record IsText (model : Model) (term : Term) (block : List FieldToken) (cell : ℕ × ℕ) (text : Text) : Type 0 where
  pub plain_side : text.plain_side ≡ side_of block (cell_content term cell)
  pub plain : HasNumbers model term.kind (cell_tensor model term cell) text.plain
  pub conjugate_side : text.conjugate_side ≡ side_of block (conjugate_content model (cell_content term cell))
  pub conjugate : HasNumbers model term.kind (conjugated term.kind (cell_tensor model term cell)) text.conjugate

-- one by one
abbrev pub AreTexts : Model → Term → List FieldToken → List (ℕ × ℕ) → List Text → Type 0
AreTexts model term block cells texts = AllZip (IsText model term block) cells texts

-- the moves of the symbol at a row and a column: the texts of all its cells, and the block in which they stand
pub record IsMoves (model : Model) (term : Term) (row column : ℕ) (moves : Moves) : Type 0 where
  pub block : moves.block ≡ block_of model (cell_content term (row, column))
  pub texts : AreTexts model term (block_of model (cell_content term (row, column))) (text_cells term row column) moves.texts

-- both tensors of a text have the rank of a kind of terms
pub record HasRanks (kind : TermKind) (text : Text) : Type 0 where
  pub plain : rank_of text.plain ≡ leg_count kind
  pub conjugate : rank_of text.conjugate ≡ leg_count kind

abbrev pub HaveRanks : TermKind → List Text → Type 0
HaveRanks kind texts = AllByRecursion (HasRanks kind) texts

-- ---- what texts give to directions

abbrev pub plain_on_side : Text → List Value
plain_on_side text = values_on_side text.plain_side text.plain

abbrev pub conjugate_on_side : Text → List Value
conjugate_on_side text = values_on_side text.conjugate_side text.conjugate

-- the values of the direction of a complex symbol, of its conjugate's, and of that of a real one
abbrev pub plain_values : List Text → List Value
plain_values texts = flat_map plain_on_side texts

abbrev pub conjugate_values : List Text → List Value
conjugate_values texts = flat_map conjugate_on_side texts

abbrev pub real_values : Term → List Text → List Value
real_values term texts = if moves_both term then plain_values texts ++ conjugate_values texts else plain_values texts

-- ---- what texts give to the two tensors

abbrev pub plain_multiples : Symbol → List Text → List Value
plain_multiples symbol texts = flat_map (λ text. multiples symbol text.plain) texts

abbrev pub text_multiples : Bool → Symbol → Tensor → Tensor → List Value
text_multiples hc symbol plain other = if hc then multiples symbol plain ++ multiples (conj_symbol symbol) other else multiples symbol plain

abbrev pub scalar_multiples : Bool → Symbol → List Text → List Value
scalar_multiples hc symbol texts = flat_map (λ text. text_multiples hc symbol text.plain text.conjugate) texts

-- to the tensor of each kind of terms
abbrev pub yukawa_values : Term → Symbol → List Text → List Value
yukawa_values term symbol texts = if is_fermionic term.kind then plain_multiples symbol texts else []

abbrev pub scalar_values : Term → Symbol → List Text → List Value
scalar_values term symbol texts = if is_fermionic term.kind then [] else scalar_multiples term.hc symbol texts
