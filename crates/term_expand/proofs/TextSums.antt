-- The tensors of a symbol's texts add up to the symbol's tensor, and so do their conjugates.
use Rattle.std.specs.Prelude.{◌≡◌, ℕ, Bool, true, false, if◌then◌else◌, List, [], ◌∷◌, Option, Some, None}
use Rattle.std.proofs.Common.{refl, sym, ap, ◌∙◌}
use mathlib.Core.Path.{fun_ext}
use Rattle.exact_algebra.specs.Ring.{Semiring}
use Rattle.exact_algebra.specs.Sums.{sum, sum-cons, sum-one}
use Rattle.frac128.specs.Rational.{ℚ, zero_ℚ, ◌+ℚ◌}
use Rattle.frac128.specs.RationalLaws.{ring_ℚ}
use Rattle.model_core.specs.declared.model.Model.{Model}
use Rattle.model_core.specs.declared.term.Term.{Term}
use Rattle.model_core.specs.declared.term.TermKind.{TermKind}
use Rattle.model_core.specs.declared.term.TermKind.TheVariants.{Fermion, Scalar}
use Rattle.model_core.specs.Scalar.{Coordinate}
use Rattle.model_core.specs.TermTensor.{Numbers, has_two_texts, text_tensor, symbol_tensor, value_or}
use Rattle.model_core.specs.Directions.{conjugated, text_cells, cell_tensor}

-- a sum over the cells of one text or two
pub cells_sum : (R : Semiring) (f : ℕ × ℕ → R.carrier) (term : Term) (row column : ℕ)
    → sum R (text_cells term row column) f ≡ (if has_two_texts term row column then R.add (f (row, column)) (f (column, row)) else f (row, column))
cells_sum R f term row column = by_texts (has_two_texts term row column)
  where
    by_texts : (two : Bool) → sum R (if two then (row, column) ∷ (column, row) ∷ [] else (row, column) ∷ []) f ≡ (if two then R.add (f (row, column)) (f (column, row)) else f (row, column))
    by_texts true = sum-cons R (row, column) ((column, row) ∷ []) f ∙ ap (R.add (f (row, column))) (sum-one R (column, row) f)
    by_texts false = sum-one R (row, column) f

-- the conjugate of the sum of two tensors of numbers
none_added : (two : Bool) → zero_ℚ ≡ (if two then zero_ℚ +ℚ zero_ℚ else zero_ℚ)
none_added true = sym (ring_ℚ.semiring.add_zero zero_ℚ)
none_added false = refl

pub conjugated_texts : (kind : TermKind) (two : Bool) (f g : Numbers) (cs : List Coordinate)
    → conjugated kind (λ ds. if two then f ds +ℚ g ds else f ds) cs ≡ (if two then conjugated kind f cs +ℚ conjugated kind g cs else conjugated kind f cs)
conjugated_texts Scalar two f g cs = refl
conjugated_texts Fermion two f g (j ∷ k ∷ a ∷ []) = refl
conjugated_texts Fermion two f g [] = none_added two
conjugated_texts Fermion two f g (j ∷ []) = none_added two
conjugated_texts Fermion two f g (j ∷ k ∷ []) = none_added two
conjugated_texts Fermion two f g (j ∷ k ∷ a ∷ b ∷ cs) = none_added two

-- numbers at places
at_places_texts : (two : Bool) (f g : Numbers) (o : Option (List Coordinate))
    → (if two then value_or zero_ℚ f o +ℚ value_or zero_ℚ g o else value_or zero_ℚ f o) ≡ value_or zero_ℚ (λ cs. if two then f cs +ℚ g cs else f cs) o
at_places_texts two f g None = sym (none_added two)
at_places_texts two f g (Some cs) = refl

pub cells_at : (f : ℕ × ℕ → Numbers) (term : Term) (row column : ℕ) (o : Option (List Coordinate))
    → sum ring_ℚ.semiring (text_cells term row column) (λ cell. value_or zero_ℚ (f cell) o) ≡ value_or zero_ℚ (λ cs. if has_two_texts term row column then f (row, column) cs +ℚ f (column, row) cs else f (row, column) cs) o
cells_at f term row column o =
    cells_sum ring_ℚ.semiring (λ cell. value_or zero_ℚ (f cell) o) term row column ∙ at_places_texts (has_two_texts term row column) (f (row, column)) (f (column, row)) o

-- the conjugate tensor of a symbol at places is the sum of those of its texts
pub conjugate_cells_at : (model : Model) (term : Term) (row column : ℕ) (o : Option (List Coordinate))
    → sum ring_ℚ.semiring (text_cells term row column) (λ cell. value_or zero_ℚ (conjugated term.kind (cell_tensor model term cell)) o) ≡ value_or zero_ℚ (conjugated term.kind (symbol_tensor model term row column)) o
conjugate_cells_at model term row column o =
    cells_at (λ cell. conjugated term.kind (cell_tensor model term cell)) term row column o
    ∙ ap (λ f. value_or zero_ℚ f o) (sym (fun_ext (conjugated_texts term.kind (has_two_texts term row column) (text_tensor model term row column) (text_tensor model term column row))))
