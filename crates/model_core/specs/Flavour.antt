-- The rows and columns of a term's coupling.
use Rattle.std.specs.Prelude.{ℕ, ◌==◌, Bool, true, false, not, ◌&&◌, ◌||◌, List, slice_get, option_map, unwrap_or}
use Rattle.std.specs.List.{find, list_all, count_by}
use Rattle.model_core.specs.declared.field.Field.{Field}
use Rattle.model_core.specs.declared.model.Model.{Model}
use Rattle.model_core.specs.declared.term.Shape.{Shape}
use Rattle.model_core.specs.declared.term.Shape.TheVariants.{One, Symmetric}
use Rattle.model_core.specs.declared.term.Generation.{Generation}
use Rattle.model_core.specs.declared.term.Generation.TheVariants.{Fixed, Row, Column}
use Rattle.model_core.specs.declared.term.TermKind.{TermKind}
use Rattle.model_core.specs.declared.term.TermKind.TheVariants.{Fermion, Scalar}
use Rattle.model_core.specs.declared.term.Monomial.{Monomial}
use Rattle.model_core.specs.declared.term.Term.{Term}
use Rattle.model_core.specs.declared.content.FieldUse.{FieldUse}
use Rattle.model_core.specs.Factors.{uses}

-- the fields of a kind
abbrev pub fields_of : Model → TermKind → List Field
fields_of model Fermion = model.fermions
fields_of model Scalar = model.scalars

abbrev pub generations_of : Field → ℕ
generations_of field = field.generations

-- how many generations the field of a use has
abbrev pub use_size : Model → FieldUse → ℕ
use_size model used = unwrap_or (option_map generations_of (slice_get (fields_of model used.kind) used.field)) 1

abbrev pub is_row : Generation → Bool
is_row Row = true
is_row _ = false

abbrev pub is_column : Generation → Bool
is_column Column = true
is_column _ = false

-- a field's factor has the row, or the column, as its generation
abbrev pub is_at : Generation → FieldUse → Bool
is_at Row used = is_row used.generation
is_at Column used = is_column used.generation
is_at (Fixed generation) used = false

-- the number of rows, or of columns: the generations of the field that has these, and 1 where none has
abbrev pub flavour_size : Model → Generation → List FieldUse → ℕ
flavour_size model generation used = unwrap_or (option_map (use_size model) (find (is_at generation) used)) 1

-- one shape has no rows and columns, and the others have both in exactly one field of each monomial
abbrev pub flavour_count : Shape → ℕ
flavour_count One = 0
flavour_count _ = 1

abbrev pub has_flavour : Shape → List FieldUse → Bool
has_flavour shape used =
    count_by (is_at Row) used == flavour_count shape && count_by (is_at Column) used == flavour_count shape

abbrev pub monomial_has_flavour : Shape → Monomial → Bool
monomial_has_flavour shape monomial = has_flavour shape (uses monomial.factors)

-- each monomial has as many rows and columns as the coupling
abbrev pub has_sizes : Model → ℕ → ℕ → Monomial → Bool
has_sizes model rows columns monomial =
    flavour_size model Row (uses monomial.factors) == rows && flavour_size model Column (uses monomial.factors) == columns

abbrev pub is_symmetric : Shape → Bool
is_symmetric Symmetric = true
is_symmetric _ = false

-- a symmetric coupling has as many rows as columns
abbrev pub has_square_shape : Term → Bool
has_square_shape term = not (is_symmetric term.shape) || term.rows == term.columns

-- both
abbrev pub have_sizes : Model → Term → Bool
have_sizes model term = list_all (has_sizes model term.rows term.columns) term.monomials && has_square_shape term
