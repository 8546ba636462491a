-- What a term of a document stands for. Each value stands for what its type says; what isn't there, or isn't in its form,
-- counts as left out. Only a term without a bad place is read (see TermWalk).
use Rattle.std.specs.Prelude.{ℕ, ◌==◌, Bool, true, false, not, if◌then◌else◌, List, [], ◌∷◌, ◌++◌, map, position, Option, Some, None, is_some, option_map, unwrap_or, codes}
use Rattle.std.specs.List.{flat_map, list_any}
use Rattle.std.specs.Str.{bytes_eq}
use Rattle.std.specs.Str.Parse.{digits_value}
use Rattle.toml.specs.Data.{Data, Members, get_member}
use Rattle.frac128.specs.Rational.{ℚ, zero_ℚ, one_ℚ, neg_ℚ}
use Rattle.model_core.specs.declared.field.Field.{Field}
use Rattle.model_core.specs.declared.table.Table.{Table}
use Rattle.model_core.specs.declared.model.Model.{Model}
use Rattle.model_core.specs.declared.sum.Span.{Span}
use Rattle.model_core.specs.declared.sum.WrittenLiteral.{WrittenLiteral}
use Rattle.model_core.specs.declared.sum.Index.{Index}
use Rattle.model_core.specs.declared.sum.Index.TheVariants as index
use Rattle.model_core.specs.declared.sum.Bracket.{Bracket}
use Rattle.model_core.specs.declared.sum.WrittenFactor.{WrittenFactor}
use Rattle.model_core.specs.declared.sum.WrittenMonomial.{WrittenMonomial}
use Rattle.model_core.specs.declared.referent.Referent.{Referent}
use Rattle.model_core.specs.declared.referent.Referent.TheVariants as referent
use Rattle.model_core.specs.declared.term.Shape.{Shape}
use Rattle.model_core.specs.declared.term.Shape.TheVariants.{One, Matrix, Symmetric}
use Rattle.model_core.specs.declared.term.Generation.{Generation}
use Rattle.model_core.specs.declared.term.Generation.TheVariants.{Fixed, Row, Column}
use Rattle.model_core.specs.declared.term.Factor.{Factor}
use Rattle.model_core.specs.declared.term.Factor.TheVariants.{Fermion, Scalar, Eps, Table as TableFactor}
use Rattle.model_core.specs.declared.term.Monomial.{Monomial}
use Rattle.model_core.specs.declared.term.Term.{Term}
use Rattle.model_core.specs.Literal.{whole_of, quotient_of}
use Rattle.model_core.specs.TermText.{bytes_at}
use Rattle.model_core.specs.TermGrammar.{sum_in}
use Rattle.model_core.specs.Document.{text_of, truth_of, elements_of, value_or}
use Rattle.model_core.specs.Flavour.{flavour_size}
use Rattle.model_core.specs.Content.{kind_of, first_uses}

-- ---- words

-- what a word names: the totally antisymmetric tensor, or else a fermion, a scalar or a table of this name
abbrev pub field_has_name : List ℕ → Field → Bool
field_has_name word field = bytes_eq word field.name

abbrev pub table_has_name : List ℕ → Table → Bool
table_has_name word table = bytes_eq word table.name

abbrev pub or_else : Option Referent → Option Referent → Option Referent
or_else None other = other
or_else (Some found) other = Some found

unfoldable pub referent_of : Model → List ℕ → Option Referent
referent_of model word =
    if bytes_eq word (codes "eps") then Some referent.Eps
    else or_else (option_map referent.Fermion (position (field_has_name word) model.fermions))
    (or_else (option_map referent.Scalar (position (field_has_name word) model.scalars))
    (option_map referent.Table (position (table_has_name word) model.tables)))

abbrev pub referent_at : Model → List ℕ → WrittenFactor → Option Referent
referent_at model text factor = referent_of model (bytes_at text factor.word)

-- ---- labels

-- the labels of a monomial as they stand
abbrev pub labels_in : WrittenFactor → List Span
labels_in factor = factor.labels

abbrev pub written_labels : WrittenMonomial → List Span
written_labels monomial = flat_map labels_in monomial.factors

abbrev pub same_text : List ℕ → Span → Span → Bool
same_text text a b = bytes_eq (bytes_at text a) (bytes_at text b)

-- each where its text stands first
abbrev pub first_labels : List ℕ → List Span → List Span → List Span
first_labels text first [] = first
first_labels text first (label ∷ labels) =
    first_labels text (if list_any (same_text text label) first then first else first ++ label ∷ []) labels

unfoldable pub labels_of_monomial : List ℕ → WrittenMonomial → List Span
labels_of_monomial text monomial = first_labels text [] (written_labels monomial)

-- Labels are numbered from 0 by their first place.
abbrev pub label_number : List ℕ → List Span → Span → ℕ
label_number text labels label = unwrap_or (position (same_text text label) labels) 0

abbrev pub label_numbers : List ℕ → List Span → WrittenFactor → List ℕ
label_numbers text labels factor = map (label_number text labels) factor.labels

-- ---- factors

-- the first flavour label is the row's, and the second one the column's
abbrev pub is_first : Option ℕ → Bool
is_first (Some place) = place == 0
is_first None = false

abbrev pub flavour_generation : List (List ℕ) → List ℕ → Generation
flavour_generation flavour word = if is_first (position (bytes_eq word) flavour) then Row else Column

abbrev pub generation_of_index : List (List ℕ) → List ℕ → Index → Generation
generation_of_index flavour text (index.Word word) = flavour_generation flavour (bytes_at text word)
generation_of_index flavour text (index.Digits digits) = Fixed (digits_value 10 (bytes_at text digits))

-- without a bracket it is the first generation
abbrev pub generation_in : List (List ℕ) → List ℕ → Option Bracket → Generation
generation_in flavour text None = Fixed 1
generation_in flavour text (Some bracket) = generation_of_index flavour text bracket.index

abbrev pub factor_named : Option Referent → Bool → Generation → List ℕ → Factor
factor_named None conj generation labels = Eps labels
factor_named (Some (referent.Fermion field)) conj generation labels = Fermion field generation labels
factor_named (Some (referent.Scalar field)) conj generation labels = Scalar field conj generation labels
factor_named (Some referent.Eps) conj generation labels = Eps labels
factor_named (Some (referent.Table table)) conj generation labels = TableFactor table labels

-- a factor, where the monomial has these labels
abbrev pub factor_of : Model → List (List ℕ) → List ℕ → List Span → WrittenFactor → Factor
factor_of model flavour text labels factor =
    factor_named (referent_at model text factor) (is_some factor.tilde) (generation_in flavour text factor.bracket) (label_numbers text labels factor)

-- ---- monomials

-- the fraction that a literal is
abbrev pub literal_over : List ℕ → List ℕ → Option Span → Option ℚ
literal_over text above None = whole_of above
literal_over text above (Some below) = quotient_of above (bytes_at text below)

unfoldable pub literal_fraction : List ℕ → WrittenLiteral → Option ℚ
literal_fraction text literal = literal_over text (bytes_at text literal.numerator) literal.denominator

-- the coefficient is 1 where none is written
abbrev pub size_of : List ℕ → Option WrittenLiteral → ℚ
size_of text None = one_ℚ
size_of text (Some literal) = unwrap_or (literal_fraction text literal) zero_ℚ

abbrev pub coefficient_of : List ℕ → WrittenMonomial → ℚ
coefficient_of text monomial = if monomial.negative then neg_ℚ (size_of text monomial.literal) else size_of text monomial.literal

unfoldable pub monomial_of : Model → List (List ℕ) → List ℕ → WrittenMonomial → Monomial
monomial_of model flavour text monomial = record {
  coefficient = coefficient_of text monomial;
  factors = map (factor_of model flavour text (labels_of_monomial text monomial)) monomial.factors;
}

abbrev pub monomials_of : Model → List (List ℕ) → List ℕ → List Monomial
monomials_of model flavour text = map (monomial_of model flavour text) (sum_in text)

-- ---- the term

-- a coupling is real where nothing else is said
abbrev pub is_real_word : Data → Bool
is_real_word value = not (bytes_eq (text_of value) (codes "complex"))

abbrev pub shape_named : List ℕ → Shape
shape_named word = if bytes_eq word (codes "matrix") then Matrix else if bytes_eq word (codes "symmetric") then Symmetric else One

abbrev pub shape_of : Data → Shape
shape_of value = shape_named (text_of value)

abbrev pub texts_of : Data → List (List ℕ)
texts_of value = map text_of (elements_of value)

abbrev pub flavour_of : Members → List (List ℕ)
flavour_of members = value_or texts_of [] (get_member (codes "flavour") members)

-- with these monomials; without `latex` the coupling's name stands in LaTeX
abbrev pub term_with : Model → Members → List Monomial → Term
term_with model members monomials = record {
  coupling = value_or text_of [] (get_member (codes "coupling") members);
  latex = value_or text_of (value_or text_of [] (get_member (codes "coupling") members)) (get_member (codes "latex") members);
  real = value_or is_real_word true (get_member (codes "value") members);
  shape = value_or shape_of One (get_member (codes "shape") members);
  rows = flavour_size model Row (first_uses monomials);
  columns = flavour_size model Column (first_uses monomials);
  hc = value_or truth_of false (get_member (codes "hc") members);
  kind = kind_of (first_uses monomials);
  monomials = monomials;
}

unfoldable pub term_of : Model → Members → Term
term_of model members = term_with model members (monomials_of model (flavour_of members) (value_or text_of [] (get_member (codes "text") members)))
