-- What the values of a file are in the model that it stands for: its fractions, texts in LaTeX and numbers of labels.
use Rattle.std.specs.Prelude.{ℕ, suc, ◌==◌, Bool, true, ◌&&◌, if◌then◌else◌, nat_le, unsigned_abs, List, [], ◌∷◌, ◌++◌, map}
use Rattle.std.specs.List.{list_all}
use Rattle.frac128.specs.Rational.{ℚ}
use Rattle.model_core.specs.declared.group.Group.{Group}
use Rattle.model_core.specs.declared.field.Field.{Field}
use Rattle.model_core.specs.declared.table.Entry.{Entry}
use Rattle.model_core.specs.declared.table.Table.{Table}
use Rattle.model_core.specs.declared.term.Monomial.{Monomial}
use Rattle.model_core.specs.declared.term.Term.{Term}
use Rattle.model_core.specs.declared.model.Model.{Model}
use Rattle.model_core.specs.Factors.{all_labels}

-- ---- fractions

-- in lowest terms a numerator of at most 10^9 in size, and a denominator of at most 10^6
abbrev pub is_file_fraction : ℚ → Bool
is_file_fraction x = nat_le (unsigned_abs x.num) 1000000000 && nat_le x.den 1000000

abbrev pub has_file_charge : Field → Bool
has_file_charge field = is_file_fraction field.charge

abbrev pub is_file_entry : Entry → Bool
is_file_entry entry = is_file_fraction entry.value

abbrev pub has_file_entries : Table → Bool
has_file_entries table = list_all is_file_entry table.entries

abbrev pub has_file_coefficient : Monomial → Bool
has_file_coefficient monomial = is_file_fraction monomial.coefficient

abbrev pub has_file_coefficients : Term → Bool
has_file_coefficients term = list_all has_file_coefficient term.monomials

-- charges, values of tables, and coefficients of monomials
unfoldable pub has_file_fractions : Model → Bool
has_file_fractions model =
    (list_all has_file_charge model.fermions && list_all has_file_charge model.scalars)
    && (list_all has_file_entries model.tables && list_all has_file_coefficients model.terms)

-- ---- texts in LaTeX

abbrev pub group_latex : Group → List ℕ
group_latex group = group.latex

abbrev pub term_latex : Term → List ℕ
term_latex term = term.latex

-- those of gauge couplings and of terms' couplings
abbrev pub latex_of : Model → List (List ℕ)
latex_of model = map group_latex model.groups ++ map term_latex model.terms

-- ---- labels

-- each label is the number of an earlier one, or the next
abbrev pub are_numbered : ℕ → List ℕ → Bool
are_numbered next [] = true
are_numbered next (label ∷ labels) = nat_le label next && are_numbered (if label == next then suc next else next) labels

-- the labels of a monomial are numbered from 0 by their first places
abbrev pub has_numbered_labels : Monomial → Bool
has_numbered_labels monomial = are_numbered 0 (all_labels monomial.factors)

abbrev pub are_labels_numbered : Term → Bool
are_labels_numbered term = list_all has_numbered_labels term.monomials
