-- Which models are valid: the rules on a model's parts, the limits of its sizes, and what the values of a file are.
use Rattle.std.specs.Prelude.{ℕ, Bool, true, false, ◌&&◌, ◌||◌, not, ◌==◌, nat_le, List, [], ◌∷◌, ◌++◌, map, length, IsTrue}
use Rattle.std.specs.List.{flat_map, list_all, list_any}
use Rattle.std.specs.Str.{bytes_eq}
use Rattle.model_core.specs.declared.group.Group.{Group}
use Rattle.model_core.specs.declared.field.Field.{Field}
use Rattle.model_core.specs.declared.table.Entry.{Entry}
use Rattle.model_core.specs.declared.table.Table.{Table}
use Rattle.model_core.specs.declared.term.Term.{Term}
use Rattle.model_core.specs.declared.model.Model.{Model}
use Rattle.frac128.specs.Rational.{zero_ℚ, eq_ℚ}
use Rattle.su_reps.specs.declared.rep.Rep.{Rep}
use Rattle.su_reps.specs.declared.rep.Rep.TheVariants.{Singlet, Adjoint}
use Rattle.model_core.specs.Groups.{is_between, is_abelian, is_slot, slot_size}
use Rattle.model_core.specs.Component.{fermion_components}
use Rattle.model_core.specs.Scalar.{scalar_components}
use Rattle.model_core.specs.TermRules.{are_terms}
use Rattle.model_core.specs.Name.{is_name, is_latex}
use Rattle.model_core.specs.FileValues.{latex_of, has_file_fractions, are_labels_numbered}

-- no text stands twice
abbrev pub are_distinct : List (List ℕ) → Bool
are_distinct [] = true
are_distinct (text ∷ texts) = not (list_any (bytes_eq text) texts) && are_distinct texts

-- the names of groups, of gauge couplings, of fermions, of scalars, of tables and of terms' couplings, which have to be distinct
abbrev pub group_names : Group → List (List ℕ)
group_names group = group.name ∷ group.coupling ∷ []

abbrev pub field_name : Field → List ℕ
field_name field = field.name

abbrev pub table_name : Table → List ℕ
table_name table = table.name

abbrev pub term_name : Term → List ℕ
term_name term = term.coupling

abbrev pub names_of : Model → List (List ℕ)
names_of model =
    flat_map group_names model.groups ++ map field_name model.fermions ++ map field_name model.scalars ++ map table_name model.tables ++ map term_name model.terms

-- at most one U(1)
abbrev pub has_one_abelian : List Group → Bool
has_one_abelian [] = true
has_one_abelian (group ∷ groups) = not (is_abelian group && list_any is_abelian groups) && has_one_abelian groups

-- the U(1), or SU(n) with n from 2 to 6
abbrev pub is_group : Group → Bool
is_group group = is_between 1 6 group.n

-- at most 4 groups, of these at most one U(1)
abbrev pub are_groups : List Group → Bool
are_groups groups = (nat_le (length groups) 4 && list_all is_group groups) && has_one_abelian groups

-- a representation for each group, the singlet for the U(1)
abbrev pub is_rep : Group → Rep → Bool
is_rep group Singlet = true
is_rep group _ = not (is_abelian group)

abbrev pub are_reps : List Group → List Rep → Bool
are_reps [] [] = true
are_reps (group ∷ groups) (rep ∷ reps) = is_rep group rep && are_reps groups reps
are_reps _ _ = false

-- only a U(1) gives charges
abbrev pub has_charge_of : List Group → Field → Bool
has_charge_of groups field = list_any is_abelian groups || eq_ℚ field.charge zero_ℚ

-- 1 to 6 generations, a representation for each group, and a charge only under a U(1)
abbrev pub is_field : List Group → Field → Bool
is_field groups field = (is_between 1 6 field.generations && are_reps groups field.reps) && has_charge_of groups field

-- at most 24 fermions
abbrev pub are_fields : List Group → List Field → Bool
are_fields groups fields = nat_le (length fields) 24 && list_all (is_field groups) fields

-- a representation that is its own conjugate by a swap of each pair of slots
abbrev pub is_real_rep : Rep → Bool
is_real_rep Singlet = true
is_real_rep Adjoint = true
is_real_rep _ = false

-- a field that is its own conjugate: without a charge, and a singlet or in the adjoint representation of each group
abbrev pub is_own_conjugate : Field → Bool
is_own_conjugate field = list_all is_real_rep field.reps && eq_ℚ field.charge zero_ℚ

-- a real scalar is its own conjugate
abbrev pub is_scalar : List Group → Field → Bool
is_scalar groups field = is_field groups field && (not field.real || is_own_conjugate field)

-- at most 12 scalars
abbrev pub are_scalars : List Group → List Field → Bool
are_scalars groups fields = nat_le (length fields) 12 && list_all (is_scalar groups) fields

-- a value from 1 to n for each slot
abbrev pub are_values : List Group → List ℕ → List ℕ → Bool
are_values groups [] [] = true
are_values groups (slot ∷ slots) (value ∷ values) = is_between 1 (slot_size groups slot) value && are_values groups slots values
are_values groups _ _ = false

-- an entry's values
abbrev pub entry_at : Entry → List ℕ
entry_at entry = entry.at

abbrev pub is_entry : List Group → List ℕ → Entry → Bool
is_entry groups slots entry = are_values groups slots entry.at

-- 1 to 8 slots
abbrev pub are_slots : List Group → List ℕ → Bool
are_slots groups slots = is_between 1 8 (length slots) && list_all (is_slot groups) slots

-- at most 512 entries, no two at the same values
abbrev pub are_entries : List Group → List ℕ → List Entry → Bool
are_entries groups slots entries = (nat_le (length entries) 512 && list_all (is_entry groups slots) entries) && are_distinct (map entry_at entries)

-- such slots and such entries
abbrev pub is_table : List Group → Table → Bool
is_table groups table = are_slots groups table.slots && are_entries groups table.slots table.entries

-- at most 16 tables
abbrev pub are_tables : List Group → List Table → Bool
are_tables groups tables = nat_le (length tables) 16 && list_all (is_table groups) tables

-- groups and fields that meet their rules, and few enough of them
abbrev pub has_valid_fields : Model → Bool
has_valid_fields model =
    (are_groups model.groups && are_fields model.groups model.fermions) && are_scalars model.groups model.scalars

-- the same of these and of tables
abbrev pub has_valid_parts : Model → Bool
has_valid_parts model = has_valid_fields model && are_tables model.groups model.tables

-- at most 512 fermion components, and at most 256 scalar coordinates without the dummy
abbrev pub has_few_components : Model → Bool
has_few_components model = nat_le (length (fermion_components model)) 512 && nat_le (length (scalar_components model)) 256

-- valid parts, few enough components, and distinct names
abbrev pub has_valid_names : Model → Bool
has_valid_names model = (has_valid_parts model && has_few_components model) && are_distinct (names_of model)

-- the profile is 1, and each name is one; so is each text in LaTeX
abbrev pub has_file_texts : Model → Bool
has_file_texts model = (model.profile == 1 && list_all is_name (model.name ∷ names_of model)) && list_all is_latex (latex_of model)

-- only a scalar may be real
abbrev pub is_complex : Field → Bool
is_complex field = not field.real

-- what the values of a file are: its texts and fractions, complex fermions, and labels in the order of their places
unfoldable pub has_file_values : Model → Bool
has_file_values model = (has_file_texts model && has_file_fractions model) && (list_all is_complex model.fermions && list_all are_labels_numbered model.terms)

-- and terms that meet their rules, and values as a file has them
abbrev pub is_valid : Model → Bool
is_valid model = has_valid_names model && (are_terms model model.terms && has_file_values model)

abbrev pub IsValid : Model → Type 0
IsValid model = IsTrue (is_valid model)
