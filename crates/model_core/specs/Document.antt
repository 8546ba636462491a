-- The document that the bytes of a file are, and the parts of the model that it names but for its terms (see TermMeaning).
-- Each value stands for what its type says; what isn't there, or isn't in its form, counts as left out. Only a document
-- without a bad place is read (see Walk).
use Rattle.std.specs.Prelude.{ℕ, Bool, false, ◌&&◌, if◌then◌else◌, unsigned_abs, List, [], ◌∷◌, map, position, Option, Some, None, option_and_then, unwrap_or, codes}
use Rattle.std.specs.Str.{is_utf8, bytes_eq}
use Rattle.toml.specs.Data.{Data, string, integer, boolean, array, table, Items, no_items, item, Members, no_members, get_member, as_str}
use Rattle.toml.specs.Parse.{parse_document}
use Rattle.frac128.specs.Rational.{ℚ, zero_ℚ}
use Rattle.su_reps.specs.declared.rep.Rep.{Rep}
use Rattle.su_reps.specs.declared.rep.Rep.TheVariants.{Singlet, Fund, Conj, Adjoint, Sym2, Sym2Conj, Anti2, Anti2Conj}
use Rattle.model_core.specs.declared.group.Group.{Group}
use Rattle.model_core.specs.declared.field.Field.{Field}
use Rattle.model_core.specs.declared.table.Entry.{Entry}
use Rattle.model_core.specs.declared.table.Table.{Table}
use Rattle.model_core.specs.declared.model.Model.{Model}
use Rattle.model_core.specs.Literal.{fraction_in}
use Rattle.model_core.specs.Groups.{is_abelian, is_special}

-- the document that the bytes are: a text in UTF-8 that the grammar of TOML takes
unfoldable pub document : List ℕ → Option Members
document bytes = if is_utf8 bytes then parse_document bytes else None

-- ---- what values stand for

abbrev pub text_of : Data → List ℕ
text_of (string text) = text
text_of _ = []

abbrev pub number_of : Data → ℕ
number_of (integer number) = unsigned_abs number
number_of _ = 0

abbrev pub fraction_of : Data → ℚ
fraction_of value = unwrap_or (fraction_in value) zero_ℚ

abbrev pub truth_of : Data → Bool
truth_of (boolean truth) = truth
truth_of _ = false

abbrev pub members_of : Data → Members
members_of (table members) = members
members_of _ = no_members

-- the tables of an array
abbrev pub tables_among : Items → List Members
tables_among no_items = []
tables_among (item (table members) rest) = members ∷ tables_among rest
tables_among (item _ rest) = tables_among rest

abbrev pub tables_of : Data → List Members
tables_of (array items) = tables_among items
tables_of _ = []

-- the elements of an array
abbrev pub elements : Items → List Data
elements no_items = []
elements (item value rest) = value ∷ elements rest

abbrev pub elements_of : Data → List Data
elements_of (array items) = elements items
elements_of _ = []

-- a representation of SU(n), by its word
abbrev pub rep_named : List ℕ → Option Rep
rep_named word =
    if bytes_eq word (codes "singlet") then Some Singlet
    else if bytes_eq word (codes "fund") then Some Fund
    else if bytes_eq word (codes "conj") then Some Conj
    else if bytes_eq word (codes "adjoint") then Some Adjoint
    else if bytes_eq word (codes "sym2") then Some Sym2
    else if bytes_eq word (codes "sym2conj") then Some Sym2Conj
    else if bytes_eq word (codes "anti2") then Some Anti2
    else if bytes_eq word (codes "anti2conj") then Some Anti2Conj
    else None

abbrev pub rep_of : Data → Rep
rep_of value = unwrap_or (option_and_then rep_named (as_str value)) Singlet

-- what the value at a key stands for, or what stands without it
abbrev pub value_or : {A : Type 0} → (Data → A) → A → Option Data → A
value_or meaning default None = default
value_or meaning default (Some value) = meaning value

-- ---- the model

-- without `latex` the coupling's name stands in LaTeX
unfoldable pub group_of : Members → Group
group_of members = record {
  name = value_or text_of [] (get_member (codes "name") members);
  n = value_or number_of 0 (get_member (codes "n") members);
  coupling = value_or text_of [] (get_member (codes "coupling") members);
  latex = value_or text_of (value_or text_of [] (get_member (codes "coupling") members)) (get_member (codes "latex") members);
}

-- a representation for each group: the singlet of the U(1), and of a group that isn't named
abbrev pub rep_under : Members → Group → Rep
rep_under members group = if is_abelian group then Singlet else value_or rep_of Singlet (get_member group.name members)

abbrev pub reps_of : List Group → Members → List Rep
reps_of groups members = map (rep_under members) groups

-- a field of one generation, without a charge, and a singlet of each group where nothing else is said
abbrev pub field_of : Bool → List Group → Members → Field
field_of real groups members = record {
  name = value_or text_of [] (get_member (codes "name") members);
  generations = value_or number_of 1 (get_member (codes "generations") members);
  charge = value_or fraction_of zero_ℚ (get_member (codes "charge") members);
  reps = reps_of groups (value_or members_of no_members (get_member (codes "reps") members));
  real = real;
}

unfoldable pub fermion_of : List Group → Members → Field
fermion_of = field_of false

-- a scalar is complex where nothing else is said
unfoldable pub scalar_of : List Group → Members → Field
scalar_of groups members = field_of (value_or truth_of false (get_member (codes "real") members)) groups members

-- the group SU(n) of this name
abbrev pub is_named : List ℕ → Group → Bool
is_named name group = is_special group && bytes_eq name group.name

-- the place of the group SU(n) that a text names
abbrev pub slot_of : List Group → Data → ℕ
slot_of groups value = unwrap_or (position (is_named (text_of value)) groups) 0

abbrev pub slots_of : List Group → Data → List ℕ
slots_of groups value = map (slot_of groups) (elements_of value)

-- an entry's numbers
abbrev pub numbers_of : Data → List ℕ
numbers_of value = map number_of (elements_of value)

-- a fraction and the place where it stands
unfoldable pub entry_of : Data → Entry
entry_of value = record {
  at = value_or numbers_of [] (get_member (codes "at") (members_of value));
  value = value_or fraction_of zero_ℚ (get_member (codes "value") (members_of value));
}

abbrev pub entries_of : Data → List Entry
entries_of value = map entry_of (elements_of value)

-- a tensor of fractions
unfoldable pub table_of : List Group → Members → Table
table_of groups members = record {
  name = value_or text_of [] (get_member (codes "name") members);
  slots = value_or (slots_of groups) [] (get_member (codes "slots") members);
  entries = value_or entries_of [] (get_member (codes "entries") members);
}

-- the tables under a key of the file
abbrev pub tables_at : List ℕ → Members → List Members
tables_at key members = value_or tables_of [] (get_member key members)

abbrev pub groups_of : Members → List Group
groups_of members = map group_of (tables_at (codes "group") members)

-- the model without its terms
unfoldable pub parts_of : Members → Model
parts_of members = record {
  profile = value_or number_of 0 (get_member (codes "profile") members);
  name = value_or text_of [] (get_member (codes "name") members);
  groups = groups_of members;
  fermions = map (fermion_of (groups_of members)) (tables_at (codes "fermion") members);
  scalars = map (scalar_of (groups_of members)) (tables_at (codes "scalar") members);
  tables = map (table_of (groups_of members)) (tables_at (codes "table") members);
  terms = [];
}
