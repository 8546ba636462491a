-- The bad places of a document, each rule's where its condition holds, in the order of the walk: the file's table, then
-- all groups, fermions, scalars, tables and terms in file order. At one place the rule that comes first is the one that counts.
use Rattle.std.specs.Prelude.{ℕ, suc, ◌==◌, Bool, true, false, not, ◌&&◌, if◌then◌else◌, pos, negsuc, List, [], ◌∷◌, ◌++◌, map, length, sum_by, Option, Some, None, is_some, codes}
use Rattle.std.specs.List.{flat_map, list_any, list_all}
use Rattle.std.specs.Str.{bytes_eq}
use Rattle.toml.specs.Data.{Data, string, integer, boolean, array, table, Items, no_items, item, Members, no_members, member, get_member}
use Rattle.frac128.specs.Rational.{zero_ℚ, eq_ℚ}
use Rattle.model_core.specs.declared.group.Group.{Group}
use Rattle.model_core.specs.declared.field.Field.{Field}
use Rattle.model_core.specs.declared.table.Entry.{Entry}
use Rattle.model_core.specs.declared.table.Table.{Table}
use Rattle.model_core.specs.declared.term.Term.{Term}
use Rattle.model_core.specs.declared.content.SymbolBlock.{SymbolBlock}
use Rattle.model_core.specs.declared.model.Model.{Model}
use Rattle.model_core.specs.declared.fault.ReadFault.{ReadFault}
use Rattle.model_core.specs.declared.fault.ReadKind.{ReadKind}
use Rattle.model_core.specs.declared.fault.ReadKind.TheVariants.{UnknownKey, MissingKey, WrongType, BadName, RepeatedName, BadNumber, BadGroup, SecondAbelian, BadRep, BadRealScalar}
use Rattle.model_core.specs.declared.fault.Part.TheVariants as part
use Rattle.model_core.specs.declared.fault.FaultPlace.{FaultPlace}
use Rattle.model_core.specs.Fault.{fault, over, place_of, key_place, bad_where, over_limit}
use Rattle.model_core.specs.Name.{is_name, is_latex}
use Rattle.model_core.specs.Component.{components_of}
use Rattle.model_core.specs.Scalar.{coordinates_of}
use Rattle.model_core.specs.Groups.{is_between, is_abelian, slot_size}
use Rattle.model_core.specs.Valid.{is_own_conjugate, group_names, field_name, table_name, term_name, entry_at}
use Rattle.model_core.specs.Literal.{within, fraction_in}
use Rattle.model_core.specs.Document.{text_of, number_of, fraction_of, members_of, elements, elements_of, value_or, rep_named, group_of, field_of, fermion_of, scalar_of, is_named, entry_of, table_of, tables_among, tables_at, parts_of}
use Rattle.model_core.specs.TermMeaning.{flavour_of, term_of}
use Rattle.model_core.specs.Content.{term_blocks, symbol_count}
use Rattle.model_core.specs.TermWalk.{term_text_places}

-- ---- rules on the value at a key: first its type, then the rest

-- an integer from low to high
abbrev pub integer_places : ℕ → ℕ → ReadKind → FaultPlace → Data → List ReadFault
integer_places low high kind place (integer (pos n)) = bad_where (not (is_between low high n)) place kind
integer_places low high kind place (integer (negsuc n)) = fault place kind ∷ []
integer_places low high kind place _ = fault place WrongType ∷ []

-- a name that none of the earlier ones repeats
abbrev pub name_places : List (List ℕ) → FaultPlace → Data → List ReadFault
name_places earlier place (string text) =
    if not (is_name text) then fault place BadName ∷ [] else bad_where (list_any (bytes_eq text) earlier) place RepeatedName
name_places earlier place _ = fault place WrongType ∷ []

-- a text in LaTeX
abbrev pub latex_places : FaultPlace → Data → List ReadFault
latex_places place (string text) = bad_where (not (is_latex text)) place BadName
latex_places place _ = fault place WrongType ∷ []

-- an n from 1 to 6, and no second 1
abbrev pub dimension_places : List Group → FaultPlace → Data → List ReadFault
dimension_places earlier place value =
    integer_places 1 6 BadGroup place value ++ bad_where (number_of value == 1 && list_any is_abelian earlier) place SecondAbelian

-- a fraction
abbrev pub fraction_places : FaultPlace → Data → List ReadFault
fraction_places place (integer n) = bad_where (not (is_some (fraction_in (integer n)))) place BadNumber
fraction_places place (string text) = bad_where (not (is_some (fraction_in (string text)))) place BadNumber
fraction_places place _ = fault place WrongType ∷ []

-- a charge, which is 0 where no group is a U(1)
abbrev pub charge_places : List Group → FaultPlace → Data → List ReadFault
charge_places groups place value =
    fraction_places place value ++ bad_where (not (eq_ℚ (fraction_of value) zero_ℚ) && not (list_any is_abelian groups)) place BadGroup

-- texts under each key
abbrev pub is_text : Data → Bool
is_text (string text) = true
is_text _ = false

abbrev pub are_texts : Members → Bool
are_texts no_members = true
are_texts (member key value rest) = is_text value && are_texts rest

-- words for representations, under names of groups SU(n)
abbrev pub names_special : List Group → List ℕ → Bool
names_special groups name = list_any (is_named name) groups

abbrev pub are_reps_named : List Group → Members → Bool
are_reps_named groups no_members = true
are_reps_named groups (member key value rest) = (names_special groups key && is_some (rep_named (text_of value))) && are_reps_named groups rest

-- a table of representations
abbrev pub reps_places : List Group → FaultPlace → Data → List ReadFault
reps_places groups place (table members) =
    if not (are_texts members) then fault place WrongType ∷ [] else bad_where (not (are_reps_named groups members)) place BadRep
reps_places groups place _ = fault place WrongType ∷ []

-- whether a scalar is real, which it may be where it is its own conjugate
abbrev pub real_places : Field → FaultPlace → Data → List ReadFault
real_places field place (boolean real) = bad_where (real && not (is_own_conjugate field)) place BadRealScalar
real_places field place _ = fault place WrongType ∷ []

-- an array of so many tables
abbrev pub are_tables : Items → Bool
are_tables no_items = true
are_tables (item (table pairs) rest) = are_tables rest
are_tables (item _ rest) = false

abbrev pub tables_places : ℕ → FaultPlace → Data → List ReadFault
tables_places limit place (array items) =
    if not (are_tables items) then fault place WrongType ∷ [] else over_limit limit (length (tables_among items)) place
tables_places limit place _ = fault place WrongType ∷ []

-- ---- rules on the keys of a term

-- one of these words
abbrev pub word_places : List (List ℕ) → FaultPlace → Data → List ReadFault
word_places words place (string text) = bad_where (not (list_any (bytes_eq text) words)) place WrongType
word_places words place _ = fault place WrongType ∷ []

-- an array of texts
abbrev pub texts_places : FaultPlace → Data → List ReadFault
texts_places place (array items) = bad_where (not (list_all is_text (elements items))) place WrongType
texts_places place _ = fault place WrongType ∷ []

abbrev pub truth_places : FaultPlace → Data → List ReadFault
truth_places place (boolean truth) = []
truth_places place _ = fault place WrongType ∷ []

-- the text of a term that has these flavour labels, after the blocks of earlier terms' symbols
abbrev pub text_places : Model → List SymbolBlock → List (List ℕ) → Term → FaultPlace → Data → List ReadFault
text_places model blocks flavour term place (string text) = term_text_places model blocks flavour term place text
text_places model blocks flavour term place _ = fault place WrongType ∷ []

-- ---- tables of keys

-- a key of a table: its name, whether it has to be there, and the rules on its value
pub record Key : Type 0 where
  pub name : List ℕ
  pub is_required : Bool
  pub rule : FaultPlace → Data → List ReadFault

abbrev pub required : List ℕ → (FaultPlace → Data → List ReadFault) → Key
required name rule = record { name = name; is_required = true; rule = rule }

abbrev pub optional : List ℕ → (FaultPlace → Data → List ReadFault) → Key
optional name rule = record { name = name; is_required = false; rule = rule }

-- a key that isn't in the list
abbrev pub keys_are_among : List (List ℕ) → Members → Bool
keys_are_among names no_members = true
keys_are_among names (member name value rest) = list_any (bytes_eq name) names && keys_are_among names rest

abbrev pub unknown_places : List (List ℕ) → FaultPlace → Members → List ReadFault
unknown_places names place members = bad_where (not (keys_are_among names members)) place UnknownKey

-- the place of the next key in the list
abbrev pub next_key : FaultPlace → FaultPlace
next_key place = key_place place (suc place.at)

-- a required key that isn't there
abbrev pub missing_place : FaultPlace → Option Data → List ReadFault
missing_place place found = bad_where (not (is_some found)) place MissingKey

abbrev pub missing_places : FaultPlace → List Key → Members → List ReadFault
missing_places place [] _ = []
missing_places place (key ∷ keys) members =
    (if key.is_required then missing_place place (get_member key.name members) else []) ++ missing_places (next_key place) keys members

-- the keys that are there
abbrev pub found_places : (Data → List ReadFault) → Option Data → List ReadFault
found_places rule None = []
found_places rule (Some value) = rule value

abbrev pub value_places : FaultPlace → List Key → Members → List ReadFault
value_places place [] _ = []
value_places place (key ∷ keys) members = found_places (key.rule place) (get_member key.name members) ++ value_places (next_key place) keys members

-- Unknown keys stand at 0, and the keys of the list are numbered from 1.
abbrev pub key_places : FaultPlace → List Key → Members → List ReadFault
key_places place keys members = unknown_places (map (λ (key : Key). key.name) keys) place members ++ missing_places (key_place place 1) keys members

-- all of a table at a place
abbrev pub table_places : FaultPlace → List Key → Members → List ReadFault
table_places place keys members = key_places place keys members ++ value_places (key_place place 1) keys members

-- ---- rules on the slots and entries of a table

-- a number of slots from 1 to 8
abbrev pub slot_count_places : ℕ → FaultPlace → List ReadFault
slot_count_places count place = if is_between 1 8 count then [] else over place count ∷ []

-- texts that name groups SU(n), and then their number
abbrev pub slot_list_places : List Group → FaultPlace → List Data → List ReadFault
slot_list_places groups place values =
    if not (list_all is_text values) then fault place WrongType ∷ []
    else bad_where (not (list_all (λ value. names_special groups (text_of value)) values)) place BadGroup ++ slot_count_places (length values) place

-- an array of such texts
abbrev pub slots_places : List Group → FaultPlace → Data → List ReadFault
slots_places groups place (array items) = slot_list_places groups place (elements items)
slots_places groups place _ = fault place WrongType ∷ []

-- an array of integers
abbrev pub is_integer : Data → Bool
is_integer (integer number) = true
is_integer _ = false

abbrev pub are_integers : Data → Bool
are_integers (array items) = list_all is_integer (elements items)
are_integers _ = false

-- an integer or a text
abbrev pub is_literal : Data → Bool
is_literal (integer number) = true
is_literal (string text) = true
is_literal _ = false

-- a table with integers under `at`, a fraction under `value`, and no other key
abbrev pub is_entry_table : Data → Bool
is_entry_table (table members) =
    keys_are_among (codes "at" ∷ codes "value" ∷ []) members
    && (value_or are_integers false (get_member (codes "at") members) && value_or is_literal false (get_member (codes "value") members))
is_entry_table _ = false

-- a number from 1 to n
abbrev pub slot_value : ℕ → Data → Option ℕ
slot_value n (integer (pos number)) = within 1 n number
slot_value n _ = None

-- a number from 1 to n for each slot
abbrev pub are_slot_values : List Group → List ℕ → List Data → Bool
are_slot_values groups [] [] = true
are_slot_values groups (slot ∷ slots) (value ∷ values) = is_some (slot_value (slot_size groups slot) value) && are_slot_values groups slots values
are_slot_values groups _ _ = false

-- an entry's numbers, one for each slot
abbrev pub at_places : List Group → List ℕ → FaultPlace → Data → List ReadFault
at_places groups slots place value = bad_where (not (are_slot_values groups slots (elements_of value))) place BadNumber

-- an entry after earlier ones: its form, its numbers, its fraction, and whether an earlier one has the same numbers
unfoldable pub entry_places : List Group → List ℕ → FaultPlace → List Entry → Data → List ReadFault
entry_places groups slots place earlier value =
    bad_where (not (is_entry_table value)) place WrongType
    ++ (found_places (at_places groups slots place) (get_member (codes "at") (members_of value))
    ++ (found_places (fraction_places place) (get_member (codes "value") (members_of value))
    ++ bad_where (list_any (bytes_eq (entry_of value).at) (map entry_at earlier)) place RepeatedName))

-- each element of a list after what the earlier ones stand for
abbrev pub places_after : {A B : Type 0} → (List A → B → List ReadFault) → (B → A) → List A → List B → List ReadFault
places_after places meaning earlier [] = []
places_after places meaning earlier (first ∷ rest) = places earlier first ++ places_after places meaning (earlier ++ meaning first ∷ []) rest

-- at most 512 entries, and then each after the earlier ones
abbrev pub entry_list_places : List Group → List ℕ → FaultPlace → List Data → List ReadFault
entry_list_places groups slots place values = over_limit 512 (length values) place ++ places_after (entry_places groups slots place) entry_of [] values

-- an array of such entries
abbrev pub entries_places : List Group → List ℕ → FaultPlace → Data → List ReadFault
entries_places groups slots place (array items) = entry_list_places groups slots place (elements items)
entries_places groups slots place _ = fault place WrongType ∷ []

-- ---- the keys of each table

-- the parts, with their limits
abbrev pub part_keys : List Key
part_keys =
    optional (codes "group") (tables_places 4)
    ∷ optional (codes "fermion") (tables_places 24)
    ∷ optional (codes "scalar") (tables_places 12)
    ∷ optional (codes "table") (tables_places 16)
    ∷ optional (codes "term") (tables_places 64)
    ∷ []

abbrev pub file_keys : List Key
file_keys = required (codes "profile") (integer_places 1 1 BadNumber) ∷ required (codes "name") (name_places []) ∷ part_keys

-- a group after earlier ones: a group's own two names have to differ too
abbrev pub group_keys : List Group → Members → List Key
group_keys earlier members =
    required (codes "name") (name_places (flat_map group_names earlier))
    ∷ required (codes "n") (dimension_places earlier)
    ∷ required (codes "coupling") (name_places (flat_map group_names earlier ++ (group_of members).name ∷ []))
    ∷ optional (codes "latex") latex_places
    ∷ []

-- a fermion after earlier names
abbrev pub fermion_keys : List Group → List (List ℕ) → List Key
fermion_keys groups earlier =
    required (codes "name") (name_places earlier)
    ∷ optional (codes "generations") (integer_places 1 6 BadNumber)
    ∷ optional (codes "charge") (charge_places groups)
    ∷ optional (codes "reps") (reps_places groups)
    ∷ []

-- a scalar after earlier names
abbrev pub scalar_keys : List Group → List (List ℕ) → Members → List Key
scalar_keys groups earlier members = fermion_keys groups earlier ++ optional (codes "real") (real_places (field_of false groups members)) ∷ []

-- a table after earlier names
abbrev pub table_keys : List Group → List (List ℕ) → Members → List Key
table_keys groups earlier members =
    required (codes "name") (name_places earlier)
    ∷ required (codes "slots") (slots_places groups)
    ∷ required (codes "entries") (entries_places groups (table_of groups members).slots)
    ∷ []

-- a term after earlier names, and after the blocks of earlier terms' symbols
abbrev pub term_keys : Model → List (List ℕ) → List SymbolBlock → Members → List Key
term_keys model names blocks members =
    required (codes "coupling") (name_places names)
    ∷ optional (codes "latex") latex_places
    ∷ optional (codes "value") (word_places (codes "real" ∷ codes "complex" ∷ []))
    ∷ optional (codes "shape") (word_places (codes "one" ∷ codes "matrix" ∷ codes "symmetric" ∷ []))
    ∷ optional (codes "flavour") texts_places
    ∷ optional (codes "hc") truth_places
    ∷ required (codes "text") (text_places model blocks (flavour_of members) (term_of model members))
    ∷ []

-- ---- the whole document

unfoldable pub group_places : List Group → Members → List ReadFault
group_places earlier members = table_places (place_of part.Group (suc (length earlier)) 0) (group_keys earlier members) members

-- a field, with its number and the names before it
unfoldable pub fermion_places : List Group → ℕ → List (List ℕ) → Members → List ReadFault
fermion_places groups index names members = table_places (place_of part.Fermion index 0) (fermion_keys groups names) members

unfoldable pub scalar_places : List Group → ℕ → List (List ℕ) → Members → List ReadFault
scalar_places groups index names members = table_places (place_of part.Scalar index 0) (scalar_keys groups names members) members

-- a table of the part `table`, with its number and the names before it
unfoldable pub tensor_places : List Group → ℕ → List (List ℕ) → Members → List ReadFault
tensor_places groups index names members = table_places (place_of part.Table index 0) (table_keys groups names members) members

abbrev pub tensor_after : List Group → List (List ℕ) → List Table → Members → List ReadFault
tensor_after groups names earlier = tensor_places groups (suc (length earlier)) (names ++ map table_name earlier)

-- a field after earlier ones of its part, whose names stand after those of the parts before
abbrev pub fermion_after : List Group → List (List ℕ) → List Field → Members → List ReadFault
fermion_after groups names earlier = fermion_places groups (suc (length earlier)) (names ++ map field_name earlier)

abbrev pub scalar_after : List Group → List (List ℕ) → List Field → Members → List ReadFault
scalar_after groups names earlier = scalar_places groups (suc (length earlier)) (names ++ map field_name earlier)

-- all groups
abbrev pub groups_places : List Members → List ReadFault
groups_places tables = places_after group_places group_of [] tables

-- all fermions after earlier names, and after the last one the number of components
unfoldable pub fermions_places : List Group → List (List ℕ) → List Members → List ReadFault
fermions_places groups names tables =
    places_after (fermion_after groups names) (fermion_of groups) [] tables
    ++ over_limit 512 (length (flat_map (components_of groups) (map (fermion_of groups) tables))) (place_of part.Fermion 0 0)

-- all scalars after earlier names, and after the last one the number of coordinates
unfoldable pub scalars_places : List Group → List (List ℕ) → List Members → List ReadFault
scalars_places groups names tables =
    places_after (scalar_after groups names) (scalar_of groups) [] tables
    ++ over_limit 256 (length (flat_map (coordinates_of groups) (map (scalar_of groups) tables))) (place_of part.Scalar 0 0)

-- all tables after earlier names
unfoldable pub tensors_places : List Group → List (List ℕ) → List Members → List ReadFault
tensors_places groups names tables = places_after (tensor_after groups names) (table_of groups) [] tables

-- a term, with its number, the names before it and the blocks of earlier terms' symbols
unfoldable pub term_places : Model → List SymbolBlock → ℕ → List (List ℕ) → Members → List ReadFault
term_places model blocks index names members = table_places (place_of part.Term index 0) (term_keys model names blocks members) members

abbrev pub term_after : Model → List (List ℕ) → List Term → Members → List ReadFault
term_after model names earlier =
    term_places model (flat_map (term_blocks model) earlier) (suc (length earlier)) (names ++ map term_name earlier)

-- all terms after earlier names, and after the last one the number of symbols
unfoldable pub terms_places : Model → List (List ℕ) → List Members → List ReadFault
terms_places model names tables =
    places_after (term_after model names) (term_of model) [] tables
    ++ over_limit 400 (sum_by symbol_count (map (term_of model) tables)) (place_of part.Term 0 0)

-- the parts but for terms, by the tables of each
unfoldable pub part_places : List Members → List Members → List Members → List Members → List ReadFault
part_places group_tables fermion_tables scalar_tables tensor_tables =
    let groups = map group_of group_tables in
    let names = flat_map group_names groups in
    let fermions = map (fermion_of groups) fermion_tables in
    let scalars = map (scalar_of groups) scalar_tables in
    groups_places group_tables
    ++ (fermions_places groups names fermion_tables
    ++ (scalars_places groups (names ++ map field_name fermions) scalar_tables
    ++ tensors_places groups ((names ++ map field_name fermions) ++ map field_name scalars) tensor_tables))

-- the names before those of terms
abbrev pub part_names : Model → List (List ℕ)
part_names model = ((flat_map group_names model.groups ++ map field_name model.fermions) ++ map field_name model.scalars) ++ map table_name model.tables

-- all bad places
unfoldable pub bad_places : Members → List ReadFault
bad_places members =
    table_places (place_of part.File 0 0) file_keys members
    ++ (part_places (tables_at (codes "group") members) (tables_at (codes "fermion") members) (tables_at (codes "scalar") members) (tables_at (codes "table") members)
    ++ terms_places (parts_of members) (part_names (parts_of members)) (tables_at (codes "term") members))
