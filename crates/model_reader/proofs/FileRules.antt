-- The model of a document without a bad place has values as a file has them.
use Rattle.std.proofs.Common.{◌≡◌, ℕ, suc, Bool, true, List, [], ◌∷◌, ◌++◌, map, length, refl, ap, ◌∙◌, codes}
use Rattle.std.specs.Prelude.{◌&&◌, ◌==◌}
use Rattle.std.specs.List.{list_all, flat_map}
use Rattle.std.proofs.lemmas.List.Folds.{list_all-map}
use Rattle.toml.specs.Data.{Data, Members, get_member}
use Rattle.frac128.specs.Rational.{zero_ℚ}
use Rattle.model_core.specs.declared.group.Group.{Group}
use Rattle.model_core.specs.declared.field.Field.{Field}
use Rattle.model_core.specs.declared.table.Table.{Table}
use Rattle.model_core.specs.declared.term.Term.{Term}
use Rattle.model_core.specs.declared.model.Model.{Model}
use Rattle.model_core.specs.declared.fault.FaultPlace.{FaultPlace}
use Rattle.model_core.specs.declared.fault.ReadKind.TheVariants.{BadNumber}
use Rattle.model_core.specs.declared.fault.Part.TheVariants as part
use Rattle.model_core.specs.Fault.{place_of, key_place}
use Rattle.model_core.specs.Name.{is_name, is_latex}
use Rattle.model_core.specs.Content.{term_blocks}
use Rattle.model_core.specs.FileValues.{is_file_fraction, has_file_charge, is_file_entry, has_file_entries, has_file_coefficient, has_file_coefficients, has_file_fractions, group_latex, term_latex, has_numbered_labels, are_labels_numbered}
use Rattle.model_core.specs.Valid.{group_names, field_name, table_name, term_name, has_file_texts, is_complex, has_file_values}
use Rattle.model_core.specs.Document.{text_of, number_of, fraction_of, members_of, elements_of, value_or, group_of, fermion_of, scalar_of, entry_of, entries_of, table_of, tables_at, groups_of, parts_of}
use Rattle.model_core.specs.TermMeaning.{monomial_of, monomials_of, flavour_of, term_of}
use Rattle.model_core.specs.TermGrammar.{sum_in}
use Rattle.model_core.specs.Reading.{model_of}
use Rattle.model_core.specs.Walk.{Key, required, optional, next_key, integer_places, name_places, dimension_places, latex_places, table_places, places_after, part_keys, file_keys, group_keys, fermion_keys, scalar_keys, table_keys, term_keys, group_places, fermion_places, scalar_places, tensor_places, tensor_after, fermion_after, scalar_after, groups_places, fermions_places, scalars_places, tensors_places, term_places, term_after, terms_places, part_places, part_names, bad_places}
use Rattle.model_core.proofs.BoolLaws.{both_hold}
use Rattle.model_reader.proofs.SlotLaws.{none_before}
use Rattle.model_reader.proofs.KeyValues.{each_after, each_mapped, all_appended, all_flat, keys_good, later_good, required_passes, optional_passes, always_passes, profile_is_one, name_is_one, latex_is_one, name_is_latex}
use Rattle.model_reader.proofs.SmallFractions.{fraction_small, coefficient_small}
use Rattle.model_reader.proofs.LabelNumbers.{monomial_numbered}

-- ---- fractions, whatever the document has

fermion_charge : (groups : List Group) (members : Members) → has_file_charge (fermion_of groups members) ≡ true
unfolding fermion_of
fermion_charge groups members = always_passes fraction_of zero_ℚ is_file_fraction fraction_small refl (get_member (codes "charge") members)

scalar_charge : (groups : List Group) (members : Members) → has_file_charge (scalar_of groups members) ≡ true
unfolding scalar_of
scalar_charge groups members = always_passes fraction_of zero_ℚ is_file_fraction fraction_small refl (get_member (codes "charge") members)

entry_fraction : (value : Data) → is_file_entry (entry_of value) ≡ true
unfolding entry_of
entry_fraction value = always_passes fraction_of zero_ℚ is_file_fraction fraction_small refl (get_member (codes "value") (members_of value))

table_fractions : (groups : List Group) (members : Members) → has_file_entries (table_of groups members) ≡ true
unfolding table_of
table_fractions groups members =
    always_passes entries_of [] (list_all is_file_entry) (λ value. each_mapped entry_of is_file_entry entry_fraction (elements_of value)) refl (get_member (codes "entries") members)

coefficients_small : (model : Model) (flavour : List (List ℕ)) (text : List ℕ) → list_all has_file_coefficient (monomials_of model flavour text) ≡ true
unfolding monomial_of
coefficients_small model flavour text = each_mapped (monomial_of model flavour text) has_file_coefficient (coefficient_small text) (sum_in text)

term_coefficients : (model : Model) (members : Members) → has_file_coefficients (term_of model members) ≡ true
unfolding term_of
term_coefficients model members = coefficients_small model (flavour_of members) (value_or text_of [] (get_member (codes "text") members))

term_numbered : (model : Model) (members : Members) → are_labels_numbered (term_of model members) ≡ true
unfolding term_of
term_numbered model members =
    let text = value_or text_of [] (get_member (codes "text") members) in
    each_mapped (monomial_of model (flavour_of members) text) has_numbered_labels (monomial_numbered model (flavour_of members) text) (sum_in text)

fermion_complex : (groups : List Group) (members : Members) → is_complex (fermion_of groups members) ≡ true
unfolding fermion_of
fermion_complex groups _ = refl

document_fractions : (members : Members) → has_file_fractions (model_of members) ≡ true
unfolding model_of parts_of has_file_fractions
document_fractions members =
    let groups = groups_of members in
    let fermions = each_mapped (fermion_of groups) has_file_charge (fermion_charge groups) (tables_at (codes "fermion") members) in
    let scalars = each_mapped (scalar_of groups) has_file_charge (scalar_charge groups) (tables_at (codes "scalar") members) in
    let tables = each_mapped (table_of groups) has_file_entries (table_fractions groups) (tables_at (codes "table") members) in
    let terms = each_mapped (term_of (parts_of members)) has_file_coefficients (term_coefficients (parts_of members)) (tables_at (codes "term") members) in
    both_hold _ _ (both_hold _ _ fermions scalars) (both_hold _ _ tables terms)

document_fermions : (members : Members) → list_all is_complex (model_of members).fermions ≡ true
unfolding model_of parts_of
document_fermions members = each_mapped (fermion_of (groups_of members)) is_complex (fermion_complex (groups_of members)) (tables_at (codes "fermion") members)

document_labels : (members : Members) → list_all are_labels_numbered (model_of members).terms ≡ true
unfolding model_of
document_labels members = each_mapped (term_of (parts_of members)) are_labels_numbered (term_numbered (parts_of members)) (tables_at (codes "term") members)

-- ---- names and texts in LaTeX of each table

group_texts : (earlier : List Group) (members : Members) → group_places earlier members ≡ []
    → (list_all is_name (group_names (group_of members)) ≡ true) × (is_latex (group_latex (group_of members)) ≡ true)
unfolding group_places group_of
group_texts earlier members none =
    let place = place_of part.Group (suc (length earlier)) 1 in
    let second = next_key place in
    let third = next_key second in
    let latex = optional (codes "latex") latex_places ∷ [] in
    let coupling_rule = name_places (flat_map group_names earlier ++ (group_of members).name ∷ []) in
    let coupling_keys = required (codes "coupling") coupling_rule ∷ latex in
    let n_keys = required (codes "n") (dimension_places earlier) ∷ coupling_keys in
    let first_good = keys_good (place_of part.Group (suc (length earlier)) 0) (group_keys earlier members) members none in
    let second_good = later_good place (required (codes "name") (name_places (flat_map group_names earlier))) n_keys members first_good in
    let third_good = later_good second (required (codes "n") (dimension_places earlier)) coupling_keys members second_good in
    let last_good = later_good third (required (codes "coupling") coupling_rule) latex members third_good in
    let name = required_passes place (codes "name") (name_places (flat_map group_names earlier)) n_keys members text_of [] is_name (name_is_one (flat_map group_names earlier) place) first_good in
    let coupling = required_passes third (codes "coupling") coupling_rule latex members text_of [] is_name (name_is_one _ third) third_good in
    let text = optional_passes (next_key third) (codes "latex") latex_places [] members text_of (value_or text_of [] (get_member (codes "coupling") members)) is_latex (latex_is_one (next_key third)) (name_is_latex (value_or text_of [] (get_member (codes "coupling") members)) coupling) last_good in
    (both_hold _ _ name (both_hold _ _ coupling refl), text)

-- the keys behind the first
abbrev behind : List Key → List Key
behind [] = []
behind (key ∷ keys) = keys

-- a table whose first key is its name
named : (place : FaultPlace) (earlier : List (List ℕ)) (keys : List Key) (members : Members) → table_places place (required (codes "name") (name_places earlier) ∷ keys) members ≡ []
    → is_name (value_or text_of [] (get_member (codes "name") members)) ≡ true
named place earlier keys members none =
    let good = keys_good place (required (codes "name") (name_places earlier) ∷ keys) members none in
    required_passes (key_place place 1) (codes "name") (name_places earlier) keys members text_of [] is_name (name_is_one earlier (key_place place 1)) good

fermion_named : (groups : List Group) (names : List (List ℕ)) (earlier : List Field) (members : Members) → fermion_after groups names earlier members ≡ [] → is_name (field_name (fermion_of groups members)) ≡ true
unfolding fermion_places fermion_of
fermion_named groups names earlier members none = named (place_of part.Fermion (suc (length earlier)) 0) (names ++ map field_name earlier) (behind (fermion_keys groups [])) members none

scalar_named : (groups : List Group) (names : List (List ℕ)) (earlier : List Field) (members : Members) → scalar_after groups names earlier members ≡ [] → is_name (field_name (scalar_of groups members)) ≡ true
unfolding scalar_places scalar_of
scalar_named groups names earlier members none = named (place_of part.Scalar (suc (length earlier)) 0) (names ++ map field_name earlier) (behind (scalar_keys groups [] members)) members none

table_named : (groups : List Group) (names : List (List ℕ)) (earlier : List Table) (members : Members) → tensor_after groups names earlier members ≡ [] → is_name (table_name (table_of groups members)) ≡ true
unfolding tensor_places table_of
table_named groups names earlier members none = named (place_of part.Table (suc (length earlier)) 0) (names ++ map table_name earlier) (behind (table_keys groups [] members)) members none

term_texts : (model : Model) (names : List (List ℕ)) (earlier : List Term) (members : Members) → term_after model names earlier members ≡ []
    → (is_name (term_name (term_of model members)) ≡ true) × (is_latex (term_latex (term_of model members)) ≡ true)
unfolding term_places term_of
term_texts model names earlier members none =
    let place = place_of part.Term (suc (length earlier)) 1 in
    let rule = name_places (names ++ map term_name earlier) in
    let keys = term_keys model (names ++ map term_name earlier) (flat_map (term_blocks model) earlier) members in
    let good = keys_good (place_of part.Term (suc (length earlier)) 0) keys members none in
    let coupling = required_passes place (codes "coupling") rule (behind keys) members text_of [] is_name (name_is_one (names ++ map term_name earlier) place) good in
    let later = later_good place (required (codes "coupling") rule) (behind keys) members good in
    let default = value_or text_of [] (get_member (codes "coupling") members) in
    let text = optional_passes (next_key place) (codes "latex") latex_places (behind (behind keys)) members text_of default is_latex (latex_is_one (next_key place)) (name_is_latex default coupling) later in
    (coupling, text)

-- ---- those of all tables

image_passes : {A B : Type 0} (test : B → Bool) (f : A → B) (xs : List A) → list_all (λ x. test (f x)) xs ≡ true → list_all test (map f xs) ≡ true
image_passes test f xs all = list_all-map test f xs ∙ all

all_group_names : (tables : List Members) → groups_places tables ≡ [] → list_all is_name (flat_map group_names (map group_of tables)) ≡ true
all_group_names tables none =
    all_flat is_name group_names (map group_of tables)
    (each_after group_places group_of (λ group. list_all is_name (group_names group)) (λ earlier members fine. (group_texts earlier members fine).0) [] tables none)

all_group_latex : (tables : List Members) → groups_places tables ≡ [] → list_all is_latex (map group_latex (map group_of tables)) ≡ true
all_group_latex tables none =
    image_passes is_latex group_latex (map group_of tables)
    (each_after group_places group_of (λ group. is_latex (group_latex group)) (λ earlier members fine. (group_texts earlier members fine).1) [] tables none)

all_fermion_names : (groups : List Group) (names : List (List ℕ)) (tables : List Members) → fermions_places groups names tables ≡ [] → list_all is_name (map field_name (map (fermion_of groups) tables)) ≡ true
unfolding fermions_places
all_fermion_names groups names tables none =
    image_passes is_name field_name (map (fermion_of groups) tables)
    (each_after (fermion_after groups names) (fermion_of groups) (λ field. is_name (field_name field)) (fermion_named groups names) [] tables
    (none_before (places_after (fermion_after groups names) (fermion_of groups) [] tables) _ none).0)

all_scalar_names : (groups : List Group) (names : List (List ℕ)) (tables : List Members) → scalars_places groups names tables ≡ [] → list_all is_name (map field_name (map (scalar_of groups) tables)) ≡ true
unfolding scalars_places
all_scalar_names groups names tables none =
    image_passes is_name field_name (map (scalar_of groups) tables)
    (each_after (scalar_after groups names) (scalar_of groups) (λ field. is_name (field_name field)) (scalar_named groups names) [] tables
    (none_before (places_after (scalar_after groups names) (scalar_of groups) [] tables) _ none).0)

all_table_names : (groups : List Group) (names : List (List ℕ)) (tables : List Members) → tensors_places groups names tables ≡ [] → list_all is_name (map table_name (map (table_of groups) tables)) ≡ true
unfolding tensors_places
all_table_names groups names tables none =
    image_passes is_name table_name (map (table_of groups) tables)
    (each_after (tensor_after groups names) (table_of groups) (λ table. is_name (table_name table)) (table_named groups names) [] tables none)

all_term_names : (model : Model) (names : List (List ℕ)) (tables : List Members) → terms_places model names tables ≡ [] → list_all is_name (map term_name (map (term_of model) tables)) ≡ true
unfolding terms_places
all_term_names model names tables none =
    image_passes is_name term_name (map (term_of model) tables)
    (each_after (term_after model names) (term_of model) (λ term. is_name (term_name term)) (λ earlier members fine. (term_texts model names earlier members fine).0) [] tables
    (none_before (places_after (term_after model names) (term_of model) [] tables) _ none).0)

all_term_latex : (model : Model) (names : List (List ℕ)) (tables : List Members) → terms_places model names tables ≡ [] → list_all is_latex (map term_latex (map (term_of model) tables)) ≡ true
unfolding terms_places
all_term_latex model names tables none =
    image_passes is_latex term_latex (map (term_of model) tables)
    (each_after (term_after model names) (term_of model) (λ term. is_latex (term_latex term)) (λ earlier members fine. (term_texts model names earlier members fine).1) [] tables
    (none_before (places_after (term_after model names) (term_of model) [] tables) _ none).0)

-- ---- the document

head_values : (members : Members) → table_places (place_of part.File 0 0) file_keys members ≡ []
    → ((value_or number_of 0 (get_member (codes "profile") members) == 1) ≡ true) × (is_name (value_or text_of [] (get_member (codes "name") members)) ≡ true)
head_values members none =
    let place = place_of part.File 0 1 in
    let name_keys = required (codes "name") (name_places []) ∷ part_keys in
    let good = keys_good (place_of part.File 0 0) file_keys members none in
    let later = later_good place (required (codes "profile") (integer_places 1 1 BadNumber)) name_keys members good in (
      required_passes place (codes "profile") (integer_places 1 1 BadNumber) name_keys members number_of 0 (λ n. n == 1) (profile_is_one place) good,
      required_passes (next_key place) (codes "name") (name_places []) part_keys members text_of [] is_name (name_is_one [] (next_key place)) later,
    )

-- what no bad place of the parts says
record GoodParts (members : Members) : Type 0 where
  groups : groups_places (tables_at (codes "group") members) ≡ []
  fermions : list_all is_name (map field_name (parts_of members).fermions) ≡ true
  scalars : list_all is_name (map field_name (parts_of members).scalars) ≡ true
  tables : list_all is_name (map table_name (parts_of members).tables) ≡ true

good_parts : (members : Members) → part_places (tables_at (codes "group") members) (tables_at (codes "fermion") members) (tables_at (codes "scalar") members) (tables_at (codes "table") members) ≡ [] → GoodParts members
unfolding part_places parts_of
good_parts members none =
    let groups = groups_of members in
    let names = flat_map group_names groups in
    let fermion_tables = tables_at (codes "fermion") members in
    let scalar_tables = tables_at (codes "scalar") members in
    let tensor_tables = tables_at (codes "table") members in
    let to_fermions = names ++ map field_name (map (fermion_of groups) fermion_tables) in
    let to_scalars = to_fermions ++ map field_name (map (scalar_of groups) scalar_tables) in
    let a = none_before (groups_places (tables_at (codes "group") members)) (fermions_places groups names fermion_tables ++ (scalars_places groups to_fermions scalar_tables ++ tensors_places groups to_scalars tensor_tables)) none in
    let b = none_before (fermions_places groups names fermion_tables) (scalars_places groups to_fermions scalar_tables ++ tensors_places groups to_scalars tensor_tables) a.1 in
    let c = none_before (scalars_places groups to_fermions scalar_tables) (tensors_places groups to_scalars tensor_tables) b.1 in
    record {
      groups = a.0;
      fermions = all_fermion_names groups names fermion_tables b.0;
      scalars = all_scalar_names groups to_fermions scalar_tables c.0;
      tables = all_table_names groups to_scalars tensor_tables c.1;
    }

document_texts : (members : Members) → bad_places members ≡ [] → has_file_texts (model_of members) ≡ true
unfolding bad_places model_of parts_of
document_texts members none =
    let parts = part_places (tables_at (codes "group") members) (tables_at (codes "fermion") members) (tables_at (codes "scalar") members) (tables_at (codes "table") members) in
    let term_tables = tables_at (codes "term") members in
    let terms = terms_places (parts_of members) (part_names (parts_of members)) term_tables in
    let a = none_before (table_places (place_of part.File 0 0) file_keys members) (parts ++ terms) none in
    let b = none_before parts terms a.1 in
    let head = head_values members a.0 in
    let good = good_parts members b.0 in
    let group_tables = tables_at (codes "group") members in
    let of_groups = flat_map group_names (groups_of members) in
    let of_fermions = map field_name (parts_of members).fermions in
    let of_scalars = map field_name (parts_of members).scalars in
    let of_tables = map table_name (parts_of members).tables in
    let of_terms = map term_name (map (term_of (parts_of members)) term_tables) in
    let to_fermions = all_appended is_name of_groups of_fermions (all_group_names group_tables good.groups) good.fermions in
    let to_scalars = all_appended is_name (of_groups ++ of_fermions) of_scalars to_fermions good.scalars in
    let to_tables = all_appended is_name (of_groups ++ of_fermions ++ of_scalars) of_tables to_scalars good.tables in
    let names = all_appended is_name (of_groups ++ of_fermions ++ of_scalars ++ of_tables) of_terms to_tables (all_term_names (parts_of members) (part_names (parts_of members)) term_tables b.1) in
    let latex = all_appended is_latex (map group_latex (groups_of members)) (map term_latex (map (term_of (parts_of members)) term_tables))
    (all_group_latex group_tables good.groups) (all_term_latex (parts_of members) (part_names (parts_of members)) term_tables b.1) in
    both_hold _ _ (both_hold _ _ head.0 (both_hold _ _ head.1 names)) latex

document_values : (members : Members) → bad_places members ≡ [] → has_file_values (model_of members) ≡ true
unfolding has_file_values
document_values members none =
    let model = model_of members in
    both_hold (has_file_texts model && has_file_fractions model) (list_all is_complex model.fermions && list_all are_labels_numbered model.terms)
    (both_hold (has_file_texts model) (has_file_fractions model) (document_texts members none) (document_fractions members))
    (both_hold (list_all is_complex model.fermions) (list_all are_labels_numbered model.terms) (document_fermions members) (document_labels members))

-- what was read has them
pub values_read : (members : Members) (model : Model) → bad_places members ≡ [] → model ≡ model_of members → has_file_values model ≡ true
values_read members model none is = ap has_file_values is ∙ document_values members none
