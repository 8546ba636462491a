-- The steps of reading a file's own table.
use Rattle.std.specs.Prelude.{◌≡◌, ℕ, ◌≤◌, List, [], ◌++◌, length, map, Option, Some, None, Result, Ok, Err, codes}
use Rattle.toml.specs.Data.{Members, get_member}
use Rattle.toml.specs.View.{view}
use Rattle.model_core.specs.declared.model.Model.{Model}
use Rattle.model_core.specs.declared.fault.ReadFault.{ReadFault}
use Rattle.model_core.specs.declared.fault.ReadKind.TheVariants.{NotToml}
use Rattle.model_core.specs.declared.fault.Part.TheVariants as part
use Rattle.model_core.specs.Fault.{fault}
use Rattle.model_core.specs.Document.{document, group_of, fermion_of, scalar_of, table_of}
use Rattle.model_core.specs.Fault.{place_of}
use Rattle.model_core.specs.TermMeaning.{term_of}
use Rattle.model_core.specs.Walk.{part_places, part_names, terms_places}
use Rattle.model_reader.specs.Tables.{table_views}
use Rattle.model_reader.specs.declared.reader.FileValues.{FileValues}
use Rattle.model_reader.specs.declared.reader.PartTables.{PartTables}

-- the document, or the fault of bytes that are none
abbrev pub members_or_fault : Option Members → Result Members ReadFault
members_or_fault None = Err (fault (place_of part.File 0 0) NotToml)
members_or_fault (Some members) = Ok members

abbrev pub document_or_fault : List ℕ → Result Members ReadFault
document_or_fault bytes = members_or_fault (document bytes)

-- the file's table has these values under its keys
pub record HasHead (members : Members) (values : FileValues) : Type 0 where
  pub profile : get_member (codes "profile") members ≡ Some (view values.profile.now)
  pub name : get_member (codes "name") members ≡ Some (view values.name.now)

-- the tables of groups, fermions, scalars, tables and terms
abbrev pub PartLists : Type 0
PartLists = List Members × (List Members × (List Members × (List Members × List Members)))

abbrev pub part_lists : PartTables → PartLists
part_lists parts = (table_views parts.groups.items, (table_views parts.fermions.items, (table_views parts.scalars.items, (table_views parts.tables.items, table_views parts.terms.items))))

-- no part has more tables than it may have
pub record ArePartsFew (parts : PartTables) : Type 0 where
  pub groups : length parts.groups.items ≤ 4
  pub fermions : length parts.fermions.items ≤ 24
  pub scalars : length parts.scalars.items ≤ 12
  pub tables : length parts.tables.items ≤ 16
  pub terms : length parts.terms.items ≤ 64

-- the model that the tables of its parts name, without its terms
abbrev pub model_with : ℕ → List ℕ → PartLists → Model
model_with profile name (group_tables, (fermion_tables, (scalar_tables, (tensor_tables, term_tables)))) = record {
  profile = profile;
  name = name;
  groups = map group_of group_tables;
  fermions = map (fermion_of (map group_of group_tables)) fermion_tables;
  scalars = map (scalar_of (map group_of group_tables)) scalar_tables;
  tables = map (table_of (map group_of group_tables)) tensor_tables;
  terms = [];
}

-- the bad places within these tables but for those of terms
abbrev pub places_of : PartLists → List ReadFault
places_of (group_tables, (fermion_tables, (scalar_tables, (tensor_tables, term_tables)))) = part_places group_tables fermion_tables scalar_tables tensor_tables

abbrev pub term_tables_of : PartLists → List Members
term_tables_of (group_tables, (fermion_tables, (scalar_tables, (tensor_tables, term_tables)))) = term_tables

-- the model with its terms
abbrev pub with_terms : Model → List Members → Model
with_terms model tables = record model { terms = map (term_of model) tables }

abbrev pub whole_model : ℕ → List ℕ → PartLists → Model
whole_model profile name lists = with_terms (model_with profile name lists) (term_tables_of lists)

-- all bad places within these tables
abbrev pub all_places : List ReadFault → Model → List Members → List ReadFault
all_places places model tables = places ++ terms_places model (part_names model) tables

abbrev pub whole_places : ℕ → List ℕ → PartLists → List ReadFault
whole_places profile name lists = all_places (places_of lists) (model_with profile name lists) (term_tables_of lists)
