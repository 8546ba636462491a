-- The factors of a monomial: which labels and fields they have, and which slots.
use Rattle.std.specs.Prelude.{ℕ, suc, ◌==◌, nat_le, Bool, true, false, not, ◌&&◌, ◌||◌, List, [], ◌∷◌, ◌++◌, length, replicate, slice_get, Option, Some, None, option_map, unwrap_or}
use Rattle.std.specs.List.{filter_map, find, flat_map, list_all, list_any, count_by}
use Rattle.su_reps.specs.declared.rep.Rep.{Rep}
use Rattle.su_reps.specs.Tuples.{slots}
use Rattle.model_core.specs.declared.group.Group.{Group}
use Rattle.model_core.specs.declared.field.Field.{Field}
use Rattle.model_core.specs.declared.table.Table.{Table}
use Rattle.model_core.specs.declared.model.Model.{Model}
use Rattle.model_core.specs.declared.term.Generation.{Generation}
use Rattle.model_core.specs.declared.term.Generation.TheVariants.{Fixed}
use Rattle.model_core.specs.declared.term.TermKind.TheVariants as kind
use Rattle.model_core.specs.declared.term.Factor.{Factor}
use Rattle.model_core.specs.declared.term.Factor.TheVariants.{Fermion, Scalar, Eps, Table as TableFactor}
use Rattle.model_core.specs.declared.content.FieldUse.{FieldUse}
use Rattle.model_core.specs.declared.content.LabelledSlot.{LabelledSlot}
use Rattle.model_core.specs.Groups.{is_between, slot_size}

-- ---- fields and labels

-- the field that a factor has
abbrev pub field_use : Factor → Option FieldUse
field_use (Fermion field generation labels) = Some (record { kind = kind.Fermion; field = field; conj = false; generation = generation })
field_use (Scalar field conj generation labels) = Some (record { kind = kind.Scalar; field = field; conj = conj; generation = generation })
field_use _ = None

-- the fields of a monomial
abbrev pub uses : List Factor → List FieldUse
uses factors = filter_map field_use factors

abbrev pub labels_of : Factor → List ℕ
labels_of (Fermion field generation labels) = labels
labels_of (Scalar field conj generation labels) = labels
labels_of (Eps labels) = labels
labels_of (TableFactor table labels) = labels

abbrev pub all_labels : List Factor → List ℕ
all_labels factors = flat_map labels_of factors

-- ---- slots

-- the group of each slot of a field, by its place, in the order of groups
abbrev pub rep_slots : ℕ → List Rep → List ℕ
rep_slots place [] = []
rep_slots place (rep ∷ reps) = replicate (slots rep) place ++ rep_slots (suc place) reps

-- a representation for each of at most 4 groups, as the fields of a model have
abbrev pub has_few_reps : Field → Bool
has_few_reps field = nat_le (length field.reps) 4

abbrev pub slots_of_field : Option Field → List ℕ
slots_of_field None = []
slots_of_field (Some field) = rep_slots 0 field.reps

abbrev pub slots_of_table : Option Table → List ℕ
slots_of_table None = []
slots_of_table (Some table) = table.slots

-- the group of each slot of a factor; those of an `eps` are told by its labels
abbrev pub slots_of : Model → Factor → List ℕ
slots_of model (Fermion field generation labels) = slots_of_field (slice_get model.fermions field)
slots_of model (Scalar field conj generation labels) = slots_of_field (slice_get model.scalars field)
slots_of model (Eps labels) = []
slots_of model (TableFactor table labels) = slots_of_table (slice_get model.tables table)

-- the slots of fields and tables with their labels
abbrev pub labelled : List ℕ → List ℕ → List LabelledSlot
labelled (label ∷ labels) (group ∷ groups) = record { label = label; group = group } ∷ labelled labels groups
labelled _ _ = []

abbrev pub labelled_slots_of : Model → Factor → List LabelledSlot
labelled_slots_of model factor = labelled (labels_of factor) (slots_of model factor)

abbrev pub labelled_slots : Model → List Factor → List LabelledSlot
labelled_slots model factors = flat_map (labelled_slots_of model) factors

-- ---- joins

-- a field has the label
abbrev pub is_in_field : ℕ → Factor → Bool
is_in_field label (Fermion field generation labels) = list_any (λ l. label == l) labels
is_in_field label (Scalar field conj generation labels) = list_any (λ l. label == l) labels
is_in_field label _ = false

-- a label joins two slots, of which a field has one
abbrev pub joins_two : List Factor → ℕ → Bool
joins_two factors label = count_by (λ l. label == l) (all_labels factors) == 2 && list_any (is_in_field label) factors

-- the group of a label: that of the first slot that it has
abbrev pub has_label : ℕ → LabelledSlot → Bool
has_label label slot = label == slot.label

abbrev pub group_of_slot : LabelledSlot → ℕ
group_of_slot slot = slot.group

abbrev pub group_of_label : List LabelledSlot → ℕ → ℕ
group_of_label slots label = unwrap_or (option_map group_of_slot (find (has_label label) slots)) 0

-- all slots of a label have its group
abbrev pub has_group_of : List LabelledSlot → ℕ → LabelledSlot → Bool
has_group_of slots label slot = not (has_label label slot) || slot.group == group_of_label slots label

abbrev pub joins_one_group : List LabelledSlot → ℕ → Bool
joins_one_group slots label = list_all (has_group_of slots label) slots

-- both of a label
abbrev pub is_joined : List Factor → List LabelledSlot → ℕ → Bool
is_joined factors slots label = joins_two factors label && joins_one_group slots label

-- the labels of an `eps` are of one group SU(n), with n equal to their number
abbrev pub spans_group : List Group → List LabelledSlot → List ℕ → Bool
spans_group groups slots [] = false
spans_group groups slots (first ∷ labels) =
    slot_size groups (group_of_label slots first) == suc (length labels)
    && list_all (λ label. group_of_label slots label == group_of_label slots first) labels

abbrev pub eps_fits : List Group → List LabelledSlot → Factor → Bool
eps_fits groups slots (Eps labels) = spans_group groups slots labels
eps_fits groups slots _ = true

-- ---- which factors a monomial may have

abbrev pub is_tensor : Factor → Bool
is_tensor (Eps labels) = true
is_tensor (TableFactor table labels) = true
is_tensor _ = false

-- a generation that the field has; rows and columns are another rule's
abbrev pub is_generation_of : Field → Generation → Bool
is_generation_of field (Fixed generation) = is_between 1 field.generations generation
is_generation_of field _ = true

-- a label for each slot
abbrev pub fits_field : Option Field → Bool → Generation → List ℕ → Bool
fits_field None conj generation labels = false
fits_field (Some field) conj generation labels =
    (is_generation_of field generation && length labels == length (rep_slots 0 field.reps)) && not (conj && field.real)

abbrev pub fits_table : Option Table → List ℕ → Bool
fits_table None labels = false
fits_table (Some table) labels = length labels == length table.slots

-- a field that the model has, in a generation that it has, conjugate only where it is a complex scalar; a table that the
-- model has; with a label for each slot; or an `eps` with 2 to 6 labels
abbrev pub is_factor : Model → Factor → Bool
is_factor model (Fermion field generation labels) = fits_field (slice_get model.fermions field) false generation labels
is_factor model (Scalar field conj generation labels) = fits_field (slice_get model.scalars field) conj generation labels
is_factor model (Eps labels) = is_between 2 6 (length labels)
is_factor model (TableFactor table labels) = fits_table (slice_get model.tables table) labels

-- such factors, of these at most 4 `eps` and tables, whose labels are joined
abbrev pub are_factors : Model → List Factor → Bool
are_factors model factors = list_all (is_factor model) factors && nat_le (count_by is_tensor factors) 4

abbrev pub are_joined : Model → List Factor → Bool
are_joined model factors =
    list_all (is_joined factors (labelled_slots model factors)) (all_labels factors)
    && list_all (eps_fits model.groups (labelled_slots model factors)) factors
