-- Fields of a model, and labels of factors.
use Rattle.std.proofs.Common.{◌≡◌, ℕ, suc, ◌≤◌, ◌+◌, ◌++◌, Bool, true, List, [], ◌∷◌, length, replicate, get_or, refl, arith, ap, ap₂, sym, ◌∙◌}
use Rattle.std.specs.Prelude.{◌&&◌, cond, Option, Some, None, slice_get}
use Rattle.std.specs.List.{list_all, count_by}
use Rattle.std.proofs.lemmas.Bool.Decides.{nat_tests}
use Rattle.su_reps.specs.declared.rep.Rep.{Rep}
use Rattle.su_reps.specs.Tuples.{slots}
use Rattle.model_core.specs.declared.group.Group.{Group}
use Rattle.model_core.specs.declared.field.Field.{Field}
use Rattle.model_core.specs.declared.table.Table.{Table}
use Rattle.model_core.specs.declared.model.Model.{Model}
use Rattle.model_core.specs.declared.term.Factor.{Factor}
use Rattle.model_core.specs.Factors.{has_few_reps, rep_slots, labels_of, all_labels, labelled, slots_of_field, slots_of_table}
use Rattle.model_core.specs.declared.content.LabelledSlot.{LabelledSlot}
use Rattle.model_core.specs.Valid.{is_field, has_valid_parts}
use Rattle.std.proofs.lemmas.List.{length-append, length-replicate, append-nil}
use Rattle.std.proofs.lemmas.Option.{get_or_from_slice_get, slice_get_within}
use Rattle.std.proofs.lemmas.List.Sums.{sum_by-append}
use Rattle.std.proofs.lemmas.List.Folds.{list_all-append}
use Rattle.exact_algebra.specs.Slices.{tail, tail-cons}
use Rattle.model_core.proofs.CountLaws.{passes_at}
use Rattle.model_core.proofs.ValidLaws.{first_passes, field_reps, length-reps, parts_groups, parts_fields, parts_scalar_fields, group_limit}

few : (groups : List Group) (field : Field) → length groups ≤ 4 → is_field groups field ≡ true → has_few_reps field ≡ true
few groups field limit valid =
    let same = length-reps groups field.reps (field_reps groups field valid) in
    let bound : length field.reps ≤ 4 = omega (arith, same, limit) in
    grind (arith, nat_tests)

all_few : (groups : List Group) (fields : List Field) → length groups ≤ 4 → list_all (is_field groups) fields ≡ true → list_all has_few_reps fields ≡ true
all_few groups [] limit valid = refl
all_few groups (field ∷ fields) limit valid =
    let parts = first_passes (is_field groups) field fields valid in
    ap₂ ◌&&◌ (few groups field limit parts.0) (all_few groups fields limit parts.1)

pub few_reps_fermions : (model : Model) → has_valid_parts model ≡ true → list_all has_few_reps model.fermions ≡ true
few_reps_fermions model valid = all_few model.groups model.fermions (group_limit model.groups (parts_groups model valid)) (parts_fields model valid)

pub few_reps_scalars : (model : Model) → has_valid_parts model ≡ true → list_all has_few_reps model.scalars ≡ true
few_reps_scalars model valid = all_few model.groups model.scalars (group_limit model.groups (parts_groups model valid)) (parts_scalar_fields model valid)

-- a field that a model has, in a list of those with few representations
pub few_at : (fields : List Field) (place : ℕ) (field : Field) → list_all has_few_reps fields ≡ true → slice_get fields place ≡ Some field → length field.reps ≤ 4
few_at fields place field valid found =
    let passes : has_few_reps field ≡ true =
    sym (ap has_few_reps (get_or_from_slice_get fields place field field found)) ∙ passes_at has_few_reps fields place field valid (slice_get_within fields place field found) in
    grind (arith, nat_tests)

-- a slot needs a group
labelled-nil : (labels : List ℕ) → labelled labels [] ≡ []
labelled-nil [] = refl
labelled-nil (label ∷ labels) = refl

pub labelled_none : (slots : List LabelledSlot) (labels : List ℕ) → slots ≡ slots ++ labelled labels []
labelled_none slots labels = sym (ap (λ more. slots ++ more) (labelled-nil labels) ∙ append-nil slots)

-- what a model doesn't have has no slots
pub no_field : (slots : List LabelledSlot) (labels : List ℕ) (field : Option Field) → field ≡ None → slots ≡ slots ++ labelled labels (slots_of_field field)
no_field slots labels field none = labelled_none slots labels ∙ ap (λ found. slots ++ labelled labels (slots_of_field found)) (sym none)

pub no_table : (slots : List LabelledSlot) (labels : List ℕ) (table : Option Table) → table ≡ None → slots ≡ slots ++ labelled labels (slots_of_table table)
no_table slots labels table none = labelled_none slots labels ∙ ap (λ found. slots ++ labelled labels (slots_of_table found)) (sym none)

-- how many slots there are, whichever place the first group has
pub length-rep_slots : (a b : ℕ) (reps : List Rep) → length (rep_slots a reps) ≡ length (rep_slots b reps)
length-rep_slots a b [] = refl
length-rep_slots a b (rep ∷ reps) =
    length-append (replicate (slots rep) a) (rep_slots (suc a) reps)
    ∙ ap₂ ◌+◌ (length-replicate (slots rep) a ∙ sym (length-replicate (slots rep) b)) (length-rep_slots (suc a) (suc b) reps)
    ∙ sym (length-append (replicate (slots rep) b) (rep_slots (suc b) reps))

-- the slots of the first representation and of the others
pub length-rep_slots-cons : (rep : Rep) (reps : List Rep) → length (rep_slots 0 (rep ∷ reps)) ≡ slots rep + length (rep_slots 0 reps)
length-rep_slots-cons rep reps =
    length-append (replicate (slots rep) 0) (rep_slots 1 reps) ∙ ap₂ ◌+◌ (length-replicate (slots rep) 0) (length-rep_slots 1 0 reps)

pub slot_count-step : (reps : List Rep) (d : Rep) → 1 ≤ length reps → length (rep_slots 0 reps) ≡ slots (get_or reps 0 d) + length (rep_slots 0 (tail reps))
slot_count-step [] d h = absurd (omega (arith, h))
slot_count-step (rep ∷ reps) d h = length-rep_slots-cons rep reps ∙ ap (λ rest. slots rep + length (rep_slots 0 rest)) (sym (tail-cons rep reps))

-- how often a label stands among the labels of factors
pub count_by-all_labels : (test : ℕ → Bool) (factor : Factor) (factors : List Factor) →
    count_by test (all_labels (factor ∷ factors)) ≡ count_by test (labels_of factor) + count_by test (all_labels factors)
count_by-all_labels test factor factors = sum_by-append (λ x. cond (test x) 1 0) (labels_of factor) (all_labels factors)

-- tests of all labels of factors
pub list_all-all_labels : (test : ℕ → Bool) (factor : Factor) (factors : List Factor) →
    list_all test (all_labels (factor ∷ factors)) ≡ (list_all test (labels_of factor) && list_all test (all_labels factors))
list_all-all_labels test factor factors = list_all-append test (labels_of factor) (all_labels factors)
