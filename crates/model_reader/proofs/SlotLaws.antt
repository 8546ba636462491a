-- Slots that have no bad place are those of groups SU(n), and numbers that have none are values of their slots.
use Rattle.std.proofs.Common.{◌≡◌, ℕ, suc, ◌+◌, ◌<◌, Bool, true, false, cond, not, List, [], ◌∷◌, ◌++◌, map, length, Some, None, pos, negsuc, refl, sym, ap, ap₂, ◌∙◌, arith, inl, inr}
use Rattle.std.specs.Prelude.{◌&&◌, nat_lt, is_some}
use Rattle.std.specs.List.{list_all, list_any, position_or_len, slice_get}
use Rattle.std.proofs.lemmas.Bool.{cases_Bool}
use Rattle.std.proofs.lemmas.Bool.Decides.{nat_tests}
use Rattle.std.proofs.lemmas.List.{length-map}
use Rattle.toml.specs.Data.{Data, string, integer, float, boolean, datetime, array, table}
use Rattle.toml.specs.View.{view, items_view}
use Rattle.toml.specs.declared.value.Value.{Value}
use Rattle.model_core.specs.declared.group.Group.{Group}
use Rattle.model_core.specs.declared.fault.FaultPlace.{FaultPlace}
use Rattle.model_core.specs.declared.fault.ReadFault.{ReadFault}
use Rattle.model_core.specs.declared.fault.ReadKind.{ReadKind}
use Rattle.model_core.specs.declared.fault.ReadKind.TheVariants.{BadGroup}
use Rattle.model_core.specs.Groups.{is_between, is_special, is_slot, slot_size}
use Rattle.model_core.specs.Valid.{are_slots, are_values}
use Rattle.model_core.specs.Document.{text_of, number_of, elements_of, numbers_of, is_named, slot_of, slots_of}
use Rattle.model_core.specs.Fault.{bad_where}
use Rattle.model_core.specs.Walk.{is_text, names_special, slot_count_places, slot_list_places, slots_places, slot_value, are_slot_values, at_places}
use Rattle.model_core.proofs.ValidLaws.{both}
use Rattle.model_reader.proofs.TableLaws.{elements_back}

-- ---- lists of bad places that are empty

pub none_bad : (b : Bool) (place : FaultPlace) (kind : ReadKind) → bad_where (not b) place kind ≡ [] → b ≡ true
none_bad true place kind none = refl
none_bad false place kind none = let never : ⊥ = cc in absurd never

pub none_before : (first second : List ReadFault) → first ++ second ≡ [] → (first ≡ []) × (second ≡ [])
none_before [] second none = (refl, none)
none_before (fault ∷ faults) second none = let never : ⊥ = cc in absurd never

few_slots : (count : ℕ) (place : FaultPlace) → slot_count_places count place ≡ [] → is_between 1 8 count ≡ true
few_slots count place none = elim (cases_Bool (is_between 1 8 count)) [
  | inl few ↦ few
  | inr other ↦ let never : ⊥ = cc in absurd never
]

-- ---- slots

-- what stands at the first place where a test passes
abbrev Found : {A : Type 0} → (A → Bool) → List A → Type 0
Found {A} test xs = (position_or_len test xs < length xs) × (x : A) × (slice_get xs (position_or_len test xs) ≡ Some x) × (test x ≡ true)

found_in : {A : Type 0} (test : A → Bool) (x : A) (xs : List A) → list_any test (x ∷ xs) ≡ true → (list_any test xs ≡ true → Found test xs)
    → (b : Bool) → test x ≡ b → Found test (x ∷ xs)
found_in test x xs some later true here = rw here (omega arith, x, refl, here)
found_in test x xs some later false other =
    let rest = later (rw other at some) in
    let next : 1 + position_or_len test xs ≡ suc (position_or_len test xs) = omega arith in
    rw other (omega (arith, rest.0), rest.1, ap (slice_get (x ∷ xs)) next ∙ rest.2, rest.3)

first_found : {A : Type 0} (test : A → Bool) (xs : List A) → list_any test xs ≡ true → Found test xs
first_found test [] some = let never : ⊥ = cc in absurd never
first_found test (x ∷ xs) some = found_in test x xs some (first_found test xs) (test x) refl

slot_fits : (groups : List Group) (value : Data) → names_special groups (text_of value) ≡ true → is_slot groups (slot_of groups value) ≡ true
slot_fits groups value named =
    let test = is_named (text_of value) in
    let found = first_found test groups named in
    let inside : nat_lt (position_or_len test groups) (length groups) ≡ true = grind (arith, nat_tests, found.0) in
    rw (inside, found.2) (both (is_special found.1) _ found.3).0

slots_fit_all : (groups : List Group) (values : List Data) → list_all (λ value. names_special groups (text_of value)) values ≡ true → list_all (is_slot groups) (map (slot_of groups) values) ≡ true
slots_fit_all groups [] named = refl
slots_fit_all groups (value ∷ values) named =
    let parts = both (names_special groups (text_of value)) (list_all (λ v. names_special groups (text_of v)) values) named in
    ap₂ ◌&&◌ (slot_fits groups value parts.0) (slots_fit_all groups values parts.1)

named_slots_fit : (groups : List Group) (values : List Data) (place : FaultPlace)
    → bad_where (not (list_all (λ value. names_special groups (text_of value)) values)) place BadGroup ++ slot_count_places (length values) place ≡ []
    → are_slots groups (map (slot_of groups) values) ≡ true
named_slots_fit groups values place none =
    let parts = none_before (bad_where (not (list_all (λ value. names_special groups (text_of value)) values)) place BadGroup) (slot_count_places (length values) place) none in
    let few = ap (is_between 1 8) (length-map values (slot_of groups)) ∙ few_slots (length values) place parts.1 in
    ap₂ ◌&&◌ few (slots_fit_all groups values (none_bad _ place BadGroup parts.0))

pub slots_places_array : (groups : List Group) (place : FaultPlace) (values : List Value) → slots_places groups place (array (items_view values)) ≡ slot_list_places groups place (map view values)
slots_places_array groups place values = ap (slot_list_places groups place) (elements_back (map view values))

pub slots_of_array : (groups : List Group) (values : List Value) → slots_of groups (array (items_view values)) ≡ map (slot_of groups) (map view values)
slots_of_array groups values = ap (map (slot_of groups)) (elements_back (map view values))

-- slots without a bad place
pub slots_fit : (groups : List Group) (place : FaultPlace) (values : List Data) → slot_list_places groups place values ≡ [] → are_slots groups (map (slot_of groups) values) ≡ true
slots_fit groups place values none = elim (cases_Bool (list_all is_text values)) [
  | inl texts ↦ named_slots_fit groups values place (rw texts at none)
  | inr other ↦ let never : ⊥ = cc in absurd never
]

-- ---- values of slots

inside_one : (n number : ℕ) (b : Bool) → is_between 1 n number ≡ b → is_some (cond b (Some number) None) ≡ true → b ≡ true
inside_one n number true is some = refl
inside_one n number false is some = let never : ⊥ = cc in absurd never

value_fits : (n : ℕ) (value : Data) → is_some (slot_value n value) ≡ true → is_between 1 n (number_of value) ≡ true
value_fits n (integer (pos number)) some = inside_one n number (is_between 1 n number) refl some
value_fits n (integer (negsuc number)) some = let never : ⊥ = cc in absurd never
value_fits n (array items) some = let never : ⊥ = cc in absurd never
value_fits n (string text) some = let never : ⊥ = cc in absurd never
value_fits n (float x) some = let never : ⊥ = cc in absurd never
value_fits n (boolean b) some = let never : ⊥ = cc in absurd never
value_fits n (datetime when) some = let never : ⊥ = cc in absurd never
value_fits n (table pairs) some = let never : ⊥ = cc in absurd never

values_fit_all : (groups : List Group) (slots : List ℕ) (values : List Data) → are_slot_values groups slots values ≡ true → are_values groups slots (map number_of values) ≡ true
values_fit_all groups [] [] fit = refl
values_fit_all groups [] (value ∷ values) fit = let never : ⊥ = cc in absurd never
values_fit_all groups (slot ∷ slots) [] fit = let never : ⊥ = cc in absurd never
values_fit_all groups (slot ∷ slots) (value ∷ values) fit =
    let parts = both (is_some (slot_value (slot_size groups slot) value)) (are_slot_values groups slots values) fit in
    ap₂ ◌&&◌ (value_fits (slot_size groups slot) value parts.0) (values_fit_all groups slots values parts.1)

-- numbers without a bad place
pub values_fit : (groups : List Group) (slots : List ℕ) (value : Data) (place : FaultPlace) → at_places groups slots place value ≡ [] → are_values groups slots (numbers_of value) ≡ true
values_fit groups slots value place none = values_fit_all groups slots (elements_of value) (none_bad _ place _ none)

-- as many numbers as slots
pub unequal_lengths : (groups : List Group) (slots : List ℕ) (values : List Data) → (length values ≡ length slots → ⊥) → are_slot_values groups slots values ≡ false
unequal_lengths groups [] [] other = absurd (other refl)
unequal_lengths groups [] (value ∷ values) other = refl
unequal_lengths groups (slot ∷ slots) [] other = refl
unequal_lengths groups (slot ∷ slots) (value ∷ values) other = by_first (is_some (slot_value (slot_size groups slot) value)) (unequal_lengths groups slots values (λ same. other (ap suc same)))
  where
    by_first : (b : Bool) → are_slot_values groups slots values ≡ false → (b && are_slot_values groups slots values) ≡ false
    by_first true rest = rest
    by_first false rest = refl

-- another number of values than of slots
pub no_values : (groups : List Group) (slots : List ℕ) (values : List Value) → (length values ≡ length slots → ⊥) → are_slot_values groups slots (map view values) ≡ false
no_values groups slots values other = unequal_lengths groups slots (map view values) (λ same. other (sym (length-map values view) ∙ same))
