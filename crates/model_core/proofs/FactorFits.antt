-- Written factors without a bad place are factors as a monomial may have them.
use Rattle.std.proofs.Common.{◌≡◌, ℕ, zero, suc, ◌≤◌, ◌+◌, Bool, true, false, cond, List, [], ◌∷◌, ◌++◌, length, map, refl, sym, ap, ap₂, ◌∙◌, arith, Option, Some, None}
use Rattle.std.specs.Prelude.{◌&&◌, not, nat_le, ◌==◌, is_some, position, slice_get, option_map, nat_lt, codes}
use Rattle.std.specs.List.{list_all, count_by, flat_map}
use Rattle.std.specs.Str.Parse.{digits_value}
use Rattle.std.proofs.lemmas.Bool.Decides.{nat_tests}
use Rattle.std.proofs.lemmas.Option.{slice_get-get_or}
use Rattle.std.proofs.lemmas.List.{length-map}
use Rattle.std.proofs.lemmas.List.Sums.{sum_by-cons}
use Rattle.std.proofs.lemmas.List.Quantifiers.{position-Some}
use Rattle.std.specs.Str.{bytes_eq}
use Rattle.model_core.proofs.ValidLaws.{first_passes, parts_fields, parts_scalar_fields, field_generations}
use Rattle.model_core.specs.declared.field.Field.{Field}
use Rattle.model_core.specs.declared.table.Table.{Table}
use Rattle.model_core.specs.declared.group.Group.{Group}
use Rattle.model_core.specs.declared.model.Model.{Model}
use Rattle.model_core.specs.declared.fault.ReadFault.{ReadFault}
use Rattle.model_core.specs.declared.fault.ReadKind.{ReadKind}
use Rattle.model_core.specs.declared.fault.ReadKind.TheVariants.{WrongSlots, WrongContent}
use Rattle.model_core.specs.declared.fault.FaultPlace.{FaultPlace}
use Rattle.model_core.specs.declared.sum.Span.{Span}
use Rattle.model_core.specs.declared.sum.Index.{Index}
use Rattle.model_core.specs.declared.sum.Index.TheVariants as index
use Rattle.model_core.specs.declared.sum.Bracket.{Bracket}
use Rattle.model_core.specs.declared.sum.WrittenFactor.{WrittenFactor}
use Rattle.model_core.specs.declared.sum.WrittenMonomial.{WrittenMonomial}
use Rattle.model_core.specs.declared.referent.Referent.{Referent}
use Rattle.model_core.specs.declared.referent.Referent.TheVariants as referent
use Rattle.model_core.specs.declared.term.Generation.{Generation}
use Rattle.model_core.specs.declared.term.Generation.TheVariants.{Row, Column}
use Rattle.model_core.specs.Groups.{is_between}
use Rattle.model_core.specs.Fault.{over, offset_place, bad_where, over_limit}
use Rattle.model_core.specs.Content.{is_real}
use Rattle.model_core.specs.TermText.{bytes_at}
use Rattle.model_core.specs.Factors.{is_factor, is_tensor, are_factors, fits_field, fits_table, is_generation_of, rep_slots, slots_of_field, slots_of_table}
use Rattle.model_core.specs.Literal.{are_digits, within, number_between}
use Rattle.model_core.specs.TermMeaning.{or_else, field_has_name, table_has_name, is_first, label_number, generation_of_index, referent_of, referent_at, factor_named, factor_of, generation_in, label_numbers, labels_of_monomial, monomial_of}
use Rattle.model_core.specs.TermWalk.{is_tensor_name, names_tensor, has_conjugate, generations_in, referent_size, fits_index, fits_generations, fits_slots, tensor_count_places, count_places, referent_places, factor_places, monomial_places, monomials_places, literal_places}
use Rattle.model_core.specs.Valid.{has_valid_parts, is_field}

-- ---- what no bad place says

-- no place is bad where a condition holds
none_where : (condition : Bool) (place : FaultPlace) (kind : ReadKind) (others : List ReadFault) → bad_where condition place kind ++ others ≡ [] → (condition ≡ false) × (others ≡ [])
none_where true place kind others none = let never : ⊥ = cc in absurd never
none_where false place kind others none = (refl, none)

split_none : (xs ys : List ReadFault) → xs ++ ys ≡ [] → (xs ≡ []) × (ys ≡ [])
split_none [] ys none = (refl, none)
split_none (x ∷ xs) ys none = let never : ⊥ = cc in absurd never

-- what is named is a factor without a bad place
record Fits (model : Model) (flavour : List (List ℕ)) (text : List ℕ) (factor : WrittenFactor) (named : Referent) : Type 0 where
  conjugate : (is_some factor.tilde && not (has_conjugate model named)) ≡ false
  generation : not (fits_generations text (referent_size model named) factor.bracket) ≡ false
  slots : not (fits_slots model named (length factor.labels)) ≡ false

fits_of : (model : Model) (flavour : List (List ℕ)) (text : List ℕ) (place : FaultPlace) (factor : WrittenFactor) (named : Referent)
    → referent_places model flavour text place factor (Some named) ≡ [] → Fits model flavour text factor named
fits_of model flavour text place factor named none =
    let first = none_where (is_some factor.tilde && not (has_conjugate model named)) place WrongContent _ none in
    let second = none_where (not (fits_generations text (referent_size model named) factor.bracket)) place WrongSlots _ first.1 in
    let third = none_where (not (fits_slots model named (length factor.labels))) place WrongSlots _ second.1 in
    record { conjugate = first.0; generation = second.0; slots = third.0 }

not_false : (a : Bool) → not a ≡ false → a ≡ true
not_false true e = refl
not_false false e = let never : ⊥ = cc in absurd never

-- ---- names are in the model

-- a place that was found holds an element
at_place : {A : Type 0} (test : A → Bool) (xs : List A) (place : ℕ) → position test xs ≡ Some place → is_some (slice_get xs place) ≡ true
at_place test [] place found = let never : ⊥ = cc in absurd never
at_place test (x ∷ xs) place found =
    let first = position-Some test (x ∷ xs) place x found in
    ap is_some (slice_get-get_or (x ∷ xs) place x first.0)

abbrev in_model : Model → Referent → Bool
in_model model (referent.Fermion place) = is_some (slice_get model.fermions place)
in_model model (referent.Scalar place) = is_some (slice_get model.scalars place)
in_model model referent.Eps = true
in_model model (referent.Table place) = is_some (slice_get model.tables place)

abbrev if_in_model : Model → Option Referent → Bool
if_in_model model None = true
if_in_model model (Some named) = in_model model named

in_fermions : (model : Model) (found : Option ℕ) → ((place : ℕ) → found ≡ Some place → is_some (slice_get model.fermions place) ≡ true) → if_in_model model (option_map referent.Fermion found) ≡ true
in_fermions model None at = refl
in_fermions model (Some place) at = at place refl

in_scalars : (model : Model) (found : Option ℕ) → ((place : ℕ) → found ≡ Some place → is_some (slice_get model.scalars place) ≡ true) → if_in_model model (option_map referent.Scalar found) ≡ true
in_scalars model None at = refl
in_scalars model (Some place) at = at place refl

in_tables : (model : Model) (found : Option ℕ) → ((place : ℕ) → found ≡ Some place → is_some (slice_get model.tables place) ≡ true) → if_in_model model (option_map referent.Table found) ≡ true
in_tables model None at = refl
in_tables model (Some place) at = at place refl

either_in : (model : Model) (first second : Option Referent) → if_in_model model first ≡ true → if_in_model model second ≡ true → if_in_model model (or_else first second) ≡ true
either_in model None second one two = two
either_in model (Some named) second one two = one

if_then_in : (model : Model) (test : Bool) (other : Option Referent) → if_in_model model other ≡ true → if_in_model model (cond test (Some referent.Eps) other) ≡ true
if_then_in model true other is = refl
if_then_in model false other is = is

-- what a word names is in the model
named_in_model : (model : Model) (word : List ℕ) → if_in_model model (referent_of model word) ≡ true
unfolding referent_of
named_in_model model word =
    if_then_in model (bytes_eq word (codes "eps")) _
    (either_in model (option_map referent.Fermion (position (field_has_name word) model.fermions)) _
    (in_fermions model (position (field_has_name word) model.fermions) (at_place (field_has_name word) model.fermions))
    (either_in model (option_map referent.Scalar (position (field_has_name word) model.scalars)) _
    (in_scalars model (position (field_has_name word) model.scalars) (at_place (field_has_name word) model.scalars))
    (in_tables model (position (table_has_name word) model.tables) (at_place (table_has_name word) model.tables))))

-- ---- generations

number_fits : (digits : Bool) (low high n : ℕ) → is_some (cond digits (within low high n) None) ≡ true → is_between low high n ≡ true
number_fits true low high n found = by_test (is_between low high n) found
  where
    by_test : (test : Bool) → is_some (cond test (Some n) None) ≡ true → test ≡ true
    by_test true found = refl
    by_test false found = found
number_fits false low high n found = let never : ⊥ = cc in absurd never

digits_fit : (low high : ℕ) (text : List ℕ) → is_some (number_between low high text) ≡ true → is_between low high (digits_value 10 text) ≡ true
unfolding number_between
digits_fit low high text found = number_fits (are_digits text) low high (digits_value 10 text) found

row_or_column : (field : Field) (test : Bool) → is_generation_of field (cond test Row Column) ≡ true
row_or_column field true = refl
row_or_column field false = refl

generation_fits : (flavour : List (List ℕ)) (text : List ℕ) (bracket : Option Bracket) (field : Field) → 1 ≤ field.generations → fits_generations text field.generations bracket ≡ true
    → is_generation_of field (generation_in flavour text bracket) ≡ true
generation_fits flavour text None field some fits =
    let low : nat_le 1 1 ≡ true = grind (arith, nat_tests) in
    let high : nat_le 1 field.generations ≡ true = grind (arith, nat_tests) in
    ap₂ ◌&&◌ low high
generation_fits flavour text (Some bracket) field some fits = by_index bracket.index fits
  where
    by_index : (i : Index) → fits_index text field.generations i ≡ true → is_generation_of field (generation_of_index flavour text i) ≡ true
    by_index (index.Word word) fits = row_or_column field (is_first (position (bytes_eq (bytes_at text word)) flavour))
    by_index (index.Digits digits) fits = digits_fit 1 field.generations (bytes_at text digits) fits

-- ---- factors

three : (a b c : Bool) → a ≡ true → b ≡ true → c ≡ false → ((a && b) && not c) ≡ true
three true true false one two last = refl
three true true true one two last = let never : ⊥ = cc in absurd never
three true false c one two last = let never : ⊥ = cc in absurd never
three false b c one two last = let never : ⊥ = cc in absurd never

not_both : (conj real : Bool) → (conj && not (not real)) ≡ false → (conj && real) ≡ false
not_both true true e = e
not_both true false e = refl
not_both false real e = refl

-- a field in the model, whose slots and generation fit
field_fits : (found : Option Field) (flavour : List (List ℕ)) (text : List ℕ) (bracket : Option Bracket) (conj : Bool) (written : List Span) (labels : List ℕ)
    → is_some found ≡ true → ((field : Field) → found ≡ Some field → 1 ≤ field.generations) → length labels ≡ length written → (conj && is_real found) ≡ false
    → fits_generations text (generations_in found) bracket ≡ true → (length written == length (slots_of_field found)) ≡ true
    → fits_field found conj (generation_in flavour text bracket) labels ≡ true
field_fits None flavour text bracket conj written labels here some same real generation slots = let never : ⊥ = cc in absurd never
field_fits (Some field) flavour text bracket conj written labels here some same real generation slots =
    three (is_generation_of field (generation_in flavour text bracket)) (length labels == length (rep_slots 0 field.reps)) (conj && field.real)
    (generation_fits flavour text bracket field (some field refl) generation) (ap (λ count. count == length (rep_slots 0 field.reps)) same ∙ slots) real

table_fits : (found : Option Table) (written : List Span) (labels : List ℕ) → is_some found ≡ true → length labels ≡ length written
    → (length written == length (slots_of_table found)) ≡ true → fits_table found labels ≡ true
table_fits None written labels here same slots = let never : ⊥ = cc in absurd never
table_fits (Some table) written labels here same slots = ap (λ count. count == length table.slots) same ∙ slots

passes_where : {A : Type 0} (test : A → Bool) (xs : List A) (place : ℕ) (x : A) → list_all test xs ≡ true → slice_get xs place ≡ Some x → test x ≡ true
passes_where test [] place x all at = let never : ⊥ = cc in absurd never
passes_where test (first ∷ xs) zero x all at =
    let same : first ≡ x = cc in
    ap test (sym same) ∙ (first_passes test first xs all).0
passes_where test (first ∷ xs) (suc place) x all at = passes_where test xs place x (first_passes test first xs all).1 at

generations_at : (groups : List Group) (fields : List Field) (place : ℕ) → list_all (is_field groups) fields ≡ true → (field : Field) → slice_get fields place ≡ Some field → 1 ≤ field.generations
generations_at groups fields place valid field at = (field_generations groups field (passes_where (is_field groups) fields place field valid at)).0

named_fits : (model : Model) (flavour : List (List ℕ)) (text : List ℕ) (factor : WrittenFactor) (labels : List ℕ) (named : Referent) → has_valid_parts model ≡ true
    → in_model model named ≡ true → length labels ≡ length factor.labels → Fits model flavour text factor named
    → is_factor model (factor_named (Some named) (is_some factor.tilde) (generation_in flavour text factor.bracket) labels) ≡ true
named_fits model flavour text factor labels (referent.Fermion place) valid here same fits =
    field_fits (slice_get model.fermions place) flavour text factor.bracket false factor.labels labels here
    (generations_at model.groups model.fermions place (parts_fields model valid)) same refl (not_false _ fits.generation) (not_false _ fits.slots)
named_fits model flavour text factor labels (referent.Scalar place) valid here same fits =
    field_fits (slice_get model.scalars place) flavour text factor.bracket (is_some factor.tilde) factor.labels labels here
    (generations_at model.groups model.scalars place (parts_scalar_fields model valid)) same (not_both (is_some factor.tilde) (is_real (slice_get model.scalars place)) fits.conjugate)
    (not_false _ fits.generation) (not_false _ fits.slots)
named_fits model flavour text factor labels referent.Eps valid here same fits = ap (is_between 2 6) same ∙ not_false _ fits.slots
named_fits model flavour text factor labels (referent.Table place) valid here same fits =
    table_fits (slice_get model.tables place) factor.labels labels here same (not_false _ fits.slots)

-- whatever the word names
factor_named_fits : (model : Model) (flavour : List (List ℕ)) (text : List ℕ) (place : FaultPlace) (factor : WrittenFactor) (labels : List ℕ) (found : Option Referent) → has_valid_parts model ≡ true
    → if_in_model model found ≡ true → length labels ≡ length factor.labels → referent_places model flavour text place factor found ≡ []
    → is_factor model (factor_named found (is_some factor.tilde) (generation_in flavour text factor.bracket) labels) ≡ true
factor_named_fits model flavour text place factor labels None valid here same none = let never : ⊥ = cc in absurd never
factor_named_fits model flavour text place factor labels (Some named) valid here same none =
    named_fits model flavour text factor labels named valid here same (fits_of model flavour text place factor named none)

factor_fits : (model : Model) (flavour : List (List ℕ)) (text : List ℕ) (place : FaultPlace) (labels : List Span) (factor : WrittenFactor) → has_valid_parts model ≡ true
    → factor_places model flavour text place factor ≡ [] → is_factor model (factor_of model flavour text labels factor) ≡ true
unfolding factor_places
factor_fits model flavour text place labels factor valid none =
    factor_named_fits model flavour text (offset_place place factor.word.start) factor (label_numbers text labels factor) (referent_at model text factor) valid
    (named_in_model model (bytes_at text factor.word)) (length-map factor.labels (label_number text labels)) none

tensor_named : (model : Model) (flavour : List (List ℕ)) (text : List ℕ) (place : FaultPlace) (factor : WrittenFactor) (found : Option Referent) (conj : Bool) (generation : Generation) (labels : List ℕ)
    → referent_places model flavour text place factor found ≡ [] → is_tensor (factor_named found conj generation labels) ≡ is_tensor_name found
tensor_named model flavour text place factor None conj generation labels none = let never : ⊥ = cc in absurd never
tensor_named model flavour text place factor (Some (referent.Fermion field)) conj generation labels none = refl
tensor_named model flavour text place factor (Some (referent.Scalar field)) conj generation labels none = refl
tensor_named model flavour text place factor (Some referent.Eps) conj generation labels none = refl
tensor_named model flavour text place factor (Some (referent.Table table)) conj generation labels none = refl

factor_tensor : (model : Model) (flavour : List (List ℕ)) (text : List ℕ) (place : FaultPlace) (labels : List Span) (factor : WrittenFactor)
    → factor_places model flavour text place factor ≡ [] → is_tensor (factor_of model flavour text labels factor) ≡ names_tensor model text factor
unfolding factor_places
factor_tensor model flavour text place labels factor none =
    tensor_named model flavour text (offset_place place factor.word.start) factor (referent_at model text factor) _ _ _ none

-- ---- monomials

factors_fit : (model : Model) (flavour : List (List ℕ)) (text : List ℕ) (place : FaultPlace) (labels : List Span) (factors : List WrittenFactor) → has_valid_parts model ≡ true
    → flat_map (factor_places model flavour text place) factors ≡ [] → list_all (is_factor model) (map (factor_of model flavour text labels) factors) ≡ true
factors_fit model flavour text place labels [] valid none = refl
factors_fit model flavour text place labels (factor ∷ factors) valid none =
    let parts = split_none (factor_places model flavour text place factor) (flat_map (factor_places model flavour text place) factors) none in
    ap₂ ◌&&◌ (factor_fits model flavour text place labels factor valid parts.0) (factors_fit model flavour text place labels factors valid parts.1)

factors_tensors : (model : Model) (flavour : List (List ℕ)) (text : List ℕ) (place : FaultPlace) (labels : List Span) (factors : List WrittenFactor)
    → flat_map (factor_places model flavour text place) factors ≡ [] → count_by is_tensor (map (factor_of model flavour text labels) factors) ≡ count_by (names_tensor model text) factors
factors_tensors model flavour text place labels [] none = refl
factors_tensors model flavour text place labels (factor ∷ factors) none =
    let parts = split_none (factor_places model flavour text place factor) (flat_map (factor_places model flavour text place) factors) none in
    sum_by-cons (λ x. cond (is_tensor x) 1 0) (factor_of model flavour text labels factor) (map (factor_of model flavour text labels) factors)
    ∙ ap₂ (λ test count. cond test 1 0 + count) (factor_tensor model flavour text place labels factor parts.0) (factors_tensors model flavour text place labels factors parts.1)
    ∙ sym (sum_by-cons (λ x. cond (names_tensor model text x) 1 0) factor factors)

monomial_fits : (model : Model) (flavour : List (List ℕ)) (text : List ℕ) (place : FaultPlace) (monomial : WrittenMonomial) → has_valid_parts model ≡ true
    → monomial_places model flavour text place monomial ≡ [] → list_all (is_factor model) (monomial_of model flavour text monomial).factors ≡ true
unfolding monomial_places monomial_of
monomial_fits model flavour text place monomial valid none =
    factors_fit model flavour text place (labels_of_monomial text monomial) monomial.factors valid (split_none (literal_places text place monomial.literal) _ none).1

pub monomial_tensors : (model : Model) (flavour : List (List ℕ)) (text : List ℕ) (place : FaultPlace) (monomial : WrittenMonomial)
    → monomial_places model flavour text place monomial ≡ [] → count_by is_tensor (monomial_of model flavour text monomial).factors ≡ count_by (names_tensor model text) monomial.factors
unfolding monomial_places monomial_of
monomial_tensors model flavour text place monomial none =
    factors_tensors model flavour text place (labels_of_monomial text monomial) monomial.factors (split_none (literal_places text place monomial.literal) _ none).1

-- ---- with the limits of counts

within_limit : (count : ℕ) (place : FaultPlace) → over_limit 4 count place ≡ [] → nat_le count 4 ≡ true
within_limit count place none = by_test (nat_lt 4 count) refl none
  where
    by_test : (test : Bool) → nat_lt 4 count ≡ test → cond test (over place count ∷ []) [] ≡ [] → nat_le count 4 ≡ true
    by_test true is none = let never : ⊥ = cc in absurd never
    by_test false is none = grind (arith, nat_tests)

all_are_factors : (model : Model) (flavour : List (List ℕ)) (text : List ℕ) (place : FaultPlace) (sum : List WrittenMonomial) → has_valid_parts model ≡ true
    → flat_map (tensor_count_places model text place) sum ≡ [] → flat_map (monomial_places model flavour text place) sum ≡ []
    → list_all (λ m. are_factors model m.factors) (map (monomial_of model flavour text) sum) ≡ true
all_are_factors model flavour text place [] valid few none = refl
all_are_factors model flavour text place (monomial ∷ sum) valid few none =
    let parts = split_none (monomial_places model flavour text place monomial) (flat_map (monomial_places model flavour text place) sum) none in
    let counts = split_none (tensor_count_places model text place monomial) (flat_map (tensor_count_places model text place) sum) few in
    let count = ap (λ n. nat_le n 4) (monomial_tensors model flavour text place monomial parts.0) ∙ within_limit (count_by (names_tensor model text) monomial.factors) place counts.0 in
    ap₂ ◌&&◌ (ap₂ ◌&&◌ (monomial_fits model flavour text place monomial valid parts.0) count) (all_are_factors model flavour text place sum valid counts.1 parts.1)

-- where the counts are within their limits too, they are factors as a monomial may have them
pub monomials_are_factors : (model : Model) (flavour : List (List ℕ)) (text : List ℕ) (place : FaultPlace) (sum : List WrittenMonomial) → has_valid_parts model ≡ true
    → count_places model text place sum ≡ [] → monomials_places model flavour text place sum ≡ []
    → list_all (λ m. are_factors model m.factors) (map (monomial_of model flavour text) sum) ≡ true
unfolding count_places monomials_places
monomials_are_factors model flavour text place sum valid few none =
    all_are_factors model flavour text place sum valid (split_none (over_limit 16 (length sum) place) _ few).1 none
