-- What the values at the keys of a table without a bad place are: names, texts in LaTeX, the profile.
use Rattle.std.proofs.Common.{◌≡◌, ℕ, suc, ◌≤◌, Bool, true, false, cond, List, [], ◌∷◌, ◌++◌, map, length, Option, Some, None, pos, negsuc, refl, ap, ◌∙◌, arith}
use Rattle.std.specs.Prelude.{◌&&◌, ◌||◌, ◌==◌, not, nat_le}
use Rattle.std.specs.List.{list_all, list_any, flat_map}
use Rattle.std.specs.Char.{is_ascii_alphabetic, is_ascii_alphanumeric}
use Rattle.std.specs.Int.{is_in_range}
use Rattle.std.specs.Str.{bytes_eq}
use Rattle.std.proofs.lemmas.Bool.{le-leb}
use Rattle.std.proofs.lemmas.Bool.Decides.{nat_tests}
use Rattle.std.proofs.lemmas.List.Folds.{list_all-append}
use Rattle.toml.specs.Data.{Data, string, integer, float, boolean, datetime, array, table, Members, get_member}
use Rattle.model_core.specs.declared.fault.FaultPlace.{FaultPlace}
use Rattle.model_core.specs.declared.fault.ReadFault.{ReadFault}
use Rattle.model_core.specs.declared.fault.ReadKind.TheVariants.{BadName, BadNumber, RepeatedName}
use Rattle.model_core.specs.Fault.{fault, bad_where, key_place}
use Rattle.model_core.specs.Groups.{is_between}
use Rattle.model_core.specs.Name.{is_word_byte, is_word, is_reserved, is_name, is_latex_byte, is_latex}
use Rattle.model_core.specs.Document.{text_of, number_of, value_or}
use Rattle.model_core.specs.Walk.{Key, required, optional, next_key, unknown_places, missing_place, missing_places, found_places, value_places, key_places, table_places, places_after, integer_places, name_places, latex_places}
use Rattle.model_core.proofs.BoolLaws.{both_hold}
use Rattle.model_core.proofs.ValidLaws.{both, between}
use Rattle.model_reader.proofs.SlotLaws.{none_bad, none_before}

-- ---- lists

-- what each element stands for passes, where it has no bad place after the earlier ones
pub each_after : {A B : Type 0} (places : List A → B → List ReadFault) (meaning : B → A) (test : A → Bool) → ((earlier : List A) (x : B) → places earlier x ≡ [] → test (meaning x) ≡ true)
    → (earlier : List A) (xs : List B) → places_after places meaning earlier xs ≡ [] → list_all test (map meaning xs) ≡ true
each_after places meaning test passes earlier [] none = refl
each_after places meaning test passes earlier (x ∷ xs) none =
    let parts = none_before (places earlier x) (places_after places meaning (earlier ++ meaning x ∷ []) xs) none in
    both_hold (test (meaning x)) (list_all test (map meaning xs)) (passes earlier x parts.0) (each_after places meaning test passes (earlier ++ meaning x ∷ []) xs parts.1)

-- what each element stands for passes
pub each_mapped : {A B : Type 0} (meaning : B → A) (test : A → Bool) → ((x : B) → test (meaning x) ≡ true) → (xs : List B) → list_all test (map meaning xs) ≡ true
each_mapped meaning test passes [] = refl
each_mapped meaning test passes (x ∷ xs) = both_hold (test (meaning x)) (list_all test (map meaning xs)) (passes x) (each_mapped meaning test passes xs)

pub all_appended : {A : Type 0} (test : A → Bool) (xs ys : List A) → list_all test xs ≡ true → list_all test ys ≡ true → list_all test (xs ++ ys) ≡ true
all_appended test xs ys first second = list_all-append test xs ys ∙ both_hold (list_all test xs) (list_all test ys) first second

pub all_flat : {A B : Type 0} (test : B → Bool) (parts : A → List B) (xs : List A) → list_all (λ x. list_all test (parts x)) xs ≡ true → list_all test (flat_map parts xs) ≡ true
all_flat test parts [] all = refl
all_flat test parts (x ∷ xs) all =
    let each = both (list_all test (parts x)) (list_all (λ y. list_all test (parts y)) xs) all in
    all_appended test (parts x) (flat_map parts xs) each.0 (all_flat test parts xs each.1)

-- ---- keys

-- no bad place at some keys
abbrev pub AreGood : FaultPlace → List Key → Members → Type 0
AreGood place keys members = (missing_places place keys members ≡ []) × (value_places place keys members ≡ [])

pub keys_good : (place : FaultPlace) (keys : List Key) (members : Members) → table_places place keys members ≡ [] → AreGood (key_place place 1) keys members
keys_good place keys members none =
    let parts = none_before (key_places place keys members) (value_places (key_place place 1) keys members) none in
    let missing = none_before (unknown_places (map (λ (key : Key). key.name) keys) place members) (missing_places (key_place place 1) keys members) parts.0 in
    (missing.1, parts.1)

pub later_good : (place : FaultPlace) (key : Key) (keys : List Key) (members : Members) → AreGood place (key ∷ keys) members → AreGood (next_key place) keys members
later_good place key keys members good =
    let missing = none_before (cond key.is_required (missing_place place (get_member key.name members)) []) (missing_places (next_key place) keys members) good.0 in
    let values = none_before (found_places (key.rule place) (get_member key.name members)) (value_places (next_key place) keys members) good.1 in
    (missing.1, values.1)

-- what a key gives passes
with_value : {A : Type 0} (rule : Data → List ReadFault) (meaning : Data → A) (default : A) (test : A → Bool) (place : FaultPlace) → ((value : Data) → rule value ≡ [] → test (meaning value) ≡ true)
    → (found : Option Data) → missing_place place found ≡ [] → found_places rule found ≡ [] → test (value_or meaning default found) ≡ true
with_value rule meaning default test place passes None there none = let never : ⊥ = cc in absurd never
with_value rule meaning default test place passes (Some value) there none = passes value none

pub required_passes : {A : Type 0} (place : FaultPlace) (name : List ℕ) (rule : FaultPlace → Data → List ReadFault) (keys : List Key) (members : Members) (meaning : Data → A) (default : A) (test : A → Bool)
    → ((value : Data) → rule place value ≡ [] → test (meaning value) ≡ true) → AreGood place (required name rule ∷ keys) members → test (value_or meaning default (get_member name members)) ≡ true
required_passes place name rule keys members meaning default test passes good =
    let missing = none_before (missing_place place (get_member name members)) (missing_places (next_key place) keys members) good.0 in
    let values = none_before (found_places (rule place) (get_member name members)) (value_places (next_key place) keys members) good.1 in
    with_value (rule place) meaning default test place passes (get_member name members) missing.0 values.0

with_default : {A : Type 0} (rule : Data → List ReadFault) (meaning : Data → A) (default : A) (test : A → Bool) → ((value : Data) → rule value ≡ [] → test (meaning value) ≡ true)
    → test default ≡ true → (found : Option Data) → found_places rule found ≡ [] → test (value_or meaning default found) ≡ true
with_default rule meaning default test passes other None none = other
with_default rule meaning default test passes other (Some value) none = passes value none

pub optional_passes : {A : Type 0} (place : FaultPlace) (name : List ℕ) (rule : FaultPlace → Data → List ReadFault) (keys : List Key) (members : Members) (meaning : Data → A) (default : A) (test : A → Bool)
    → ((value : Data) → rule place value ≡ [] → test (meaning value) ≡ true) → test default ≡ true → AreGood place (optional name rule ∷ keys) members → test (value_or meaning default (get_member name members)) ≡ true
optional_passes place name rule keys members meaning default test passes other good =
    let values = none_before (found_places (rule place) (get_member name members)) (value_places (next_key place) keys members) good.1 in
    with_default (rule place) meaning default test passes other (get_member name members) values.0

-- what a key gives passes, whatever stands there
pub always_passes : {A : Type 0} (meaning : Data → A) (default : A) (test : A → Bool) → ((value : Data) → test (meaning value) ≡ true) → test default ≡ true
    → (found : Option Data) → test (value_or meaning default found) ≡ true
always_passes meaning default test passes other None = other
always_passes meaning default test passes other (Some value) = passes value

-- ---- the profile

one_alone : (n : ℕ) → is_between 1 1 n ≡ true → (n == 1) ≡ true
one_alone n inside = let range = between 1 1 n inside in grind (arith, nat_tests, range)

pub profile_is_one : (place : FaultPlace) (value : Data) → integer_places 1 1 BadNumber place value ≡ [] → (number_of value == 1) ≡ true
profile_is_one place (integer (pos n)) none = one_alone n (none_bad (is_between 1 1 n) place BadNumber none)
profile_is_one place (integer (negsuc n)) none = let never : ⊥ = cc in absurd never
profile_is_one place (string text) none = let never : ⊥ = cc in absurd never
profile_is_one place (float x) none = let never : ⊥ = cc in absurd never
profile_is_one place (boolean b) none = let never : ⊥ = cc in absurd never
profile_is_one place (datetime when) none = let never : ⊥ = cc in absurd never
profile_is_one place (array items) none = let never : ⊥ = cc in absurd never
profile_is_one place (table pairs) none = let never : ⊥ = cc in absurd never

-- ---- names

name_unless : (good : Bool) (place : FaultPlace) (repeated : Bool) → cond (not good) (fault place BadName ∷ []) (bad_where repeated place RepeatedName) ≡ [] → good ≡ true
name_unless true place repeated none = refl
name_unless false place repeated none = let never : ⊥ = cc in absurd never

pub name_is_one : (earlier : List (List ℕ)) (place : FaultPlace) (value : Data) → name_places earlier place value ≡ [] → is_name (text_of value) ≡ true
name_is_one earlier place (string text) none = name_unless (is_name text) place (list_any (bytes_eq text) earlier) none
name_is_one earlier place (integer n) none = let never : ⊥ = cc in absurd never
name_is_one earlier place (float x) none = let never : ⊥ = cc in absurd never
name_is_one earlier place (boolean b) none = let never : ⊥ = cc in absurd never
name_is_one earlier place (datetime when) none = let never : ⊥ = cc in absurd never
name_is_one earlier place (array items) none = let never : ⊥ = cc in absurd never
name_is_one earlier place (table pairs) none = let never : ⊥ = cc in absurd never

-- ---- texts in LaTeX

pub latex_is_one : (place : FaultPlace) (value : Data) → latex_places place value ≡ [] → is_latex (text_of value) ≡ true
latex_is_one place (string text) none = none_bad (is_latex text) place BadName none
latex_is_one place (integer n) none = let never : ⊥ = cc in absurd never
latex_is_one place (float x) none = let never : ⊥ = cc in absurd never
latex_is_one place (boolean b) none = let never : ⊥ = cc in absurd never
latex_is_one place (datetime when) none = let never : ⊥ = cc in absurd never
latex_is_one place (array items) none = let never : ⊥ = cc in absurd never
latex_is_one place (table pairs) none = let never : ⊥ = cc in absurd never

printed : (low high c : ℕ) → 32 ≤ low → high ≤ 126 → is_in_range low high c ≡ true → is_latex_byte c ≡ true
printed low high c first last inside =
    let range = between low high c inside in
    both_hold (nat_le 32 c) (nat_le c 126) (le-leb 32 c (omega (arith, range.0))) (le-leb c 126 (omega (arith, range.1)))

either : {A : Type 0} (a b : Bool) → (a ≡ true → A) → (b ≡ true → A) → (a || b) ≡ true → A
either true b first second one = first refl
either false b first second one = second one

letter_printed : (c : ℕ) → is_ascii_alphabetic c ≡ true → is_latex_byte c ≡ true
letter_printed c = either (is_in_range 65 90 c) (is_in_range 97 122 c) (printed 65 90 c (omega arith) (omega arith)) (printed 97 122 c (omega arith) (omega arith))

underscore_printed : (c : ℕ) → (c == 95) ≡ true → is_latex_byte c ≡ true
underscore_printed c same =
    let is : c ≡ 95 = grind (arith, nat_tests) in
    ap is_latex_byte is

word_byte_printed : (c : ℕ) → is_word_byte c ≡ true → is_latex_byte c ≡ true
word_byte_printed c =
    either (is_ascii_alphanumeric c) (c == 95)
    (either (is_in_range 48 57 c || is_in_range 65 90 c) (is_in_range 97 122 c)
    (either (is_in_range 48 57 c) (is_in_range 65 90 c) (printed 48 57 c (omega arith) (omega arith)) (printed 65 90 c (omega arith) (omega arith)))
    (printed 97 122 c (omega arith) (omega arith)))
    (underscore_printed c)

bytes_printed : (text : List ℕ) → list_all is_word_byte text ≡ true → list_all is_latex_byte text ≡ true
bytes_printed [] all = refl
bytes_printed (c ∷ text) all =
    let parts = both (is_word_byte c) (list_all is_word_byte text) all in
    both_hold (is_latex_byte c) (list_all is_latex_byte text) (word_byte_printed c parts.0) (bytes_printed text parts.1)

short_enough : (count : ℕ) → nat_le (suc count) 24 ≡ true → (nat_le 1 (suc count) && nat_le (suc count) 40) ≡ true
short_enough count short =
    let few : suc count ≤ 24 = grind (arith, nat_tests) in
    both_hold (nat_le 1 (suc count)) (nat_le (suc count) 40) (le-leb 1 (suc count) (omega arith)) (le-leb (suc count) 40 (omega (arith, few)))

-- a name is a text in LaTeX
pub name_is_latex : (text : List ℕ) → is_name text ≡ true → is_latex text ≡ true
name_is_latex [] is = let never : ⊥ = cc in absurd never
name_is_latex (c ∷ text) is =
    let parts = both (is_word (c ∷ text)) (nat_le (length (c ∷ text)) 24) (both (is_word (c ∷ text) && nat_le (length (c ∷ text)) 24) (not (is_reserved (c ∷ text))) is).0 in
    let letters = both (is_ascii_alphabetic c) (list_all is_word_byte text) parts.0 in
    both_hold (nat_le 1 (length (c ∷ text)) && nat_le (length (c ∷ text)) 40) (list_all is_latex_byte (c ∷ text)) (short_enough (length text) parts.1)
    (both_hold (is_latex_byte c) (list_all is_latex_byte text) (letter_printed c letters.0) (bytes_printed text letters.1))
