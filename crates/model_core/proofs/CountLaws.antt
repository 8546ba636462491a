-- How many components fields have, and the steps of the code that counts them and finds one.
use Rattle.std.proofs.Common.{◌≡◌, ℕ, zero, suc, ◌+◌, ◌*◌, ◌/◌, ◌%◌, ◌^◌, ◌<◌, ◌≤◌, Bool, true, List, [], ◌∷◌, ◌++◌, map, length, replicate, take, drop, get_or, drop-cons, length-append, Some, refl, sym, ap, ap₂, ◌∙◌, arith}
use Rattle.std.specs.Prelude.{slice_get, ◌&&◌}
use Rattle.std.specs.List.{flat_map, list_all, range_with_len}
use Rattle.std.proofs.Math.Nat.{mul-div_cancel_left, div-lt_iff_lt-mul}
use native.Mathlib.Nat.{mul-le-mul, pow-le-pow_right}
use Rattle.std.proofs.lemmas.List.FromFn.{length-range_with_len}
use Rattle.std.proofs.lemmas.List.Folds.{list_all-append}
use Rattle.std.proofs.lemmas.List.Sums.{AllPass-from_list_all}
use Rattle.std.proofs.lemmas.List.{length-map, map-append}
use lib.ListN.{length-replicate}
use Rattle.su_reps.specs.declared.rep.Rep.{Rep}
use Rattle.su_reps.specs.Tuples.{slots}
use Rattle.model_core.specs.declared.group.Group.{Group}
use Rattle.model_core.specs.declared.field.Field.{Field}
use Rattle.model_core.specs.Component.{slot_sizes, tuples, Component, copies_of}
use Rattle.model_core.specs.Place.{tuple_at}
use Rattle.model_core.specs.Groups.{is_between}
use Rattle.model_core.specs.Valid.{is_group, is_field, are_fields}
use Rattle.exact_algebra.specs.Blocks.{length-blocks, block_at, slice_get-append_left, slice_get-append_right}
use Rattle.model_core.proofs.TupleLaws.{slots_few, length-tuples, by_parts, range_at, tuple_at_place}
use Rattle.model_core.proofs.ValidLaws.{both, between, first_passes, field_generations}

-- ---- slots

all_replicate : (test : ℕ → Bool) (n k : ℕ) → test n ≡ true → list_all test (replicate k n) ≡ true
all_replicate test n zero e = refl
all_replicate test n (suc k) e = ap₂ ◌&&◌ e (all_replicate test n k e)

pub slot_sizes-small : (groups : List Group) (reps : List Rep) → list_all is_group groups ≡ true → list_all (is_between 1 6) (slot_sizes groups reps) ≡ true
slot_sizes-small [] reps valid = refl
slot_sizes-small (group ∷ groups) [] valid = refl
slot_sizes-small (group ∷ groups) (rep ∷ reps) valid =
    let parts = first_passes is_group group groups valid in
    list_all-append (is_between 1 6) (replicate (slots rep) group.n) (slot_sizes groups reps)
    ∙ ap₂ ◌&&◌ (all_replicate (is_between 1 6) group.n (slots rep) parts.0) (slot_sizes-small groups reps parts.1)

pub slot_sizes-few : (groups : List Group) (reps : List Rep) → length (slot_sizes groups reps) ≤ 2 * length groups
slot_sizes-few [] reps = omega arith
slot_sizes-few (group ∷ groups) [] = omega arith
slot_sizes-few (group ∷ groups) (rep ∷ reps) =
    omega (arith, length-append (replicate (slots rep) group.n) (slot_sizes groups reps), length-replicate (slots rep) group.n, slots_few rep, slot_sizes-few groups reps)

-- ---- counts

pub length-copies_of : (conj : Bool) (groups : List Group) (field : Field) → length (copies_of conj groups field) ≡ field.generations * length (tuples (slot_sizes groups field.reps))
length-copies_of conj groups field =
    length-blocks (λ g p. record { field = field; conj = conj; generation = g; values = p }) (tuples (slot_sizes groups field.reps)) (range_with_len 1 field.generations)
    ∙ ap (λ k. k * length (tuples (slot_sizes groups field.reps))) (length-range_with_len 1 field.generations)

pub field_bound : (g m l : ℕ) → g ≤ 6 → m ≤ 6 ^ l → l ≤ 8 → g * m ≤ 10077696
field_bound g m l few bound short =
    let power : 6 ^ l ≤ 6 ^ 8 = pow-le-pow_right (omega arith) short in
    let most : m ≤ 1679616 = omega arith in
    mul-le-mul few most

-- each element passes the test
pub passes_at : {A : Type 0} (test : A → Bool) (xs : List A) (i : ℕ) (d : A) → list_all test xs ≡ true → i < length xs → test (get_or xs i d) ≡ true
passes_at test xs i d e h = AllPass-from_list_all test xs e i d h

-- the generations of a valid fermion
pub fermion_generations : (groups : List Group) (fields : List Field) (i : ℕ) (d field : Field) → are_fields groups fields ≡ true → i < length fields → field ≡ get_or fields i d → field.generations ≤ 6
fermion_generations groups fields i d field valid within is =
    let each = (both _ (list_all (is_field groups) fields) valid).1 in
    (field_generations groups field (ap (is_field groups) is ∙ passes_at (is_field groups) fields i d each within)).1

positive_factor : (n m place : ℕ) → place < n * m → 0 < m
positive_factor n zero place h = absurd (omega (arith, h))
positive_factor n (suc m) place h = omega arith

-- ---- the tuple at a place, slot by slot

pub record SlotStep (sizes : List ℕ) (i rest count : ℕ) : Type 0 where
  pub positive : 0 < count / get_or sizes i 0
  pub counted : count / get_or sizes i 0 ≡ length (tuples (drop (i + 1) sizes))
  pub small : rest / (count / get_or sizes i 0) < 6
  pub within : rest % (count / get_or sizes i 0) < count / get_or sizes i 0
  pub next : tuple_at (drop i sizes) rest ≡ (rest / (count / get_or sizes i 0) + 1) ∷ tuple_at (drop (i + 1) sizes) (rest % (count / get_or sizes i 0))

pub slot_step : (sizes : List ℕ) (i rest count : ℕ) → list_all (is_between 1 6) sizes ≡ true → i < length sizes → count ≡ length (tuples (drop i sizes)) → rest < count → SlotStep sizes i rest count
slot_step sizes i rest count small within counted below =
    let n = get_or sizes i 0 in
    let m = length (tuples (drop (i + 1) sizes)) in
    let range = between 1 6 n (passes_at (is_between 1 6) sizes i 0 small within) in
    let later : suc i ≡ i + 1 = omega arith in
    let next : drop i sizes ≡ n ∷ drop (i + 1) sizes = drop-cons sizes i 0 within ∙ ap (λ k. n ∷ drop k sizes) later in
    let product : count ≡ n * m = counted ∙ ap (λ s. length (tuples s)) next ∙ length-tuples n (drop (i + 1) sizes) in
    let quotient : count / n ≡ m = ap (λ k. k / n) product ∙ mul-div_cancel_left m range.0 in
    let inside : rest < n * m = omega (arith, product, below) in
    let positive : 0 < m = positive_factor n m rest inside in
    let digit : rest / m < n = (div-lt_iff_lt-mul {x = rest} {y = n} positive).1 inside in
    record {
      positive = rw quotient positive;
      counted = quotient;
      small = rw quotient (omega (arith, digit, range.1));
      within = rw quotient (omega (arith, positive));
      next = ap (λ s. tuple_at s rest) next ∙ ap (λ k. (rest / k + 1) ∷ tuple_at (drop (i + 1) sizes) (rest % k)) (sym quotient);
    }

-- ---- the component at a place

-- the record of a component of a field
abbrev pub component_of : Bool → Field → ℕ → List ℕ → Component
component_of conj field generation values = record { field = field; conj = conj; generation = generation; values = values }

pub component_at : (conj : Bool) (groups : List Group) (field : Field) (place m : ℕ) → m ≡ length (tuples (slot_sizes groups field.reps)) → place < length (copies_of conj groups field)
    → (place / m < field.generations) × (place % m < m) × (slice_get (copies_of conj groups field) place ≡ Some (record { field = field; conj = conj; generation = place / m + 1; values = tuple_at (slot_sizes groups field.reps) (place % m) }))
component_at conj groups field place m counted within =
    let sizes = slot_sizes groups field.reps in
    let product : length (copies_of conj groups field) ≡ field.generations * m = length-copies_of conj groups field ∙ ap (λ k. field.generations * k) (sym counted) in
    let inside : place < field.generations * m = omega (arith, product, within) in
    let parts = by_parts field.generations m place (positive_factor field.generations m place inside) inside in
    let remainder : place % m < length (tuples sizes) = rw (← counted) parts.1 in
    let whole_place : place / m * length (tuples sizes) + place % m ≡ place = rw (← counted) parts.2 in (
      parts.0,
      parts.1,
      ap (slice_get (copies_of conj groups field)) (sym whole_place)
          ∙ block_at (component_of conj field) (tuples sizes) (range_with_len 1 field.generations) (place / m) (place % m) (place / m + 1) (tuple_at sizes (place % m)) (range_at 1 field.generations (place / m) parts.0) (tuple_at_place sizes (place % m) remainder),
    )

-- the element at a place of one piece among several
pub piece_at : {A B : Type 0} (f : A → List B) (xs : List A) (i j : ℕ) (d : A) (b : B) → i < length xs → slice_get (f (get_or xs i d)) j ≡ Some b
    → slice_get (flat_map f xs) (length (flat_map f (take i xs)) + j) ≡ Some b
piece_at f [] i j d b within found = absurd (omega arith)
piece_at f (x ∷ xs) zero j d b within found =
    let start : 0 + j ≡ j = omega arith in
    ap (slice_get (flat_map f (x ∷ xs))) start ∙ slice_get-append_left (f x) (flat_map f xs) j b found
piece_at f (x ∷ xs) (suc i) j d b within found =
    let before = length (flat_map f (take i xs)) in
    slice_get-append_right (f x) (flat_map f xs) (length (f x ++ flat_map f (take i xs)) + j) (before + j) (omega (arith, length-append (f x) (flat_map f (take i xs))))
    ∙ piece_at f xs i j d b (omega arith) found

map-flat_map : {A B C : Type 0} (g : B → C) (f : A → List B) (xs : List A) → map g (flat_map f xs) ≡ flat_map (λ x. map g (f x)) xs
map-flat_map g f [] = refl
map-flat_map g f (x ∷ xs) = map-append g (f x) (flat_map f xs) ∙ ap (λ ys. map g (f x) ++ ys) (map-flat_map g f xs)

-- the same for the images of elements
pub image_at : {A B C : Type 0} (g : B → C) (f : A → List B) (xs : List A) (i j place : ℕ) (d : A) (c : C) → i < length xs → place ≡ length (flat_map f (take i xs)) + j → slice_get (map g (f (get_or xs i d))) j ≡ Some c
    → slice_get (map g (flat_map f xs)) place ≡ Some c
image_at g f xs i j place d c within is found =
    let lengths : length (flat_map (λ x. map g (f x)) (take i xs)) ≡ length (flat_map f (take i xs)) = ap length (sym (map-flat_map g f (take i xs))) ∙ length-map (flat_map f (take i xs)) g in
    ap (λ ys. slice_get ys place) (map-flat_map g f xs)
    ∙ ap (slice_get (flat_map (λ x. map g (f x)) xs)) (is ∙ ap (λ k. k + j) (sym lengths))
    ∙ piece_at (λ x. map g (f x)) xs i j d c within found
