-- The partners of a scalar's coordinates, by their places.
use Rattle.std.proofs.Common.{◌≡◌, ℕ, ◌+◌, ◌-◌, ◌*◌, ◌/◌, ◌%◌, ◌<◌, ◌≤◌, Bool, true, false, cond, List, [], ◌∷◌, ◌++◌, map, take, get_or, length, Some, refl, sym, ap, ap₂, ◌∙◌, arith}
use Rattle.std.specs.Prelude.{slice_get, not, option_map}
use Rattle.exact_algebra.specs.Blocks.{slice_get-append_left, slice_get-append_right, slice_get-map_some}
use Rattle.model_core.specs.declared.group.Group.{Group}
use Rattle.model_core.specs.declared.field.Field.{Field}
use Rattle.model_core.specs.Component.{Component, slot_sizes, tuples, copies_of}
use Rattle.model_core.specs.Place.{tuple_at}
use Rattle.std.specs.List.{flat_map}
use Rattle.std.proofs.lemmas.List.{length-map}
use Rattle.model_core.specs.declared.model.Model.{Model}
use Rattle.model_core.specs.Scalar.{coordinates_of, scalar_components, scalar_coordinates, swapped_pairs, partner_component, partner, IsPartner}
use Rattle.model_core.specs.Scalar.Coordinate.{Of, Dummy}
use Rattle.model_core.proofs.CountLaws.{component_at, length-copies_of, piece_at}
use Rattle.model_core.proofs.PairLaws.{quotient, remainder, less_pair}
use Rattle.model_core.proofs.ScalarLaws.{real_coordinates, complex_coordinates, conjugate_within, dummy_at}

-- ---- the partner of a component

pub real_partner_of : (c : Component) → c.field.real ≡ true → partner_component c ≡ record { field = c.field; conj = c.conj; generation = c.generation; values = swapped_pairs c.values }
real_partner_of c e =
    ap (λ b. cond b (record { field = c.field; conj = c.conj; generation = c.generation; values = swapped_pairs c.values }) (record { field = c.field; conj = not c.conj; generation = c.generation; values = c.values })) e

pub complex_partner_of : (c : Component) → c.field.real ≡ false → partner_component c ≡ record { field = c.field; conj = not c.conj; generation = c.generation; values = c.values }
complex_partner_of c e =
    ap (λ b. cond b (record { field = c.field; conj = c.conj; generation = c.generation; values = swapped_pairs c.values }) (record { field = c.field; conj = not c.conj; generation = c.generation; values = c.values })) e

-- ---- real scalars

pub swapped_below : (groups : List Group) (field : Field) (place m s : ℕ) → m ≡ length (tuples (slot_sizes groups field.reps)) → place < length (copies_of false groups field) → s < m
    → place / m * m + s < length (copies_of false groups field)
swapped_below groups field place m s counted within below =
    let found = component_at false groups field place m counted within in
    omega (arith, less_pair (place / m) m s field.generations found.0 below, length-copies_of false groups field, ap (λ k. field.generations * k) counted)

pub real_partner_at : (groups : List Group) (field : Field) (place m s : ℕ) → field.real ≡ true → m ≡ length (tuples (slot_sizes groups field.reps)) → place < length (coordinates_of groups field) → s < m
    → tuple_at (slot_sizes groups field.reps) s ≡ swapped_pairs (tuple_at (slot_sizes groups field.reps) (place % m)) → IsPartner (coordinates_of groups field) place (place / m * m + s)
real_partner_at groups field place m s real counted within below swapped =
    let plain = real_coordinates groups field real in
    let sizes = slot_sizes groups field.reps in
    let inside : place < length (copies_of false groups field) = omega (arith, within, ap length plain) in
    let found = component_at false groups field place m counted inside in
    let other = component_at false groups field (place / m * m + s) m counted (swapped_below groups field place m s counted inside below) in
    let component : Component = record { field = field; conj = false; generation = place / m + 1; values = tuple_at sizes (place % m) } in
    record {
      component = component;
      first = ap (λ cs. slice_get cs place) plain ∙ found.2;
      second =
          ap (λ cs. slice_get cs (place / m * m + s)) plain ∙ other.2
          ∙ ap₂ (λ q r. Some (record { field = field; conj = false; generation = q + 1; values = tuple_at sizes r })) (quotient (place / m) m s below) (remainder (place / m) m s below)
          ∙ ap (λ v. Some (record { field = field; conj = false; generation = place / m + 1; values = v })) swapped
          ∙ ap Some (sym (real_partner_of component real));
    }

-- ---- complex scalars

copy_at : (conj : Bool) (groups : List Group) (field : Field) (place : ℕ) → place < length (copies_of false groups field)
    → slice_get (copies_of conj groups field) place ≡ Some (record { field = field; conj = conj; generation = place / length (tuples (slot_sizes groups field.reps)) + 1; values = tuple_at (slot_sizes groups field.reps) (place % length (tuples (slot_sizes groups field.reps))) })
copy_at conj groups field place within =
    (component_at conj groups field place _ refl (omega (arith, within, length-copies_of conj groups field, length-copies_of false groups field))).2

at_complex : (groups : List Group) (field : Field) (place other : ℕ) (c : Component) → field.real ≡ false → slice_get (copies_of false groups field ++ copies_of true groups field) place ≡ Some c → slice_get (coordinates_of groups field) place ≡ Some c
at_complex groups field place other c complex found = ap (λ cs. slice_get cs place) (complex_coordinates groups field complex) ∙ found

pub plain_partner_at : (groups : List Group) (field : Field) (place count : ℕ) → field.real ≡ false → count ≡ length (copies_of false groups field) → place < count → IsPartner (coordinates_of groups field) place (place + count)
plain_partner_at groups field place count complex counted within =
    let inside : place < length (copies_of false groups field) = omega (arith, counted, within) in
    let m = length (tuples (slot_sizes groups field.reps)) in
    let component : Component = record { field = field; conj = false; generation = place / m + 1; values = tuple_at (slot_sizes groups field.reps) (place % m) } in
    record {
      component = component;
      first = at_complex groups field place 0 component complex (slice_get-append_left (copies_of false groups field) (copies_of true groups field) place component (copy_at false groups field place inside));
      second =
          at_complex groups field (place + count) 0 (record { field = field; conj = true; generation = place / m + 1; values = tuple_at (slot_sizes groups field.reps) (place % m) }) complex
          (slice_get-append_right (copies_of false groups field) (copies_of true groups field) (place + count) place (omega (arith, counted)) ∙ copy_at true groups field place inside)
          ∙ ap Some (sym (complex_partner_of component complex));
    }

pub conjugate_partner_at : (groups : List Group) (field : Field) (place count : ℕ) → field.real ≡ false → count ≡ length (copies_of false groups field) → count ≤ place → place < length (coordinates_of groups field) → IsPartner (coordinates_of groups field) place (place - count)
conjugate_partner_at groups field place count complex counted above within =
    let rest = place - count in
    let inside : rest < length (copies_of false groups field) = conjugate_within groups field place count counted above within in
    let m = length (tuples (slot_sizes groups field.reps)) in
    let component : Component = record { field = field; conj = true; generation = rest / m + 1; values = tuple_at (slot_sizes groups field.reps) (rest % m) } in
    record {
      component = component;
      first = at_complex groups field place 0 component complex (slice_get-append_right (copies_of false groups field) (copies_of true groups field) place rest (omega (arith, counted, above)) ∙ copy_at true groups field rest inside);
      second =
          at_complex groups field rest 0 (record { field = field; conj = false; generation = rest / m + 1; values = tuple_at (slot_sizes groups field.reps) (rest % m) }) complex
          (slice_get-append_left (copies_of false groups field) (copies_of true groups field) rest _ (copy_at false groups field rest inside))
          ∙ ap Some (sym (complex_partner_of component complex));
    }

-- ---- all scalars

-- the partner within one scalar is the partner among all
pub partner_at : (model : Model) (i place before rest other : ℕ) (d : Field) → i < length model.scalars → before ≡ length (flat_map (coordinates_of model.groups) (take i model.scalars)) → place ≡ before + rest
    → IsPartner (coordinates_of model.groups (get_or model.scalars i d)) rest other → slice_get (scalar_coordinates model) (before + other) ≡ option_map partner (slice_get (scalar_coordinates model) place)
partner_at model i place before rest other d within counted is pair =
    let f = coordinates_of model.groups in
    let at = λ (j : ℕ) (c : Component) (h : slice_get (f (get_or model.scalars i d)) j ≡ Some c).
    slice_get-append_left (map Of (scalar_components model)) (Dummy ∷ []) (before + j) (Of c)
    (slice_get-map_some Of (scalar_components model) (before + j) c (ap (λ k. slice_get (scalar_components model) (k + j)) counted ∙ piece_at f model.scalars i j d c within h)) in
    at other (partner_component pair.component) pair.second
    ∙ sym (ap (option_map partner) (ap (slice_get (scalar_coordinates model)) is ∙ at rest pair.component pair.first))

-- the dummy is its own partner
pub dummy_partner : (model : Model) (place : ℕ) → place ≡ length (scalar_components model) → slice_get (scalar_coordinates model) place ≡ option_map partner (slice_get (scalar_coordinates model) place)
dummy_partner model place is =
    let found : slice_get (scalar_coordinates model) place ≡ Some Dummy = dummy_at (map Of (scalar_components model)) place Dummy (is ∙ sym (length-map (scalar_components model) Of)) in
    found ∙ sym (ap (option_map partner) found)
