-- The steps of the code that works out an entry of a generator.
use Rattle.std.specs.Prelude.{◌≡◌, ◌<◌, ◌==◌, ◌&&◌, ℕ, Bool, true, false, cond, nat_eq, List, [], ◌∷◌, length, slice_get, get_or, Option, Some, None, option_map, option_and_then}
use Rattle.std.specs.Str.{bytes_eq}
use Rattle.std.proofs.Common.{refl, sym, ap, ap₂, ◌∙◌, arith}
use Rattle.std.proofs.lemmas.Option.{slice_get-get_or, get_or_from_slice_get}
use Rattle.std.proofs.lemmas.List.{get_or_default}
use Rattle.std.proofs.lemmas.Slice.Eq.{bytes_eq-Decides}
use Rattle.frac128.specs.Rational.{ℚ, zero_ℚ, one_ℚ, ◌*ℚ◌}
use Rattle.frac128.specs.RationalLaws.{one-*ℚ, *ℚ-one, zero-*ℚ, *ℚ-zero}
use Rattle.su_reps.specs.Tuples.{same, delta}
use Rattle.model_core.specs.declared.group.Group.{Group}
use Rattle.model_core.specs.declared.field.Field.{Field}
use Rattle.model_core.specs.declared.component_lists.FieldComponent.{FieldComponent}
use Rattle.model_core.specs.Component.{same_side, are_copies}
use Rattle.term_expand.specs.LinkSteps.{in_field, component_in, component_at, AreNamed, IsPlaced}
use Rattle.model_core.specs.declared.generator.Generator.{Generator}
use Rattle.model_core.specs.Generators.{entry_between}
use Rattle.term_expand.proofs.PlacedComponents.{same_place}
use Rattle.gauge_check.specs.Actions.{have_one_place, generator_between, place_generator}

-- ---- where two tuples are the same

-- 1 at equal tuples, and 0 at others
same_value : (p q : List ℕ) → same p q ≡ cond (bytes_eq p q) one_ℚ zero_ℚ
same_value [] [] = refl
same_value [] (b ∷ q) = refl
same_value (a ∷ p) [] = refl
same_value (a ∷ p) (b ∷ q) = ap (λ k. delta a b *ℚ k) (same_value p q) ∙ by_test (nat_eq a b) (bytes_eq p q)
  where
    by_test : (s t : Bool) → cond s one_ℚ zero_ℚ *ℚ cond t one_ℚ zero_ℚ ≡ cond (s && t) one_ℚ zero_ℚ
    by_test true t = one-*ℚ (cond t one_ℚ zero_ℚ)
    by_test false t = zero-*ℚ (cond t one_ℚ zero_ℚ)

-- a number times the identity at equal tuples
pub kept_first : (number : ℚ) (p q : List ℕ) → bytes_eq p q ≡ true → number ≡ number *ℚ same p q
kept_first number p q e = sym (ap (λ k. number *ℚ k) (same_value p q ∙ ap (λ b. cond b one_ℚ zero_ℚ) e) ∙ *ℚ-one number)

pub kept_second : (number : ℚ) (p q : List ℕ) → bytes_eq p q ≡ true → number ≡ same p q *ℚ number
kept_second number p q e = sym (ap (λ k. k *ℚ number) (same_value p q ∙ ap (λ b. cond b one_ℚ zero_ℚ) e) ∙ one-*ℚ number)

-- and at others
pub gone_first : (number : ℚ) (p q : List ℕ) → bytes_eq p q ≡ false → zero_ℚ ≡ number *ℚ same p q
gone_first number p q e = sym (ap (λ k. number *ℚ k) (same_value p q ∙ ap (λ b. cond b one_ℚ zero_ℚ) e) ∙ *ℚ-zero number)

pub gone_second : (number : ℚ) (p q : List ℕ) → bytes_eq p q ≡ false → zero_ℚ ≡ same p q *ℚ number
gone_second number p q e = sym (ap (λ k. k *ℚ number) (same_value p q ∙ ap (λ b. cond b one_ℚ zero_ℚ) e) ∙ zero-*ℚ number)

-- ---- components of fields with different names

-- a component whose field is found
pub component_there : (fields : List Field) (x : FieldComponent) (field : Field) → x.field < length fields → field ≡ get_or fields x.field field → component_in fields x ≡ Some (in_field x field)
component_there fields x field within is =
    ap (option_map (in_field x)) (slice_get-get_or fields x.field field within ∙ ap Some (sym is))

-- a test has one value
other_value : (b : Bool) → b ≡ true → b ≡ false → ⊥
other_value b first second = cc

-- names tell the places of fields
names_tell : (groups : List Group) (fields : List Field) (i j : ℕ) (first second : Field) → AreNamed groups fields → i < length fields → j < length fields → first ≡ get_or fields i first → second ≡ get_or fields j second
    → bytes_eq first.name second.name ≡ (i == j)
names_tell groups fields i j first second named in_first in_second is_first is_second = by_test (bytes_eq first.name second.name) refl
  where
    equal : i ≡ j → first ≡ second
    equal e =
        is_first ∙ get_or_default fields i first second in_first ∙ ap (λ k. get_or fields k second) e ∙ sym is_second

    by_test : (b : Bool) → bytes_eq first.name second.name ≡ b → b ≡ (i == j)
    by_test true e =
        let place : i ≡ j = same_place groups fields i j first second named in_first in_second (ap₂ (λ f g. bytes_eq f.name g.name) (sym is_first) (sym is_second) ∙ e) in
        grind arith
    by_test false e = by_place (i == j) refl
      where
        by_place : (b : Bool) → (i == j) ≡ b → false ≡ b
        by_place false h = refl
        by_place true h = absurd (other_value (bytes_eq first.name second.name) (ap (λ f. bytes_eq f.name second.name) (equal (grind arith)) ∙ grind (arith, bytes_eq-Decides)) e)

-- two components as copies, by place and by name
copies_tell : (groups : List Group) (fields : List Field) (x y : FieldComponent) (first second : Field) → AreNamed groups fields → x.field < length fields → y.field < length fields → first ≡ get_or fields x.field first → second ≡ get_or fields y.field second
    → are_copies (in_field x first) (in_field y second) ≡ have_one_place x y
copies_tell groups fields x y first second named in_first in_second is_first is_second =
    ap (λ b. (b && same_side x.conj y.conj) && x.generation == y.generation) (names_tell groups fields x.field y.field first second named in_first in_second is_first is_second)

-- between components of different fields, sides or generations a generator is 0
pub apart_zero : (groups : List Group) (fields : List Field) (generator : Generator) (x y : FieldComponent) → AreNamed groups fields → IsPlaced groups fields x → IsPlaced groups fields y → have_one_place x y ≡ false
    → zero_ℚ ≡ generator_between groups generator (component_in fields x) (component_in fields y)
apart_zero groups fields generator x y named in_first in_second other = by_fields (slice_get fields x.field) (slice_get fields y.field) refl refl
  where
    by_fields : (o p : Option Field) → slice_get fields x.field ≡ o → slice_get fields y.field ≡ p → zero_ℚ ≡ generator_between groups generator (option_map (in_field x) o) (option_map (in_field y) p)
    by_fields None None e h = refl
    by_fields None (Some second) e h = refl
    by_fields (Some first) None e h = refl
    by_fields (Some first) (Some second) e h =
        let tell = copies_tell groups fields x y first second named in_first.within in_second.within (sym (get_or_from_slice_get fields x.field first first e)) (sym (get_or_from_slice_get fields y.field second second h)) in
        sym (ap (λ b. cond b (entry_between groups generator (in_field x first) (in_field y second)) zero_ℚ) (tell ∙ other))

-- equal numbers, from their test
same_number : (a b : ℕ) → (a == b) ≡ true → a ≡ b
same_number a b e = grind arith

-- the first of two tests
left_true : (a b : Bool) → (a && b) ≡ true → a ≡ true
left_true true b h = refl
left_true false b h = absurd (other_value false h refl)

-- copies are of the field at one place
pub copies_place : (x y : FieldComponent) → have_one_place x y ≡ true → x.field ≡ y.field
copies_place x y e =
    same_number x.field y.field (left_true (x.field == y.field) (same_side x.conj y.conj) (left_true (x.field == y.field && same_side x.conj y.conj) (x.generation == y.generation) e))

-- the entry between two copies
pub copies_entry : (groups : List Group) (fields : List Field) (generator : Generator) (x y : FieldComponent) (field : Field) → AreNamed groups fields → IsPlaced groups fields x → IsPlaced groups fields y → have_one_place x y ≡ true → field ≡ get_or fields x.field field
    → entry_between groups generator (in_field x field) (in_field y field) ≡ generator_between groups generator (component_in fields x) (component_in fields y)
copies_entry groups fields generator x y field named in_first in_second copies is =
    let second : field ≡ get_or fields y.field field = is ∙ ap (λ i. get_or fields i field) (copies_place x y copies) in
    let tell = copies_tell groups fields x y field field named in_first.within in_second.within is second in
    sym (
    ap₂ (generator_between groups generator) (component_there fields x field in_first.within is) (component_there fields y field in_second.within second)
    ∙ ap (λ b. cond b (entry_between groups generator (in_field x field) (in_field y field)) zero_ℚ) (tell ∙ copies)
    )

-- the entry between two places whose components are found
pub places_entry : (groups : List Group) (fields : List Field) (components : List FieldComponent) (generator : Generator) (i j : ℕ) (x y : FieldComponent) → i < length components → j < length components → x ≡ get_or components i x → y ≡ get_or components j y
    → generator_between groups generator (component_in fields x) (component_in fields y) ≡ place_generator groups fields components generator i j
unfolding place_generator
places_entry groups fields components generator i j x y in_first in_second is_first is_second =
    sym (ap₂ (generator_between groups generator) (found i x in_first is_first) (found j y in_second is_second))
  where
    found : (k : ℕ) (z : FieldComponent) → k < length components → z ≡ get_or components k z → component_at fields components k ≡ component_in fields z
    found k z within is = ap (option_and_then (component_in fields)) (slice_get-get_or components k z within ∙ ap Some (sym is))
