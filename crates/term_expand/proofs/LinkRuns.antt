-- The steps of the code that lists the links of a projector.
use Rattle.std.specs.Prelude.{◌≡◌, ◌<◌, ◌+◌, ℕ, suc, Bool, true, false, cond, IsTrue, List, [], ◌∷◌, ◌++◌, length, get_or, Some, option_map, option_and_then}
use Rattle.std.proofs.Common.{refl, sym, ap, ap₂, ◌∙◌, arith, append_assoc}
use Rattle.std.proofs.lemmas.List.{append-nil}
use Rattle.std.proofs.lemmas.Option.{slice_get-get_or}
use Rattle.frac128.specs.Rational.{ℚ, zero_ℚ, eq_ℚ}
use Rattle.frac128.specs.RationalOrder.{Decides-eq_ℚ}
use Rattle.sparse_tensor.specs.declared.links.Link.{Link}
use Rattle.model_core.specs.declared.group.Group.{Group}
use Rattle.model_core.specs.declared.field.Field.{Field}
use Rattle.model_core.specs.declared.component_lists.FieldComponent.{FieldComponent}
use Rattle.model_core.specs.Component.{projector_at}
use Rattle.term_expand.specs.LinkSteps.{in_field, component_in, component_at, projector_between, place_projectors, kept_link, row_links, all_links}

component_there : (fields : List Field) (x : FieldComponent) (field : Field) → x.field < length fields → field ≡ get_or fields x.field field → component_in fields x ≡ Some (in_field x field)
component_there fields x field within is =
    ap (option_map (in_field x)) (slice_get-get_or fields x.field field within ∙ ap Some (sym is))

-- the projector at two components whose fields are found
pub projector_there : (groups : List Group) (fields : List Field) (x y : FieldComponent) (first second : Field) → x.field < length fields → y.field < length fields
    → first ≡ get_or fields x.field first → second ≡ get_or fields y.field second
    → projector_at groups (in_field x first) (in_field y second) ≡ projector_between groups (component_in fields x) (component_in fields y)
projector_there groups fields x y first second in_first in_second is_first is_second =
    sym (ap₂ (projector_between groups) (component_there fields x first in_first is_first) (component_there fields y second in_second is_second))

found_component : (fields : List Field) (components : List FieldComponent) (i : ℕ) (x : FieldComponent) → i < length components → x ≡ get_or components i x → component_at fields components i ≡ component_in fields x
found_component fields components i x within is =
    ap (option_and_then (component_in fields)) (slice_get-get_or components i x within ∙ ap Some (sym is))

-- the projector at two places whose components are found
pub places_there : (groups : List Group) (fields : List Field) (components : List FieldComponent) (i j : ℕ) (x y : FieldComponent) → i < length components → j < length components
    → x ≡ get_or components i x → y ≡ get_or components j y
    → projector_between groups (component_in fields x) (component_in fields y) ≡ place_projectors groups fields components i j
unfolding place_projectors
places_there groups fields components i j x y in_first in_second is_first is_second =
    sym (ap₂ (projector_between groups) (found_component fields components i x in_first is_first) (found_component fields components j y in_second is_second))

-- one link alone
abbrev one_link : ℕ → ℕ → ℚ → List Link
one_link x y value = record { from = x; to = y; value = value } ∷ []

-- a link whose value is not 0 is kept
pub kept_other : (tested : Bool) (x y : ℕ) (value : ℚ) → (value ≡ zero_ℚ → IsTrue tested) → tested ≡ false → one_link x y value ≡ kept_link x y value
kept_other tested x y value zero_so other = by_test (eq_ℚ value zero_ℚ) refl
  where
    never : (b : Bool) → b ≡ true → b ≡ false → ⊥
    never b first second = cc

    by_test : (b : Bool) → eq_ℚ value zero_ℚ ≡ b → one_link x y value ≡ cond b [] (one_link x y value)
    by_test true e = absurd (never tested (zero_so ((Decides-eq_ℚ value zero_ℚ).0 e)) other)
    by_test false e = refl

-- no row
pub all_start : (at : ℕ → ℕ → ℚ) (count : ℕ) → [] ≡ all_links at count 0
unfolding all_links
all_start at count = refl

-- a row begins with no link
pub row_start : (at : ℕ → ℕ → ℚ) (count x : ℕ) → all_links at count x ≡ all_links at count x ++ row_links at x 0
unfolding row_links
row_start at count x = sym (append-nil (all_links at count x))

-- one more place of a row
pub row_step : (at : ℕ → ℕ → ℚ) (before links next : List Link) (x y : ℕ) (value : ℚ) → links ≡ before ++ row_links at x y → value ≡ at x y → next ≡ links ++ kept_link x y value
    → next ≡ before ++ row_links at x (y + 1)
unfolding row_links
row_step at before links next x y value so_far is step =
    let later : suc y ≡ y + 1 = omega arith in
    step ∙ ap₂ (λ ls v. ls ++ kept_link x y v) so_far is
    ∙ append_assoc before (row_links at x y) (kept_link x y (at x y))
    ∙ ap (λ k. before ++ row_links at x k) later

-- the end of a row
pub row_end : (at : ℕ → ℕ → ℚ) (count x y : ℕ) (links : List Link) → links ≡ all_links at count x ++ row_links at x y → y ≡ count → links ≡ all_links at count (suc x)
unfolding all_links
row_end at count x y links so_far end = so_far ∙ ap (λ k. all_links at count x ++ row_links at x k) end
