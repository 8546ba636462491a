-- How many coordinates a scalar has, and which stands at a place.
use Rattle.std.proofs.Common.{◌≡◌, ℕ, ◌-◌, ◌*◌, ◌<◌, ◌≤◌, Bool, true, false, cond, List, [], ◌∷◌, ◌++◌, map, length, get_or, length-append, Some, refl, sym, ap, ◌∙◌, arith}
use Rattle.std.specs.Prelude.{slice_get}
use Rattle.std.proofs.lemmas.List.{map-append, length-map}
use Rattle.exact_algebra.specs.Blocks.{slice_get-append_left, slice_get-append_right}
use Rattle.model_core.specs.declared.group.Group.{Group}
use Rattle.model_core.specs.declared.field.Field.{Field}
use Rattle.model_core.specs.Component.{Component, copies_of}
use Rattle.model_core.specs.Scalar.{coordinates_of}
use Rattle.std.specs.List.{list_all}
use Rattle.model_core.specs.Valid.{is_field, is_scalar, are_scalars}
use Rattle.model_core.proofs.ValidLaws.{both, field_generations}
use Rattle.model_core.proofs.CountLaws.{length-copies_of, passes_at}

-- the conjugate has as many components
pub same_count : (groups : List Group) (field : Field) → length (copies_of true groups field) ≡ length (copies_of false groups field)
same_count groups field = length-copies_of true groups field ∙ sym (length-copies_of false groups field)

pub real_coordinates : (groups : List Group) (field : Field) → field.real ≡ true → coordinates_of groups field ≡ copies_of false groups field
real_coordinates groups field e = ap (λ b. cond b (copies_of false groups field) (copies_of false groups field ++ copies_of true groups field)) e

pub complex_coordinates : (groups : List Group) (field : Field) → field.real ≡ false → coordinates_of groups field ≡ copies_of false groups field ++ copies_of true groups field
complex_coordinates groups field e = ap (λ b. cond b (copies_of false groups field) (copies_of false groups field ++ copies_of true groups field)) e

pub length-complex : (groups : List Group) (field : Field) → field.real ≡ false → length (coordinates_of groups field) ≡ 2 * length (copies_of false groups field)
length-complex groups field e =
    ap length (complex_coordinates groups field e) ∙ length-append (copies_of false groups field) (copies_of true groups field)
    ∙ omega (arith, same_count groups field)

module _ {A : Type 0} (g : Component → A) (groups : List Group) (field : Field) where
  -- the plain components come first
  pub plain_at : (place : ℕ) (a : A) → slice_get (map g (copies_of false groups field)) place ≡ Some a → slice_get (map g (coordinates_of groups field)) place ≡ Some a
  plain_at place a found = by_kind field.real refl
    where
      by_kind : (real : Bool) → field.real ≡ real → slice_get (map g (coordinates_of groups field)) place ≡ Some a
      by_kind true e = ap (λ cs. slice_get (map g cs) place) (real_coordinates groups field e) ∙ found
      by_kind false e =
          ap (λ cs. slice_get (map g cs) place) (complex_coordinates groups field e)
          ∙ ap (λ ys. slice_get ys place) (map-append g (copies_of false groups field) (copies_of true groups field))
          ∙ slice_get-append_left (map g (copies_of false groups field)) (map g (copies_of true groups field)) place a found

  -- the conjugate ones come after them
  pub conjugate_at : (place count : ℕ) (a : A) → count ≡ length (copies_of false groups field) → count ≤ place → place < length (coordinates_of groups field)
      → slice_get (map g (copies_of true groups field)) (place - count) ≡ Some a → slice_get (map g (coordinates_of groups field)) place ≡ Some a
  conjugate_at place count a counted above within found = by_kind field.real refl
    where
      by_kind : (real : Bool) → field.real ≡ real → slice_get (map g (coordinates_of groups field)) place ≡ Some a
      by_kind true e = absurd (omega (arith, counted, above, within, ap length (real_coordinates groups field e)))
      by_kind false e =
          ap (λ cs. slice_get (map g cs) place) (complex_coordinates groups field e)
          ∙ ap (λ ys. slice_get ys place) (map-append g (copies_of false groups field) (copies_of true groups field))
          ∙ slice_get-append_right (map g (copies_of false groups field)) (map g (copies_of true groups field)) place (place - count) (omega (arith, counted, above, length-map (copies_of false groups field) g))
          ∙ found

-- a place behind the plain components is among the conjugate ones
pub conjugate_within : (groups : List Group) (field : Field) (place count : ℕ) → count ≡ length (copies_of false groups field) → count ≤ place → place < length (coordinates_of groups field)
    → place - count < length (copies_of false groups field)
conjugate_within groups field place count counted above within = by_kind field.real refl
  where
    by_kind : (real : Bool) → field.real ≡ real → place - count < length (copies_of false groups field)
    by_kind true e = absurd (omega (arith, counted, above, within, ap length (real_coordinates groups field e)))
    by_kind false e = omega (arith, counted, above, within, length-complex groups field e)

-- each of valid scalars is valid
pub scalar_passes : (groups : List Group) (fields : List Field) (i : ℕ) (d field : Field) → are_scalars groups fields ≡ true → i < length fields → field ≡ get_or fields i d → is_scalar groups field ≡ true
scalar_passes groups fields i d field valid within is =
    let each = (both _ (list_all (is_scalar groups) fields) valid).1 in
    ap (is_scalar groups) is ∙ passes_at (is_scalar groups) fields i d each within

-- the generations of a valid scalar
pub scalar_generations : (groups : List Group) (fields : List Field) (i : ℕ) (d field : Field) → are_scalars groups fields ≡ true → i < length fields → field ≡ get_or fields i d → field.generations ≤ 6
scalar_generations groups fields i d field valid within is =
    (field_generations groups field (both (is_field groups field) _ (scalar_passes groups fields i d field valid within is)).0).1

-- the dummy stands behind all other coordinates
pub dummy_at : {A : Type 0} (xs : List A) (place : ℕ) (a : A) → place ≡ length xs → slice_get (xs ++ a ∷ []) place ≡ Some a
dummy_at xs place a e = slice_get-append_right xs (a ∷ []) place 0 (omega (arith, e))
