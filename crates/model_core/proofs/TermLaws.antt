-- What the rules on terms say of their sizes.
use Rattle.std.proofs.Common.{◌≡◌, ℕ, zero, suc, true, List, [], ◌∷◌, Option, Some, None, refl}
use Rattle.std.specs.Prelude.{◌&&◌, slice_get, option_map, unwrap_or}
use Rattle.std.specs.List.{list_all, find}
use Rattle.model_core.specs.declared.group.Group.{Group}
use Rattle.model_core.specs.declared.field.Field.{Field}
use Rattle.model_core.specs.declared.model.Model.{Model}
use Rattle.model_core.specs.declared.term.Generation.{Generation}
use Rattle.model_core.specs.declared.term.TermKind.{TermKind}
use Rattle.model_core.specs.declared.term.TermKind.TheVariants as kind
use Rattle.model_core.specs.declared.content.FieldUse.{FieldUse}
use Rattle.model_core.specs.declared.term.Term.{Term}
use Rattle.model_core.specs.Groups.{is_between}
use Rattle.model_core.specs.Valid.{is_field, has_charge_of, are_reps, has_valid_parts}
use Rattle.model_core.specs.Flavour.{generations_of, fields_of, use_size, is_at, flavour_size, monomial_has_flavour, have_sizes}
use Rattle.model_core.specs.TermRules.{has_small_sizes, has_monomials, has_shape, has_one_content, has_good_monomials, has_good_coupling, is_term}
use Rattle.model_core.proofs.ValidLaws.{both, first_passes, parts_fields, parts_scalar_fields}

pub term_is_small : (model : Model) (term : Term) → is_term model term ≡ true → has_small_sizes term ≡ true
term_is_small model term is =
    let good = (both (has_good_monomials model term) (has_good_coupling model term) is).0 in
    let parts = (both (has_monomials model term && has_shape model term) (has_one_content term) good).0 in
    let shape = (both (has_monomials model term) (has_shape model term) parts).1 in
    let sizes = (both _ (have_sizes model term) shape).0 in
    (both (has_small_sizes term) (list_all (monomial_has_flavour term.shape) term.monomials) sizes).0

pub terms_are_small : (model : Model) (terms : List Term) → list_all (is_term model) terms ≡ true → list_all has_small_sizes terms ≡ true
terms_are_small model [] all = refl
terms_are_small model (term ∷ terms) all =
    let parts = both (is_term model term) (list_all (is_term model) terms) all in
    rw (term_is_small model term parts.0) (terms_are_small model terms parts.1)

-- ---- rows and columns

generations_small : (groups : List Group) (fields : List Field) (place : ℕ) → list_all (is_field groups) fields ≡ true
    → is_between 1 6 (unwrap_or (option_map generations_of (slice_get fields place)) 1) ≡ true
generations_small groups [] place valid = refl
generations_small groups (field ∷ fields) zero valid =
    (both (is_between 1 6 field.generations) (are_reps groups field.reps) (both _ (has_charge_of groups field) (first_passes (is_field groups) field fields valid).0).0).0
generations_small groups (field ∷ fields) (suc place) valid = generations_small groups fields place (first_passes (is_field groups) field fields valid).1

kind_small : (model : Model) (kind : TermKind) (place : ℕ) → has_valid_parts model ≡ true
    → is_between 1 6 (unwrap_or (option_map generations_of (slice_get (fields_of model kind) place)) 1) ≡ true
kind_small model kind.Fermion place valid = generations_small model.groups model.fermions place (parts_fields model valid)
kind_small model kind.Scalar place valid = generations_small model.groups model.scalars place (parts_scalar_fields model valid)

found_small : (model : Model) (used : Option FieldUse) → has_valid_parts model ≡ true → is_between 1 6 (unwrap_or (option_map (use_size model) used) 1) ≡ true
found_small model None valid = refl
found_small model (Some used) valid = kind_small model used.kind used.field valid

pub flavour_size_small : (model : Model) (generation : Generation) (used : List FieldUse) → has_valid_parts model ≡ true → is_between 1 6 (flavour_size model generation used) ≡ true
flavour_size_small model generation used valid = found_small model (find (is_at generation) used) valid
