-- The rules on terms read a model's parts alone: they say the same of a model that has other terms.
use Rattle.std.proofs.Common.{◌≡◌, ℕ, Bool, true, List, length, refl, ap, ap₂, ◌∙◌}
use Rattle.std.specs.Prelude.{◌&&◌, ◌==◌, nat_le, option_map, unwrap_or, slice_get}
use Rattle.std.specs.List.{flat_map, find, list_all, count_by}
use mathlib.Core.Path.{fun_ext}
use Rattle.model_core.specs.declared.content.FieldUse.{FieldUse}
use Rattle.model_core.specs.declared.content.LabelledSlot.{LabelledSlot}
use Rattle.model_core.specs.declared.field.Field.{Field}
use Rattle.model_core.specs.declared.model.Model.{Model}
use Rattle.model_core.specs.declared.term.Factor.{Factor}
use Rattle.model_core.specs.declared.term.Factor.TheVariants.{Fermion, Scalar, Eps, Table}
use Rattle.model_core.specs.declared.term.Generation.{Generation}
use Rattle.model_core.specs.declared.term.Generation.TheVariants.{Row, Column}
use Rattle.model_core.specs.declared.term.Monomial.{Monomial}
use Rattle.model_core.specs.declared.term.Term.{Term}
use Rattle.model_core.specs.declared.term.TermKind.{TermKind}
use Rattle.model_core.specs.declared.term.TermKind.TheVariants as kind
use Rattle.model_core.specs.Groups.{is_between}
use Rattle.model_core.specs.Factors.{uses, labels_of, all_labels, labelled, slots_of, labelled_slots, is_joined, eps_fits, is_tensor, is_factor, are_factors, are_joined}
use Rattle.model_core.specs.Flavour.{generations_of, fields_of, use_size, is_at, flavour_size, has_square_shape, have_sizes, monomial_has_flavour}
use Rattle.model_core.specs.Content.{has_mirrored_blocks, term_blocks, have_few_directions}
use Rattle.model_core.specs.TermRules.{has_monomials, has_small_sizes, has_one_content, has_allowed_conjugate, is_term, has_few_symbols, are_terms}

-- the model with other terms
abbrev with_terms : Model → List Term → Model
with_terms model terms = record model { terms = terms }

module _ (model : Model) (terms : List Term) where
  abbrev other : Model
  other = with_terms model terms

  fields_kept : (kind : TermKind) → fields_of other kind ≡ fields_of model kind
  fields_kept kind.Fermion = refl
  fields_kept kind.Scalar = refl

  use_kept : (used : FieldUse) → use_size other used ≡ use_size model used
  use_kept used = ap (λ (fields : List Field). unwrap_or (option_map generations_of (slice_get fields used.field)) 1) (fields_kept used.kind)

  flavour_kept : (generation : Generation) (used : List FieldUse) → flavour_size other generation used ≡ flavour_size model generation used
  flavour_kept generation used = ap (λ (size : FieldUse → ℕ). unwrap_or (option_map size (find (is_at generation) used)) 1) (fun_ext (λ one. use_kept one))

  sizes_kept : (term : Term) → have_sizes other term ≡ have_sizes model term
  sizes_kept term =
      ap (λ (test : Monomial → Bool). list_all test term.monomials && has_square_shape term)
      (fun_ext (λ (monomial : Monomial). ap₂ (λ (rows columns : ℕ). rows == term.rows && columns == term.columns) (flavour_kept Row (uses monomial.factors)) (flavour_kept Column (uses monomial.factors))))

  slots_kept : (factor : Factor) → slots_of other factor ≡ slots_of model factor
  slots_kept (Fermion field generation labels) = refl
  slots_kept (Scalar field conj generation labels) = refl
  slots_kept (Eps labels) = refl
  slots_kept (Table table labels) = refl

  labelled_kept : (factors : List Factor) → labelled_slots other factors ≡ labelled_slots model factors
  labelled_kept factors =
      ap (λ (slots : Factor → List LabelledSlot). flat_map slots factors) (fun_ext (λ (factor : Factor). ap (labelled (labels_of factor)) (slots_kept factor)))

  joined_kept : (factors : List Factor) → are_joined other factors ≡ are_joined model factors
  joined_kept factors =
      ap (λ (slots : List LabelledSlot). list_all (is_joined factors slots) (all_labels factors) && list_all (eps_fits model.groups slots) factors) (labelled_kept factors)

  factor_kept : (factor : Factor) → is_factor other factor ≡ is_factor model factor
  factor_kept (Fermion field generation labels) = refl
  factor_kept (Scalar field conj generation labels) = refl
  factor_kept (Eps labels) = refl
  factor_kept (Table table labels) = refl

  factors_kept : (factors : List Factor) → are_factors other factors ≡ are_factors model factors
  factors_kept factors = ap (λ (test : Factor → Bool). list_all test factors && nat_le (count_by is_tensor factors) 4) (fun_ext (λ factor. factor_kept factor))

  monomials_kept : (term : Term) → has_monomials other term ≡ has_monomials model term
  monomials_kept term =
      ap (λ (test : Monomial → Bool). is_between 1 16 (length term.monomials) && list_all test term.monomials)
      (fun_ext (λ (monomial : Monomial). ap₂ ◌&&◌ (factors_kept monomial.factors) (joined_kept monomial.factors)))

  term_kept : (term : Term) → is_term other term ≡ is_term model term
  term_kept term =
      ap₂ (λ (monomials sizes : Bool). ((monomials && ((has_small_sizes term && list_all (monomial_has_flavour term.shape) term.monomials) && sizes)) && has_one_content term) && (has_allowed_conjugate term && has_mirrored_blocks model term))
      (monomials_kept term) (sizes_kept term)

  pub terms_kept : (others : List Term) → are_terms other others ≡ are_terms model others
  terms_kept others =
      ap (λ (test : Term → Bool). ((nat_le (length others) 64 && list_all test others) && has_few_symbols others) && have_few_directions (flat_map (term_blocks model) others)) (fun_ext (λ term. term_kept term))

pub terms_with : (model : Model) (terms : List Term) → are_terms model terms ≡ true → are_terms (record model { terms = terms }) terms ≡ true
terms_with model terms valid = terms_kept model terms terms ∙ valid
