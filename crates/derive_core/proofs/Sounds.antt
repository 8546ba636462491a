-- Where the terms have no fault, each direction has its block; and where a beta tensor is 0.
use Rattle.std.proofs.Common.{◌≡◌, ◌≢◌, ℕ, zero, suc, List, [], ◌∷◌, ◌++◌, map, arith, Option, Some, None, refl, sym, ap, ap₂, ◌∙◌, inl, inr}
use Rattle.std.specs.Prelude.{◌⊎◌, replicate}
use Rattle.std.specs.List.{flat_map}
use Rattle.beta_poly.specs.Polynomial.{zero_poly}
use Rattle.sparse_tensor.specs.Tensor.{Tensor, HasValues, entries_of}
use Rattle.model_core.specs.declared.model.Model.{Model}
use Rattle.model_core.specs.Directions.{directions, yukawa_at}
use Rattle.model_core.specs.Scalar.{Coordinate, coordinates_of, scalar_coordinates}
use Rattle.model_core.specs.Scalar.Coordinate.{Of, Dummy}
use Rattle.model_core.specs.TermTensor.{with_coordinate, coordinates_at, value_or}
use Rattle.model_core.specs.declared.term.Term.{Term}
use Rattle.beta_formulas.specs.ScalarBeta.{scalar_beta, scalar_beta_at}
use Rattle.beta_formulas.specs.YukawaBeta.{yukawa_beta, yukawa_beta_at}
use Rattle.yukawa_one_loop.proofs.NoYukawas.{beta_none}
use Rattle.gauge_two_loop.proofs.YukawaValues.{no_entries}
use Rattle.derive_core.specs.Acceptance.{AreSoundTerms}
use Rattle.derive_core.specs.Blocks.{NoneIsDependent}
use Rattle.derive_core.specs.Derivation.{MayBeLarge}
use Rattle.derive_core.specs.Surveys.{TellsDependence, IsSurvey}
use Rattle.derive_core.specs.TermFaults.{HaveNoFault}
use Rattle.derive_core.specs.Works.{IsYukawaBeta, IsScalarBeta}
use Rattle.derive_core.specs.declared.survey.Survey.{Survey}
use Rattle.derive_core.proofs.Spanning.{places_elsewhere}
use Rattle.derive_core.proofs.TensorEntries.{no_entries as no_values}

none_dependent : (model : Model) (o : Option ℕ) → TellsDependence model o → NoneIsDependent (directions model) → o ≡ None
none_dependent model None tells none = refl
none_dependent model (Some place) tells none = absurd (none place tells.dependent)

pub sound_terms : (model : Model) (survey : Survey) → IsSurvey model survey → HaveNoFault model → AreSoundTerms survey.solvers model
sound_terms model survey is terms =
    record {
      terms = terms;
      blocks = record { each = is.each; every = is.every (none_dependent model survey.dependent is.dependence terms.independent) };
    }

pub has_terms : (model : Model) (t : Tensor) → HasValues 3 (yukawa_at model) t → entries_of t ≢ [] → MayBeLarge model
has_terms model t has some = inl (λ none. some (no_entries model t has none))

-- a Yukawa tensor without entries has no beta tensor
no_beta_at : (model : Model) (yukawa : Tensor) → HasValues 3 (yukawa_at model) yukawa → entries_of yukawa ≡ [] → (key : List ℕ) → yukawa_beta_at model key ≡ zero_poly
no_beta_at model yukawa has none (j ∷ k ∷ a ∷ []) = sym (beta_none model yukawa has none j k a)
no_beta_at model yukawa has none [] = places_elsewhere model (yukawa_beta model) [] (λ three. let never : ⊥ = omega (arith, three) in never)
no_beta_at model yukawa has none (j ∷ []) = places_elsewhere model (yukawa_beta model) (j ∷ []) (λ three. let never : ⊥ = omega (arith, three) in never)
no_beta_at model yukawa has none (j ∷ k ∷ []) = places_elsewhere model (yukawa_beta model) (j ∷ k ∷ []) (λ three. let never : ⊥ = omega (arith, three) in never)
no_beta_at model yukawa has none (j ∷ k ∷ a ∷ b ∷ rest) = places_elsewhere model (yukawa_beta model) (j ∷ k ∷ a ∷ b ∷ rest) (λ three. let never : ⊥ = omega (arith, three) in never)

pub no_betas : (model : Model) (yukawa betas : Tensor) → HasValues 3 (yukawa_at model) yukawa → HasValues 3 (yukawa_beta_at model) betas → model.terms ≡ [] → entries_of betas ≡ []
no_betas model yukawa betas has beta terms =
    no_values 3 (yukawa_beta_at model) betas beta (no_beta_at model yukawa has (no_entries model yukawa has terms))

-- ---- a model without scalar fields

-- the dummy is its only scalar coordinate
only_dummy : (model : Model) → model.scalars ≡ [] → scalar_coordinates model ≡ Dummy ∷ []
only_dummy model none = ap (λ fields. map Of (flat_map (coordinates_of model.groups) fields) ++ Dummy ∷ []) none

nowhere : (r : Option (List Coordinate)) → with_coordinate None r ≡ None
nowhere (Some cs) = refl
nowhere None = refl

-- at places of such legs stand dummies, or nothing
dummies_at : (n : ℕ) (places : List ℕ) → (coordinates_at (replicate n (Dummy ∷ [])) places ≡ Some (replicate n Dummy)) ⊎ (coordinates_at (replicate n (Dummy ∷ [])) places ≡ None)
dummies_at zero [] = inl refl
dummies_at zero (x ∷ places) = inr refl
dummies_at (suc n) [] = inr refl
dummies_at (suc n) (zero ∷ places) = elim (dummies_at n places) [
  | inl dummies ↦ inl (ap (with_coordinate (Some Dummy)) dummies)
  | inr none ↦ inr (ap (with_coordinate (Some Dummy)) none)
]
dummies_at (suc n) (suc x ∷ places) = inr (nowhere (coordinates_at (replicate n (Dummy ∷ [])) places))

four_dummies : (model : Model) → scalar_beta model (Dummy ∷ Dummy ∷ Dummy ∷ Dummy ∷ []) ≡ zero_poly
unfolding scalar_beta
four_dummies model = refl

no_scalar_beta_at : (model : Model) → model.scalars ≡ [] → (key : List ℕ) → scalar_beta_at model key ≡ zero_poly
no_scalar_beta_at model none key =
    ap (λ leg. value_or zero_poly (scalar_beta model) (coordinates_at (leg ∷ leg ∷ leg ∷ leg ∷ []) key)) (only_dummy model none)
    ∙ elim (dummies_at 4 key) [ inl dummies ↦ ap (value_or zero_poly (scalar_beta model)) dummies ∙ four_dummies model | inr nothing ↦ ap (value_or zero_poly (scalar_beta model)) nothing ]

pub no_scalar_betas : (model : Model) (betas : Tensor) → HasValues 4 (scalar_beta_at model) betas → model.scalars ≡ [] → entries_of betas ≡ []
no_scalar_betas model betas beta none = no_values 4 (scalar_beta_at model) betas beta (no_scalar_beta_at model none)

-- ---- where the beta tensors on the sides are refused

pub has_some : (model : Model) (yukawa scalar : Tensor) → IsYukawaBeta yukawa model → IsScalarBeta scalar model → entries_of yukawa ++ entries_of scalar ≢ [] → MayBeLarge model
has_some model yukawa scalar first second some = by_terms model.terms refl
  where
    by_terms : (terms : List Term) → model.terms ≡ terms → MayBeLarge model
    by_terms [] none = inr (inl (λ scalars. some (ap₂ ◌++◌ (first.none none) (second.none scalars))))
    by_terms (term ∷ terms) is = inl (λ none. let never : ⊥ = cc in never)
