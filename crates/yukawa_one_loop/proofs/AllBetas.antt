-- The beta matrices of all coordinates, and the tensor that they make.
use Rattle.std.specs.Prelude.{◌≡◌, ◌≢◌, ◌<◌, ◌≤◌, ◌+◌, ◌⊎◌, ℕ, List, [], ◌∷◌, ◌++◌, map, length, get_or, slice_get, Option, Some, None, option_map}
use Rattle.std.specs.List.{All}
use Rattle.std.proofs.Common.{inl, inr, refl, sym, subst, ap, ap₂, ◌∙◌, arith}
use Rattle.std.proofs.lemmas.List.{length-append}
use Rattle.std.proofs.lemmas.Option.{slice_get-map, slice_get_within, slice_get_past, slice_get_cases, slice_get-get_or, same_Some}
use Rattle.exact_algebra.specs.Blocks.{slice_get-append_left}
use Rattle.beta_poly.specs.Polynomial.{zero_poly}
use Rattle.sparse_tensor.specs.declared.fault.TensorFault.{TensorFault}
use Rattle.sparse_tensor.specs.declared.fault.TensorFault.TheVariants.{Overflow, NoMemory}
use Rattle.sparse_tensor.specs.declared.values.Value.{Value}
use Rattle.sparse_tensor.specs.Refusals.{IsRefusalOf, IsSumRefusalOf, IsTensorRefusal}
use Rattle.sparse_tensor.specs.Tensor.{Tensor, HasValues, rank_of}
use Rattle.sparse_tensor.proofs.Parts.{other_values}
use Rattle.model_core.specs.declared.model.Model.{Model}
use Rattle.model_core.specs.Component.{Component, fermion_components}
use Rattle.model_core.specs.Scalar.{Coordinate, scalar_coordinates}
use Rattle.model_core.specs.Scalar.Coordinate.{Of}
use Rattle.model_core.specs.TermTensor.{fermion_coordinates, with_coordinate, value_or}
use Rattle.model_core.proofs.ScalarLaws.{dummy_at}
use Rattle.term_expand.proofs.Legs.{of_three}
use Rattle.beta_formulas.specs.YukawaBeta.{beta_matrix, yukawa_beta, yukawa_beta_at}
use Rattle.yukawa_one_loop.specs.Matrices.{IsMatrix, entry_at}
use Rattle.yukawa_one_loop.specs.Parts.{AreBetas, coordinate_at}
use Rattle.yukawa_one_loop.specs.Entries.{stacked_at, value_or_zero}
use Rattle.yukawa_one_loop.proofs.Coordinates.{coordinate_there}

module _ (model : Model) where
  abbrev beta_at : ℕ → Tensor → Type 0
  beta_at a t = IsMatrix model (beta_matrix model (coordinate_at model a)) t

  -- ---- one by one

  pub betas_none : (ts : List Tensor) → ts ≡ [] → AreBetas model 0 ts
  betas_none ts is =
      subst (AreBetas model 0) (sym is) (record { count = refl; each = λ a t there. absurd (omega (arith, slice_get_within [] a t there)) })

  -- one matrix more
  pub betas_more : (n : ℕ) (old new : List Tensor) (t : Tensor) → AreBetas model n old → beta_at n t → new ≡ old ++ t ∷ [] → AreBetas model (n + 1) new
  betas_more n old new t so_far last is =
      subst (AreBetas model (n + 1)) (sym is) (record {
        count = length-append old (t ∷ []) ∙ ap (λ m. m + 1) so_far.count;
        each = λ a s there. at_place a s there (slice_get_cases old a).1;
      })
    where
      at_place : (a : ℕ) (s : Tensor) → slice_get (old ++ t ∷ []) a ≡ Some s → ((x : Tensor) × (a < length old) × (slice_get old a ≡ Some x) × (get_or old a x ≡ x)) ⊎ ((length old ≤ a) × (slice_get old a ≡ None)) → beta_at a s
      at_place a s there (inl found) =
          so_far.each a s (found.2 ∙ sym (slice_get-append_left old (t ∷ []) a found.0 found.2) ∙ there)
      at_place a s there (inr past) =
          let count = length-append old (t ∷ []) in
          let inside = slice_get_within (old ++ t ∷ []) a s there in
          let here : a ≡ length old = omega (arith, count, inside, past.0) in
          let same : t ≡ s = same_Some t s (sym (dummy_at old a t here) ∙ there) in
          subst (λ m. beta_at m s) (sym (here ∙ so_far.count)) (subst (beta_at n) same last)

  pub betas_rank : (n : ℕ) (ts : List Tensor) → AreBetas model n ts → All (λ t. rank_of t ≡ 2) ts
  betas_rank n ts betas i d within = (betas.each i (get_or ts i d) (slice_get-get_or ts i d within)).rank_is

  -- ---- the tensor

  no_coordinate : (o p : Option Coordinate) → zero_poly ≡ value_or zero_poly (yukawa_beta model) (with_coordinate o (with_coordinate p (with_coordinate None (Some []))))
  no_coordinate None p = refl
  no_coordinate (Some c) None = refl
  no_coordinate (Some c) (Some d) = refl

  at_components : (c : Coordinate) (o p : Option Component)
      → value_or zero_poly (entry_at (beta_matrix model c)) (with_coordinate (option_map Of o) (with_coordinate (option_map Of p) (Some [])))
      ≡ value_or zero_poly (yukawa_beta model) (with_coordinate (option_map Of o) (with_coordinate (option_map Of p) (with_coordinate (Some c) (Some []))))
  unfolding yukawa_beta
  at_components c None p = refl
  at_components c (Some x) None = refl
  at_components c (Some x) (Some y) = refl

  module _ (ts : List Tensor) (betas : AreBetas model (length (scalar_coordinates model)) ts) where
    stacked_is : (j k a : ℕ) → stacked_at ts (j ∷ k ∷ a ∷ []) ≡ yukawa_beta_at model (j ∷ k ∷ a ∷ [])
    stacked_is j k a = by_place (slice_get_cases ts a).1
      where
        leg : List Coordinate
        leg = fermion_coordinates model

        by_place : ((x : Tensor) × (a < length ts) × (slice_get ts a ≡ Some x) × (get_or ts a x ≡ x)) ⊎ ((length ts ≤ a) × (slice_get ts a ≡ None)) → stacked_at ts (j ∷ k ∷ a ∷ []) ≡ yukawa_beta_at model (j ∷ k ∷ a ∷ [])
        by_place (inl found) =
            let F = fermion_components model in
            let c = coordinate_at model a in
            let inside : a < length (scalar_coordinates model) = omega (arith, found.1, betas.count) in
            let first = slice_get-map Of F j in
            let second = slice_get-map Of F k in
            ap (λ o. value_or_zero o (j ∷ k ∷ [])) found.2
            ∙ (betas.each a found.0 found.2).value_is (j ∷ k ∷ []) refl
            ∙ ap₂ (λ o p. value_or zero_poly (entry_at (beta_matrix model c)) (with_coordinate o (with_coordinate p (Some [])))) first second
            ∙ at_components c (slice_get F j) (slice_get F k)
            ∙ ap₂ (λ o p. value_or zero_poly (yukawa_beta model) (with_coordinate o (with_coordinate p (with_coordinate (Some c) (Some []))))) (sym first) (sym second)
            ∙ ap (λ q. value_or zero_poly (yukawa_beta model) (with_coordinate (slice_get (map Of F) j) (with_coordinate (slice_get (map Of F) k) (with_coordinate q (Some []))))) (sym (coordinate_there model a inside))
        by_place (inr past) =
            let F = fermion_components model in
            let none : slice_get (scalar_coordinates model) a ≡ None = slice_get_past (scalar_coordinates model) a (omega (arith, past.0, betas.count)) in
            ap (λ o. value_or_zero o (j ∷ k ∷ [])) past.1
            ∙ no_coordinate (slice_get (map Of F) j) (slice_get (map Of F) k)
            ∙ ap (λ q. value_or zero_poly (yukawa_beta model) (with_coordinate (slice_get (map Of F) j) (with_coordinate (slice_get (map Of F) k) (with_coordinate q (Some []))))) (sym none)

    pub has_betas : (t : Tensor) → HasValues 3 (stacked_at ts) t → HasValues 3 (yukawa_beta_at model) t
    has_betas t =
        other_values 3 3 (stacked_at ts) (yukawa_beta_at model) t refl
        (λ key l. of_three (λ ks. stacked_at ts ks ≡ yukawa_beta_at model ks) stacked_is key l)

-- ---- refusals

-- no sum of nothing is refused
pub no_memory : (vs : List Value) → vs ≡ [] → (fault : TensorFault) → IsSumRefusalOf vs fault → fault ≡ TensorFault.NoMemory
no_memory vs is (Overflow pair) refused = absurd (refused.0 is)
no_memory vs is NoMemory refused = refl

-- a refusal where there is an entry
pub refused_of : {A : Type 0} (xs : List A) → xs ≢ [] → (fault : TensorFault) → IsTensorRefusal fault → IsRefusalOf xs fault
refused_of xs some (Overflow pair) refused = (some, refused)
refused_of xs some NoMemory refused = tt

pub memory_refusal : {A : Type 0} (xs : List A) (fault : TensorFault) → fault ≡ TensorFault.NoMemory → IsRefusalOf xs fault
memory_refusal xs fault is = subst (IsRefusalOf xs) (sym is) tt

pub no_items : {A : Type 0} (xs : List A) → length xs ≡ 0 → xs ≡ []
no_items [] e = refl
no_items (x ∷ xs) e = absurd (omega arith)
