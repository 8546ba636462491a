-- Walks over failures that stop at the first.
use Rattle.std.specs.Prelude.{◌≡◌, ◌≢◌, ◌≤◌, ◌+◌, ⊤, ℕ, List, [], ◌∷◌, ◌++◌, map, length, Result, Err}
use Rattle.std.specs.List.{flat_map}
use Rattle.std.proofs.Common.{drop, sym, ap, subst, ◌∙◌, drop_of_length-le}
use Rattle.std.proofs.lemmas.List.{append-nil}
use Rattle.std.proofs.lemmas.List.Concat.{flat_map-append}
use Rattle.sparse_tensor.specs.declared.fault.TensorFault.{TensorFault}
use Rattle.sparse_tensor.specs.declared.fault.TensorFault.TheVariants as tensor
use Rattle.sparse_tensor.specs.Refusals.{IsTensorRefusal}
use Rattle.model_core.specs.declared.model.Model.{Model}
use Rattle.model_core.specs.declared.generator.Generator.{Generator}
use Rattle.model_core.specs.declared.term.Term.{Term}
use Rattle.model_core.specs.TermTensor.{legs_of}
use Rattle.model_core.specs.Directions.{Direction}
use Rattle.model_core.specs.Invariance.{Failure, keys_of, failure_at, failures_under}
use Rattle.gauge_check.specs.declared.fault.CheckError.{CheckError}
use Rattle.gauge_check.specs.declared.fault.CheckError.TheVariants as error
use Rattle.gauge_check.specs.declared.fault.TermFault.{TermFault}
use Rattle.gauge_check.specs.Faults.{IsFirstOf, Checks, check_error}
use Rattle.gauge_check.specs.Steps.{side_failures}

first_of_more : (model : Model) (xs ys : List Failure) (f : TermFault) → IsFirstOf model xs f → IsFirstOf model (xs ++ ys) f
first_of_more model [] ys f first = absurd first
first_of_more model (x ∷ xs) ys f first = first

module _ (model : Model) where
  -- what stops a walk stops it before more failures too
  pub checks_before : (e : CheckError) (xs ys : List Failure) → Checks model xs (Err e) → Checks model (xs ++ ys) (Err e)
  checks_before (error.Fault f) xs ys given = first_of_more model xs ys f given
  checks_before (error.Overflow pair) xs ys given = given
  checks_before error.NoMemory xs ys given = tt

  -- after none the others decide
  pub checks_after : (xs ys : List Failure) (r : Result ⊤ CheckError) → xs ≡ [] → Checks model ys r → Checks model (xs ++ ys) r
  checks_after xs ys r none given = subst (λ zs. Checks model (zs ++ ys) r) (sym none) given

  pub checks_same : (xs ys : List Failure) (r : Result ⊤ CheckError) → xs ≡ ys → Checks model xs r → Checks model ys r
  checks_same xs ys r same given = subst (λ zs. Checks model zs r) same given

  -- the exit of a step
  pub checks_exit : (fs : List Failure) (r : Result ⊤ CheckError) (e y : CheckError) → r ≡ Err y → y ≡ e → Checks model fs (Err e) → Checks model fs r
  checks_exit fs r e y is same given = subst (Checks model fs) (sym (is ∙ ap Err same)) given

  -- a refused sum or product, where the model has a term
  pub checks_refused : (fs : List Failure) (refused : TensorFault) → model.terms ≢ [] → IsTensorRefusal refused → Checks model fs (Err (check_error refused))
  checks_refused fs (tensor.Overflow pair) terms given = (terms, given)
  checks_refused fs tensor.NoMemory terms given = tt

  -- ---- over a list

  module _ {A : Type 0} (f : A → List Failure) (xs : List A) (i : ℕ) where
    -- an item without failures
    pub walk_step : (x : A) → drop i xs ≡ x ∷ drop (i + 1) xs → f x ≡ [] → flat_map f (drop i xs) ≡ flat_map f xs → flat_map f (drop (i + 1) xs) ≡ flat_map f xs
    walk_step x here none so_far = sym (ap (flat_map f) here ∙ ap (λ ys. ys ++ flat_map f (drop (i + 1) xs)) none) ∙ so_far

    -- an item at which the walk stops
    pub walk_stop : (x : A) (e : CheckError) → drop i xs ≡ x ∷ drop (i + 1) xs → flat_map f (drop i xs) ≡ flat_map f xs → Checks model (f x) (Err e) → Checks model (flat_map f xs) (Err e)
    walk_stop x e here so_far given =
        subst (λ fs. Checks model fs (Err e)) (sym (ap (flat_map f) here) ∙ so_far) (checks_before e (f x) (flat_map f (drop (i + 1) xs)) given)

    pub walk_end : length xs ≤ i → flat_map f (drop i xs) ≡ flat_map f xs → flat_map f xs ≡ []
    walk_end over so_far = sym so_far ∙ ap (flat_map f) (drop_of_length-le xs over)

  -- ---- both sides

  -- the failures under a generator are those on the two sides
  pub under_sides : (term : Term) (meant : Direction) (x : Generator) → side_failures model term meant x 0 ++ side_failures model term meant x 1 ≡ failures_under model term meant x
  under_sides term meant x =
      let keys = keys_of (legs_of model meant.kind) in
      sym (flat_map-append (failure_at model term meant x) (map (λ key. 0 ∷ key) keys) (map (λ key. 1 ∷ key) keys ++ [])
      ∙ ap (λ ys. side_failures model term meant x 0 ++ flat_map (failure_at model term meant x) ys) (append-nil (map (λ key. 1 ∷ key) keys)))
