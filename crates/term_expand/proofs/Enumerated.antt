-- The sum over all ways to give components to the fields of a monomial, field by field.
use Rattle.std.specs.Prelude.{◌≡◌, ℕ, suc, Bool, false, List, [], ◌∷◌, ◌++◌, map, length}
use Rattle.std.proofs.Common.{refl, sym, ap, ap₂, ◌∙◌, append_assoc, append-nil, Ordering, Less, Equal, Greater}
use Rattle.std.proofs.lemmas.Grind.{flat_map-append}
use mathlib.Core.Path.{fun_ext}
use Rattle.exact_algebra.specs.Ring.{Semiring}
use Rattle.exact_algebra.specs.Sums.{sum, sum-nil, sum-cons, sum-one, sum-append, sum-map, sum-filter, sum-zero, where_equal, where_true}
use Rattle.model_core.specs.declared.model.Model.{Model}
use Rattle.model_core.specs.declared.content.LabelValue.{LabelValue}
use Rattle.model_core.specs.declared.term.Generation.{Generation}
use Rattle.model_core.specs.declared.term.Factor.{Factor}
use Rattle.model_core.specs.declared.term.Factor.TheVariants.{Fermion, Scalar, Eps, Table}
use Rattle.model_core.specs.declared.term.TermKind.{TermKind}
use Rattle.model_core.specs.declared.term.TermKind.TheVariants as kind
use Rattle.model_core.specs.declared.component_lists.FieldComponent.{FieldComponent}
use Rattle.model_core.specs.ComponentLists.{fermion_list, scalar_list}
use Rattle.model_core.specs.Content.{generation_at}
use Rattle.model_core.specs.MonomialValue.{label_values, are_equal}
use Rattle.term_expand.specs.declared.candidates.Candidate.{Candidate}
use Rattle.term_expand.specs.declared.assignments.Assignment.{Assignment}
use Rattle.term_expand.specs.Candidates.{is_candidate, candidates_from}
use Rattle.term_expand.specs.Assignments.{with_candidate, fits, extended, extended_all, after_factor, assigned}
use Rattle.term_expand.proofs.CandidateSums.{true-zero}

-- ---- candidates

-- the test of a component for a factor's field
abbrev pub is_fermion_candidate : Model → ℕ → ℕ → ℕ → Generation → FieldComponent → Bool
is_fermion_candidate model row column field generation = is_candidate model.fermions field false (generation_at row column generation)

abbrev pub is_scalar_candidate : Model → ℕ → ℕ → ℕ → Bool → Generation → FieldComponent → Bool
is_scalar_candidate model row column field conj generation = is_candidate model.scalars field conj (generation_at row column generation)

-- the candidates for it
abbrev pub fermion_candidates : Model → ℕ → ℕ → ℕ → Generation → List Candidate
fermion_candidates model row column field generation = candidates_from (is_fermion_candidate model row column field generation) 0 (fermion_list model)

abbrev pub scalar_candidates : Model → ℕ → ℕ → ℕ → Bool → Generation → List Candidate
scalar_candidates model row column field conj generation = candidates_from (is_scalar_candidate model row column field conj generation) 0 (scalar_list model)

-- ---- the assignments that extend one

module _ (model : Model) (row column : ℕ) where
  after-nil : (factor : Factor) → after_factor model row column factor [] ≡ []
  after-nil (Fermion field generation labels) = refl
  after-nil (Scalar field conj generation labels) = refl
  after-nil (Eps labels) = refl
  after-nil (Table table labels) = refl

  after-append : (factor : Factor) (xs ys : List Assignment) → after_factor model row column factor (xs ++ ys) ≡ after_factor model row column factor xs ++ after_factor model row column factor ys
  after-append (Fermion field generation labels) xs ys =
      flat_map-append (extended kind.Fermion labels (fermion_candidates model row column field generation)) xs ys
  after-append (Scalar field conj generation labels) xs ys =
      flat_map-append (extended kind.Scalar labels (scalar_candidates model row column field conj generation)) xs ys
  after-append (Eps labels) xs ys = refl
  after-append (Table table labels) xs ys = refl

  -- no assignment is extended to none, and two lists are extended one after the other
  pub assigned-nil : (factors : List Factor) → assigned model row column factors [] ≡ []
  assigned-nil [] = refl
  assigned-nil (factor ∷ factors) = ap (assigned model row column factors) (after-nil factor) ∙ assigned-nil factors

  pub assigned-append : (factors : List Factor) (xs ys : List Assignment) → assigned model row column factors (xs ++ ys) ≡ assigned model row column factors xs ++ assigned model row column factors ys
  assigned-append [] xs ys = refl
  assigned-append (factor ∷ factors) xs ys =
      ap (assigned model row column factors) (after-append factor xs ys)
      ∙ assigned-append factors (after_factor model row column factor xs) (after_factor model row column factor ys)

-- ---- sums over them

-- how many fermions and scalars factors have
unfoldable pub fermion_count : List Factor → ℕ
fermion_count [] = 0
fermion_count (Fermion field generation labels ∷ factors) = suc (fermion_count factors)
fermion_count (Scalar field conj generation labels ∷ factors) = fermion_count factors
fermion_count (Eps labels ∷ factors) = fermion_count factors
fermion_count (Table table labels ∷ factors) = fermion_count factors

unfoldable pub scalar_count : List Factor → ℕ
scalar_count [] = 0
scalar_count (Fermion field generation labels ∷ factors) = scalar_count factors
scalar_count (Scalar field conj generation labels ∷ factors) = suc (scalar_count factors)
scalar_count (Eps labels ∷ factors) = scalar_count factors
scalar_count (Table table labels ∷ factors) = scalar_count factors

module _ (R : Semiring) (model : Model) (row column : ℕ) where
  open R use {carrier as C, zero as 𝟘}

  -- a function of the places of fermions, of those of scalars, and of slots with their values
  abbrev pub Weight : Type 0
  Weight = List ℕ → List ℕ → List LabelValue → C

  -- over the candidates for a field whose slots have values that fit to these
  abbrev pub over_candidates : List Candidate → List ℕ → List LabelValue → (Candidate → List LabelValue → C) → C
  over_candidates candidates labels slots next =
      sum R candidates (λ c. where_true R (are_equal (slots ++ label_values labels c.slots)) (next c (slots ++ label_values labels c.slots)))

  -- over all ways to give components to the fields, where others have these slots
  unfoldable pub over : List Factor → List LabelValue → Weight → C
  over [] slots F = F [] [] slots
  over (Fermion field generation labels ∷ factors) slots F =
      over_candidates (fermion_candidates model row column field generation) labels slots (λ c more. over factors more (λ fs ss. F (c.place ∷ fs) ss))
  over (Scalar field conj generation labels ∷ factors) slots F =
      over_candidates (scalar_candidates model row column field conj generation) labels slots (λ c more. over factors more (λ fs ss. F fs (c.place ∷ ss)))
  over (Eps labels ∷ factors) slots F = over factors slots F
  over (Table table labels ∷ factors) slots F = over factors slots F

  sum_assigned : (factors : List Factor) (all : List Assignment) (G : Assignment → C) → sum R (assigned model row column factors all) G ≡ sum R all (λ a. sum R (assigned model row column factors (a ∷ [])) G)
  sum_assigned factors [] G =
      ap (λ xs. sum R xs G) (assigned-nil model row column factors) ∙ sum-nil R G ∙ sym (sum-nil R (λ a. sum R (assigned model row column factors (a ∷ [])) G))
  sum_assigned factors (a ∷ all) G =
      ap (λ xs. sum R xs G) (assigned-append model row column factors (a ∷ []) all)
      ∙ sum-append R (assigned model row column factors (a ∷ [])) (assigned model row column factors all) G
      ∙ ap (λ s. R.add (sum R (assigned model row column factors (a ∷ [])) G) s) (sum_assigned factors all G)
      ∙ sym (sum-cons R a all (λ b. sum R (assigned model row column factors (b ∷ [])) G))

  -- one more field
  one_more : (of : TermKind) (labels : List ℕ) (candidates : List Candidate) (factors : List Factor) (a : Assignment) (G : Assignment → C)
      → sum R (assigned model row column factors (extended_all of labels candidates (a ∷ []))) G
      ≡ sum R candidates (λ c. where_true R (fits (with_candidate of labels a c)) (sum R (assigned model row column factors (with_candidate of labels a c ∷ [])) G))
  one_more of labels candidates factors a G =
      let next : Assignment → C = λ b. sum R (assigned model row column factors (b ∷ [])) G in
      ap (λ all. sum R (assigned model row column factors all) G) (append-nil (extended of labels candidates a))
      ∙ sum_assigned factors (extended of labels candidates a) G
      ∙ sum-filter R fits (map (with_candidate of labels a) candidates) next
      ∙ sum-map R (with_candidate of labels a) candidates (λ b. where_true R (fits b) (next b))

  -- the sum over the assignments that extend one
  pub sum_over : (factors : List Factor) (a : Assignment) (F : Weight)
      → sum R (assigned model row column factors (a ∷ [])) (λ b. F b.fermions b.scalars b.slots) ≡ over factors a.slots (λ fs ss. F (a.fermions ++ fs) (a.scalars ++ ss))
  unfolding over
  sum_over [] a F =
      sum-one R a (λ b. F b.fermions b.scalars b.slots) ∙ ap₂ (λ fs ss. F fs ss a.slots) (sym (append-nil a.fermions)) (sym (append-nil a.scalars))
  sum_over (Fermion field generation labels ∷ factors) a F =
      one_more kind.Fermion labels (fermion_candidates model row column field generation) factors a (λ b. F b.fermions b.scalars b.slots)
      ∙ ap (sum R (fermion_candidates model row column field generation)) (fun_ext (λ c. ap (where_true R (are_equal (a.slots ++ label_values labels c.slots)))
      (sum_over factors (with_candidate kind.Fermion labels a c) F
      ∙ ap (over factors (a.slots ++ label_values labels c.slots)) (fun_ext (λ fs. fun_ext (λ ss. ap (λ gs. F gs (a.scalars ++ ss)) (append_assoc a.fermions (c.place ∷ []) fs)))))))
  sum_over (Scalar field conj generation labels ∷ factors) a F =
      one_more kind.Scalar labels (scalar_candidates model row column field conj generation) factors a (λ b. F b.fermions b.scalars b.slots)
      ∙ ap (sum R (scalar_candidates model row column field conj generation)) (fun_ext (λ c. ap (where_true R (are_equal (a.slots ++ label_values labels c.slots)))
      (sum_over factors (with_candidate kind.Scalar labels a c) F
      ∙ ap (over factors (a.slots ++ label_values labels c.slots)) (fun_ext (λ fs. fun_ext (λ ss. ap (λ gs. F (a.fermions ++ fs) gs) (append_assoc a.scalars (c.place ∷ []) ss)))))))
  sum_over (Eps labels ∷ factors) a F = sum_over factors a F
  sum_over (Table table labels ∷ factors) a F = sum_over factors a F

  -- functions that are the same where a place is given to each field
  pub over-same : (factors : List Factor) (slots : List LabelValue) (F G : Weight)
      → ((fs ss : List ℕ) (more : List LabelValue) → length fs ≡ fermion_count factors → length ss ≡ scalar_count factors → F fs ss more ≡ G fs ss more)
      → over factors slots F ≡ over factors slots G
  unfolding over fermion_count scalar_count
  over-same [] slots F G h = h [] [] slots refl refl
  over-same (Fermion field generation labels ∷ factors) slots F G h =
      ap (sum R (fermion_candidates model row column field generation))
      (fun_ext (λ c. ap (where_true R (are_equal (slots ++ label_values labels c.slots)))
      (over-same factors (slots ++ label_values labels c.slots) (λ fs ss. F (c.place ∷ fs) ss) (λ fs ss. G (c.place ∷ fs) ss) (λ fs ss more l m. h (c.place ∷ fs) ss more (ap suc l) m))))
  over-same (Scalar field conj generation labels ∷ factors) slots F G h =
      ap (sum R (scalar_candidates model row column field conj generation))
      (fun_ext (λ c. ap (where_true R (are_equal (slots ++ label_values labels c.slots)))
      (over-same factors (slots ++ label_values labels c.slots) (λ fs ss. F fs (c.place ∷ ss)) (λ fs ss. G fs (c.place ∷ ss)) (λ fs ss more l m. h fs (c.place ∷ ss) more l (ap suc m)))))
  over-same (Eps labels ∷ factors) slots F G h = over-same factors slots F G h
  over-same (Table table labels ∷ factors) slots F G h = over-same factors slots F G h

  -- where nothing counts the sum is 0
  pub over_candidates-zero : (candidates : List Candidate) (labels : List ℕ) (slots : List LabelValue) (next : Candidate → List LabelValue → C)
      → ((c : Candidate) (more : List LabelValue) → next c more ≡ 𝟘) → over_candidates candidates labels slots next ≡ 𝟘
  over_candidates-zero candidates labels slots next h =
      ap (sum R candidates) (fun_ext (λ c. ap (where_true R (are_equal (slots ++ label_values labels c.slots))) (h c (slots ++ label_values labels c.slots)) ∙ true-zero R (are_equal (slots ++ label_values labels c.slots))))
      ∙ sum-zero R candidates

  pub over-zero : (factors : List Factor) (slots : List LabelValue) → over factors slots (λ fs ss more. 𝟘) ≡ 𝟘
  unfolding over
  over-zero [] slots = refl
  over-zero (Fermion field generation labels ∷ factors) slots =
      over_candidates-zero (fermion_candidates model row column field generation) labels slots (λ c more. over factors more (λ fs ss more. 𝟘)) (λ c more. over-zero factors more)
  over-zero (Scalar field conj generation labels ∷ factors) slots =
      over_candidates-zero (scalar_candidates model row column field conj generation) labels slots (λ c more. over factors more (λ fs ss more. 𝟘)) (λ c more. over-zero factors more)
  over-zero (Eps labels ∷ factors) slots = over-zero factors slots
  over-zero (Table table labels ∷ factors) slots = over-zero factors slots

  -- an outcome of a comparison goes out of the sum
  pub over-where : (o : Ordering) (factors : List Factor) (slots : List LabelValue) (F : Weight)
      → over factors slots (λ fs ss more. where_equal R o (F fs ss more)) ≡ where_equal R o (over factors slots F)
  over-where Less factors slots F = over-zero factors slots
  over-where Equal factors slots F = refl
  over-where Greater factors slots F = over-zero factors slots
