-- The slots of a monomial's fields with the components at given places, and the sum over the assignments of these places.
use Rattle.std.specs.Prelude.{◌≡◌, ◌==◌, ◌&&◌, if◌then◌else◌, ℕ, zero, suc, ◌+◌, Bool, true, false, List, [], ◌∷◌, ◌++◌, length, replicate, slice_get, Option, Some, None, option_map}
use Rattle.std.specs.List.{list_all}
use Rattle.std.specs.Ordering.{nat_cmp}
use Rattle.std.proofs.Common.{refl, sym, ap, ◌∙◌, arith, append_assoc, append-nil, Ordering}
use Rattle.std.proofs.lemmas.Cmp.{tied_itself, nat_cmp_total}
use mathlib.Core.Path.{fun_ext}
use Rattle.exact_algebra.specs.Ring.{Semiring}
use Rattle.exact_algebra.specs.Sums.{sum, where_equal, where_true, where_equal-apart, nat_equal}
use Rattle.exact_algebra.specs.Kronecker.{where_then, where_comm, where_zero}
use Rattle.exact_algebra.specs.TensorContraction.{places_cmp}
use Rattle.model_core.specs.declared.model.Model.{Model}
use Rattle.model_core.specs.declared.content.LabelValue.{LabelValue}
use Rattle.model_core.specs.declared.term.Factor.{Factor}
use Rattle.model_core.specs.declared.term.Factor.TheVariants.{Fermion, Scalar, Eps, Table}
use Rattle.model_core.specs.declared.component_lists.FieldComponent.{FieldComponent}
use Rattle.model_core.specs.ComponentLists.{fermion_list, scalar_list}
use Rattle.model_core.specs.MonomialValue.{label_values, are_equal}
use Rattle.term_expand.specs.Candidates.{candidates_from}
use Rattle.term_expand.proofs.CandidateSums.{at_candidate, sum_candidates}
use Rattle.term_expand.proofs.EqualSlots.{unequal_front}
use Rattle.term_expand.proofs.Enumerated.{is_fermion_candidate, is_scalar_candidate, fermion_candidates, scalar_candidates, scalar_count, Weight, over, over_candidates-zero, over-zero, over-where}

-- ---- the slots

-- the slots of a field's component where it passes a test, and then those of others
abbrev pub filled_with : Bool → List ℕ → FieldComponent → Option (List LabelValue) → Option (List LabelValue)
filled_with false labels x others = None
filled_with true labels x others = option_map (λ slots. label_values labels x.slots ++ slots) others

-- the slots of what stands at a place
abbrev pub taken : (FieldComponent → Bool) → List ℕ → Option FieldComponent → Option (List LabelValue) → Option (List LabelValue)
taken test labels None others = None
taken test labels (Some x) others = filled_with (test x) labels x others

-- the place is that of the dummy
abbrev pub is_dummy_place : ℕ → ℕ → Bool
is_dummy_place dummy place = place == dummy

-- the slots of fields with the components at places of fermions and of scalars, where the dummy's place is left over
abbrev pub slots_at : Model → ℕ → ℕ → List Factor → List ℕ → List ℕ → Option (List LabelValue)
slots_at model row column [] [] ss = if list_all (is_dummy_place (length (scalar_list model))) ss then Some [] else None
slots_at model row column (Fermion field generation labels ∷ factors) (p ∷ fs) ss =
    taken (is_fermion_candidate model row column field generation) labels (slice_get (fermion_list model) p) (slots_at model row column factors fs ss)
slots_at model row column (Scalar field conj generation labels ∷ factors) fs (p ∷ ss) =
    taken (is_scalar_candidate model row column field conj generation) labels (slice_get (scalar_list model) p) (slots_at model row column factors fs ss)
slots_at model row column (Eps labels ∷ factors) fs ss = slots_at model row column factors fs ss
slots_at model row column (Table table labels ∷ factors) fs ss = slots_at model row column factors fs ss
slots_at model row column _ _ _ = None

-- ---- one field

module _ (R : Semiring) (W : List LabelValue → R.carrier) where
  open R use {carrier as C, zero as 𝟘}

  -- the weight of slots behind others, where all are equal
  abbrev pub weight : List LabelValue → Option (List LabelValue) → C
  weight slots None = 𝟘
  weight slots (Some more) = where_true R (are_equal (slots ++ more)) (W (slots ++ more))

  weight-append : (slots values : List LabelValue) (o : Option (List LabelValue)) → weight (slots ++ values) o ≡ weight slots (option_map (λ more. values ++ more) o)
  weight-append slots values None = refl
  weight-append slots values (Some more) = ap (λ all. where_true R (are_equal all) (W all)) (append_assoc slots values more)

  weight_unequal : (slots values : List LabelValue) (o : Option (List LabelValue)) → are_equal (slots ++ values) ≡ false → 𝟘 ≡ weight slots (option_map (λ more. values ++ more) o)
  weight_unequal slots values None h = refl
  weight_unequal slots values (Some more) h =
      sym (ap (λ b. where_true R b (W (slots ++ (values ++ more)))) (ap are_equal (sym (append_assoc slots values more)) ∙ unequal_front (slots ++ values) more h))

  true_where : (b : Bool) (o : Ordering) (c : C) → where_true R b (where_equal R o c) ≡ where_equal R o (where_true R b c)
  true_where true o c = refl
  true_where false o c = sym (where_zero R o)

  by_equal : (b : Bool) (slots values : List LabelValue) (next : List LabelValue → C) (o : Option (List LabelValue))
      → ((more : List LabelValue) → are_equal more ≡ true → next more ≡ weight more o) → are_equal (slots ++ values) ≡ b
      → where_true R b (next (slots ++ values)) ≡ weight slots (option_map (λ more. values ++ more) o)
  by_equal true slots values next o h e = h (slots ++ values) e ∙ weight-append slots values o
  by_equal false slots values next o h e = weight_unequal slots values o e

  by_test : (b : Bool) (labels : List ℕ) (x : FieldComponent) (slots : List LabelValue) (next : List LabelValue → C) (o : Option (List LabelValue))
      → ((more : List LabelValue) → are_equal more ≡ true → next more ≡ weight more o)
      → where_true R b (where_true R (are_equal (slots ++ label_values labels x.slots)) (next (slots ++ label_values labels x.slots))) ≡ weight slots (filled_with b labels x o)
  by_test true labels x slots next o h = by_equal (are_equal (slots ++ label_values labels x.slots)) slots (label_values labels x.slots) next o h refl
  by_test false labels x slots next o h = refl

  -- the component at a place, given to a field
  pub one_field : (test : FieldComponent → Bool) (labels : List ℕ) (xs : List FieldComponent) (slots : List LabelValue) (p : ℕ) (next : List LabelValue → C) (o : Option (List LabelValue))
      → ((more : List LabelValue) → are_equal more ≡ true → next more ≡ weight more o)
      → sum R (candidates_from test 0 xs) (λ c. where_true R (are_equal (slots ++ label_values labels c.slots)) (where_equal R (nat_cmp p c.place) (next (slots ++ label_values labels c.slots))))
      ≡ weight slots (taken test labels (slice_get xs p) o)
  one_field test labels xs slots p next o h =
      let from_first : p ≡ 0 + p = omega arith in
      ap (sum R (candidates_from test 0 xs)) (fun_ext (λ c. true_where (are_equal (slots ++ label_values labels c.slots)) (nat_cmp p c.place) (next (slots ++ label_values labels c.slots))))
      ∙ sum_candidates R test p 0 p xs (λ c. where_true R (are_equal (slots ++ label_values labels c.slots)) (next (slots ++ label_values labels c.slots))) from_first
      ∙ found (slice_get xs p)
    where
      found : (x : Option FieldComponent) → at_candidate R test p (λ c. where_true R (are_equal (slots ++ label_values labels c.slots)) (next (slots ++ label_values labels c.slots))) x ≡ weight slots (taken test labels x o)
      found None = refl
      found (Some x) = by_test (test x) labels x slots next o h

-- ---- the dummies

module _ (R : Semiring) where
  open R use {carrier as C}

  by_dummy : (b : Bool) (place dummy : ℕ) (all : Bool) (c : C) → (place == dummy) ≡ b → where_equal R (nat_cmp place dummy) (where_true R all c) ≡ where_true R (b && all) c
  by_dummy true place dummy all c e =
      let same : place ≡ dummy = grind arith in
      ap (λ o. where_equal R o (where_true R all c)) (ap (nat_cmp place) (sym same) ∙ tied_itself nat_cmp_total place)
  by_dummy false place dummy all c e =
      let other : place ≡ dummy → ⊥ = λ s. grind arith in
      where_equal-apart R (nat_cmp place dummy) (where_true R all c) (λ s. other (nat_equal place dummy s))

  all_dummies : (places : List ℕ) (n dummy : ℕ) (c : C) → length places ≡ n → where_equal R (places_cmp places (replicate n dummy)) c ≡ where_true R (list_all (is_dummy_place dummy) places) c
  all_dummies [] zero dummy c h = refl
  all_dummies [] (suc n) dummy c h = absurd (omega (arith, h))
  all_dummies (p ∷ places) zero dummy c h = absurd (omega (arith, h))
  all_dummies (p ∷ places) (suc n) dummy c h =
      where_then R (nat_cmp p dummy) (places_cmp places (replicate n dummy)) c
      ∙ ap (where_equal R (nat_cmp p dummy)) (all_dummies places n dummy c (omega (arith, h)))
      ∙ by_dummy (p == dummy) p dummy (list_all (is_dummy_place dummy) places) c refl

  -- dummies at the places that are left over
  pub left_over : (W : List LabelValue → C) (slots : List LabelValue) (places : List ℕ) (n dummy : ℕ) → are_equal slots ≡ true → length places ≡ n
      → where_equal R (places_cmp places (replicate n dummy)) (W slots) ≡ weight R W slots (if list_all (is_dummy_place dummy) places then Some [] else None)
  left_over W slots places n dummy equal h = all_dummies places n dummy (W slots) h ∙ by_all (list_all (is_dummy_place dummy) places)
    where
      by_all : (b : Bool) → where_true R b (W slots) ≡ weight R W slots (if b then Some [] else None)
      by_all true = sym (ap (λ all. where_true R (are_equal all) (W all)) (append-nil slots) ∙ ap (λ b. where_true R b (W slots)) equal)
      by_all false = refl

-- ---- all fields

module _ (R : Semiring) (W : List LabelValue → R.carrier) (model : Model) (row column n : ℕ) where
  -- the weight of slots at places of fermions and of scalars, with n dummies behind them
  abbrev pub key_weight : List ℕ → List ℕ → Weight R model row column
  key_weight fs ss gs hs slots =
      where_equal R (places_cmp fs gs) (where_equal R (places_cmp ss (hs ++ replicate n (length (scalar_list model)))) (W slots))

  -- the sum over all assignments of these places is the weight of their slots
  pub over_at : (factors : List Factor) (slots : List LabelValue) (fs ss : List ℕ) → are_equal slots ≡ true → length ss ≡ scalar_count factors + n
      → over R model row column factors slots (key_weight fs ss) ≡ weight R W slots (slots_at model row column factors fs ss)
  unfolding over scalar_count
  over_at [] slots [] ss equal h = left_over R W slots ss n (length (scalar_list model)) equal (omega (arith, h))
  over_at [] slots (p ∷ fs) ss equal h = refl
  over_at (Fermion field generation labels ∷ factors) slots [] ss equal h =
      over_candidates-zero R model row column (fermion_candidates model row column field generation) labels slots
      (λ c more. over R model row column factors more (λ gs hs rest. R.zero)) (λ c more. over-zero R model row column factors more)
  over_at (Fermion field generation labels ∷ factors) slots (p ∷ fs) ss equal h =
      ap (sum R (fermion_candidates model row column field generation))
      (fun_ext (λ c. ap (where_true R (are_equal (slots ++ label_values labels c.slots)))
      (ap (over R model row column factors (slots ++ label_values labels c.slots)) (fun_ext (λ gs. fun_ext (λ hs. fun_ext (λ more. where_then R (nat_cmp p c.place) (places_cmp fs gs) (where_equal R (places_cmp ss (hs ++ replicate n (length (scalar_list model)))) (W more))))))
      ∙ over-where R model row column (nat_cmp p c.place) factors (slots ++ label_values labels c.slots) (key_weight fs ss))))
      ∙ one_field R W (is_fermion_candidate model row column field generation) labels (fermion_list model) slots p (λ more. over R model row column factors more (key_weight fs ss)) (slots_at model row column factors fs ss) (λ more e. over_at factors more fs ss e h)
  over_at (Scalar field conj generation labels ∷ factors) slots fs [] equal h = absurd (omega (arith, h))
  over_at (Scalar field conj generation labels ∷ factors) slots fs (p ∷ ss) equal h =
      ap (sum R (scalar_candidates model row column field conj generation))
      (fun_ext (λ c. ap (where_true R (are_equal (slots ++ label_values labels c.slots)))
      (ap (over R model row column factors (slots ++ label_values labels c.slots)) (fun_ext (λ gs. fun_ext (λ hs. fun_ext (λ more.
      ap (where_equal R (places_cmp fs gs)) (where_then R (nat_cmp p c.place) (places_cmp ss (hs ++ replicate n (length (scalar_list model)))) (W more))
      ∙ where_comm R (places_cmp fs gs) (nat_cmp p c.place) (where_equal R (places_cmp ss (hs ++ replicate n (length (scalar_list model)))) (W more))))))
      ∙ over-where R model row column (nat_cmp p c.place) factors (slots ++ label_values labels c.slots) (key_weight fs ss))))
      ∙ one_field R W (is_scalar_candidate model row column field conj generation) labels (scalar_list model) slots p (λ more. over R model row column factors more (key_weight fs ss)) (slots_at model row column factors fs ss) (λ more e. over_at factors more fs ss e (omega (arith, h)))
  over_at (Eps labels ∷ factors) slots fs ss equal h = over_at factors slots fs ss equal h
  over_at (Table table labels ∷ factors) slots fs ss equal h = over_at factors slots fs ss equal h
