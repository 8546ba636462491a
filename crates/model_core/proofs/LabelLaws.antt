-- A monomial whose labels and `eps` have no bad place is joined.
use Rattle.std.proofs.Common.{◌≡◌, ℕ, suc, ◌+◌, ◌<◌, ◌≤◌, Bool, true, false, List, [], ◌∷◌, ◌++◌, map, length, Option, Some, None, refl, sym, ap, subst, ◌∙◌, arith, inl, inr}
use Rattle.std.specs.Prelude.{◌&&◌, not, nat_lt, position, unwrap_or, if◌then◌else◌, is_some}
use Rattle.std.specs.List.{flat_map, list_all, list_any, position_or_len}
use Rattle.std.proofs.lemmas.List.{length-append, length-map}
use Rattle.std.proofs.lemmas.List.Folds.{list_all-append}
use Rattle.std.proofs.lemmas.Bool.{cases_Bool}
use Rattle.std.proofs.lemmas.Bool.Decides.{nat_tests, leb_tells}
use Rattle.model_core.specs.declared.group.Group.{Group}
use Rattle.model_core.specs.declared.model.Model.{Model}
use Rattle.model_core.specs.declared.fault.ReadFault.{ReadFault}
use Rattle.model_core.specs.declared.fault.ReadKind.{ReadKind}
use Rattle.model_core.specs.declared.fault.ReadKind.TheVariants.{WrongSlots, LabelCount}
use Rattle.model_core.specs.declared.fault.FaultPlace.{FaultPlace}
use Rattle.model_core.specs.declared.sum.Span.{Span}
use Rattle.model_core.specs.declared.sum.WrittenFactor.{WrittenFactor}
use Rattle.model_core.specs.declared.sum.WrittenMonomial.{WrittenMonomial}
use Rattle.model_core.specs.declared.referent.Referent.{Referent}
use Rattle.model_core.specs.declared.referent.Referent.TheVariants as referent
use Rattle.model_core.specs.declared.term.Generation.{Generation}
use Rattle.model_core.specs.declared.term.Factor.{Factor}
use Rattle.model_core.specs.declared.content.LabelledSlot.{LabelledSlot}
use Rattle.model_core.specs.Fault.{fault, bad_where, offset_place}
use Rattle.model_core.specs.TermMeaning.{same_text, first_labels, labels_in, written_labels, labels_of_monomial, label_number, label_numbers, factor_named, factor_of, referent_at, generation_in, monomial_of}
use Rattle.model_core.specs.Factors.{labels_of, all_labels, labelled_slots, are_joined, joins_two, joins_one_group, is_joined, eps_fits}
use Rattle.model_core.specs.TermWalk.{label_places, labels_places, eps_places, all_eps_places, join_places}

-- ---- no bad place

pub append_nothing : {A : Type 0} (xs ys : List A) → xs ++ ys ≡ [] → (xs ≡ []) × (ys ≡ [])
append_nothing [] ys none = (refl, none)
append_nothing (x ∷ xs) ys none = let never : ⊥ = cc in absurd never

pub good_where : (bad : Bool) (place : FaultPlace) (kind : ReadKind) → bad_where bad place kind ≡ [] → bad ≡ false
good_where true place kind none = let never : ⊥ = cc in absurd never
good_where false place kind none = refl

not_false : (b : Bool) → not b ≡ false → b ≡ true
not_false true none = refl
not_false false none = let never : ⊥ = cc in absurd never

label_joined : (two one : Bool) (place : FaultPlace) (kind : ReadKind) (first : ReadFault) → (if not two then first ∷ [] else bad_where (not one) place kind) ≡ [] → (two && one) ≡ true
label_joined true one place kind first none = not_false one (good_where (not one) place kind none)
label_joined false one place kind first none = let never : ⊥ = cc in absurd never

-- ---- labels by their numbers

numbered_joined : (factors : List Factor) (slots : List LabelledSlot) (place : FaultPlace) (number : ℕ) (labels : List Span)
    → labels_places factors slots place number labels ≡ [] → (k : ℕ) → number ≤ k → k < number + length labels → is_joined factors slots k ≡ true
numbered_joined factors slots place number [] none k low high = absurd (omega arith)
numbered_joined factors slots place number (label ∷ labels) none k low high =
    let parts = append_nothing (label_places factors slots (offset_place place label.start) number) (labels_places factors slots place (suc number) labels) none in
    elim (leb_tells (suc number) k) [
      | inl later ↦ numbered_joined factors slots place (suc number) labels parts.1 k later.1 (omega arith)
      | inr here ↦
          let same : number ≡ k = omega (arith, here.1) in
          subst (λ n. is_joined factors slots n ≡ true) same (label_joined (joins_two factors number) (joins_one_group slots number) (offset_place place label.start) WrongSlots (fault (offset_place place label.start) LabelCount) parts.0)
    ]

-- ---- each label has a number

step_grows : (text : List ℕ) (first : List Span) (label : Span) (labels : List Span) (known : Bool)
    → ((next : List Span) → length next ≤ length (first_labels text next labels)) → length first ≤ length (first_labels text (if known then first else first ++ label ∷ []) labels)
step_grows text first label labels true later = later first
step_grows text first label labels false later = omega (arith, later (first ++ label ∷ []), length-append first (label ∷ []))

first_labels_grow : (text : List ℕ) (first labels : List Span) → length first ≤ length (first_labels text first labels)
first_labels_grow text first [] = omega arith
first_labels_grow text first (label ∷ labels) =
    step_grows text first label labels (list_any (same_text text label) first) (λ next. first_labels_grow text next labels)

some_first : (text : List ℕ) (labels : List Span) → 0 < length labels → 0 < length (first_labels text [] labels)
some_first text [] some = some
some_first text (label ∷ labels) some = omega (arith, first_labels_grow text (label ∷ []) labels)

-- the place of an element, or 0
place_inside : {A : Type 0} (test : A → Bool) (xs : List A) → 0 < length xs → unwrap_or (position test xs) 0 < length xs
place_inside test xs some = elim (cases_Bool (nat_lt (position_or_len test xs) (length xs))) [
  | inl inside ↦ let within : position_or_len test xs < length xs = grind (arith, nat_tests) in rw inside within
  | inr outside ↦ rw outside some
]

labels_named : (found : Option Referent) (conj : Bool) (generation : Generation) (labels : List ℕ) → labels_of (factor_named found conj generation labels) ≡ labels
labels_named None conj generation labels = refl
labels_named (Some (referent.Fermion field)) conj generation labels = refl
labels_named (Some (referent.Scalar field)) conj generation labels = refl
labels_named (Some referent.Eps) conj generation labels = refl
labels_named (Some (referent.Table table)) conj generation labels = refl

numbers_pass : (test : ℕ → Bool) (text : List ℕ) (labels own : List Span) → ((n : ℕ) → n < length labels → test n ≡ true) → (0 < length own → 0 < length labels)
    → list_all test (map (label_number text labels) own) ≡ true
numbers_pass test text labels [] each some = refl
numbers_pass test text labels (label ∷ own) each some =
    let inside = place_inside (same_text text label) labels (some (omega arith)) in
    rw (each (label_number text labels label) inside) (numbers_pass test text labels own each (λ _. some (omega arith)))

factors_pass : (model : Model) (flavour : List (List ℕ)) (text : List ℕ) (labels : List Span) (factors : List WrittenFactor) (test : ℕ → Bool)
    → ((n : ℕ) → n < length labels → test n ≡ true) → (0 < length (flat_map labels_in factors) → 0 < length labels)
    → list_all test (all_labels (map (factor_of model flavour text labels) factors)) ≡ true
factors_pass model flavour text labels [] test each some = refl
factors_pass model flavour text labels (factor ∷ factors) test each some =
    let own = label_numbers text labels factor in
    let split = length-append factor.labels (flat_map labels_in factors) in
    let front = numbers_pass test text labels factor.labels each (λ here. some (omega (arith, here, split))) in
    let rest = factors_pass model flavour text labels factors test each (λ there. some (omega (arith, there, split))) in
    list_all-append test (labels_of (factor_of model flavour text labels factor)) (all_labels (map (factor_of model flavour text labels) factors))
    ∙ ap (λ numbers. list_all test numbers && list_all test (all_labels (map (factor_of model flavour text labels) factors)))
    (labels_named (referent_at model text factor) (is_some factor.tilde) (generation_in flavour text factor.bracket) own)
    ∙ rw front rest

-- the labels of a monomial without a bad place are joined
pub labels_joined : (model : Model) (flavour : List (List ℕ)) (text : List ℕ) (place : FaultPlace) (written : WrittenMonomial)
    → labels_places (monomial_of model flavour text written).factors (labelled_slots model (monomial_of model flavour text written).factors) place 0 (labels_of_monomial text written) ≡ []
    → list_all (is_joined (monomial_of model flavour text written).factors (labelled_slots model (monomial_of model flavour text written).factors)) (all_labels (monomial_of model flavour text written).factors) ≡ true
unfolding monomial_of labels_of_monomial
labels_joined model flavour text place written none =
    let labels = first_labels text [] (written_labels written) in
    let factors = map (factor_of model flavour text labels) written.factors in
    factors_pass model flavour text labels written.factors (is_joined factors (labelled_slots model factors))
    (λ n inside. numbered_joined factors (labelled_slots model factors) place 0 labels none n (omega arith) (omega (arith, inside)))
    (some_first text (written_labels written))

-- ---- `eps`

eps_good : (groups : List Group) (slots : List LabelledSlot) (place : FaultPlace) (written : List WrittenFactor) (factors : List Factor)
    → length written ≡ length factors → all_eps_places groups slots place written factors ≡ [] → list_all (eps_fits groups slots) factors ≡ true
eps_good groups slots place [] [] same none = refl
eps_good groups slots place [] (factor ∷ factors) same none = absurd (omega (arith, same))
eps_good groups slots place (first ∷ written) [] same none = absurd (omega (arith, same))
eps_good groups slots place (first ∷ written) (factor ∷ factors) same none =
    let parts = append_nothing (eps_places groups slots place first factor) (all_eps_places groups slots place written factors) none in
    let here = not_false (eps_fits groups slots factor) (good_where (not (eps_fits groups slots factor)) (offset_place place first.word.start) WrongSlots parts.0) in
    rw here (eps_good groups slots place written factors (omega (arith, same)) parts.1)

as_many : (model : Model) (flavour : List (List ℕ)) (text : List ℕ) (written : WrittenMonomial) → length written.factors ≡ length (monomial_of model flavour text written).factors
unfolding monomial_of
as_many model flavour text written = sym (length-map written.factors (factor_of model flavour text (labels_of_monomial text written)))

-- the labels and the `eps` of a monomial without a bad place are joined
pub monomial_joined : (model : Model) (flavour : List (List ℕ)) (text : List ℕ) (place : FaultPlace) (written : WrittenMonomial)
    → join_places model text place written (monomial_of model flavour text written) ≡ [] → are_joined model (monomial_of model flavour text written).factors ≡ true
unfolding join_places
monomial_joined model flavour text place written none =
    let factors = (monomial_of model flavour text written).factors in
    let slots = labelled_slots model factors in
    let parts = append_nothing (labels_places factors slots place 0 (labels_of_monomial text written)) (all_eps_places model.groups slots place written.factors factors) none in
    let first = labels_joined model flavour text place written parts.0 in
    let second = eps_good model.groups slots place written.factors factors (as_many model flavour text written) parts.1 in
    rw first second
