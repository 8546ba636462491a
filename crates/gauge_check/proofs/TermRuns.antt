-- The terms of a model one by one, with the runs of their directions.
use Rattle.std.specs.Prelude.{◌≡◌, ◌≤◌, ◌+◌, ◌==◌, cond, ℕ, zero, suc, Bool, true, false, List, [], ◌∷◌, ◌++◌, length, slice_get, Some, Err}
use Rattle.std.specs.List.{flat_map, prefix_len, AllByRecursion}
use Rattle.std.proofs.Common.{take, drop, refl, sym, ap, subst, ◌∙◌, arith, eqb-true, drop_of_length-le}
use Rattle.std.proofs.lemmas.List.Concat.{flat_map-append}
use Rattle.model_core.specs.declared.model.Model.{Model}
use Rattle.model_core.specs.declared.term.Term.{Term}
use Rattle.model_core.specs.Content.{symbol_count}
use Rattle.model_core.specs.Directions.{CouplingEntry, Direction, numbered, cells, entries_from, entry_directions}
use Rattle.model_core.specs.Invariance.{term_failures, failures_from, failures}
use Rattle.term_expand.specs.declared.directions.Direction.{Direction as Found}
use Rattle.term_expand.specs.declared.expansion.Tensors.{Tensors}
use Rattle.term_expand.specs.Expansion.{AreDirections, IsExpansion}
use Rattle.gauge_check.specs.declared.fault.CheckError.{CheckError}
use Rattle.gauge_check.specs.Faults.{Checks}
use Rattle.gauge_check.specs.Steps.{IsEntryOf, AreDirectionsOf}
use Rattle.gauge_check.proofs.TermDirections.{IsMeantOf, all_meant}
use Rattle.gauge_check.proofs.Walks.{checks_before, checks_same}

-- ---- places of directions

each_append : {A : Type 0} (P : A → Type 0) (xs ys : List A) → AllByRecursion P xs → AllByRecursion P ys → AllByRecursion P (xs ++ ys)
each_append P [] ys first second = second
each_append P (x ∷ xs) ys first second = (first.0, each_append P xs ys first.1 second)

each_weaker : {A : Type 0} (P Q : A → Type 0) (xs : List A) → ((x : A) → P x → Q x) → AllByRecursion P xs → AllByRecursion Q xs
each_weaker P Q [] weaker all = tt
each_weaker P Q (x ∷ xs) weaker all = (weaker x all.0, each_weaker P Q xs weaker all.1)

abbrev IsAt : ℕ → Direction → Type 0
IsAt place d = d.place ≡ place

abbrev IsFrom : ℕ → Direction → Type 0
IsFrom place d = place ≤ d.place

numbered_own : (place id : ℕ) (term : Term) (cs : List (ℕ × ℕ)) → AllByRecursion (IsEntryOf place term) (numbered place id term cs)
numbered_own place id term [] = tt
numbered_own place id term (c ∷ cs) = (record { place_is = refl; term_is = refl }, numbered_own place (suc id) term cs)

module _ (model : Model) where
  own_places : (place id : ℕ) (term : Term) → AllByRecursion (IsAt place) (flat_map (entry_directions model) (numbered place id term (cells term)))
  own_places place id term =
      let es = numbered place id term (cells term) in
      each_weaker (IsMeantOf model place term) (IsAt place) (flat_map (entry_directions model) es) (λ d is. is.place_is)
      (all_meant model place term es (numbered_own place id term (cells term)))

  later_places : (place id : ℕ) (terms : List Term) → AllByRecursion (IsFrom place) (flat_map (entry_directions model) (entries_from place id terms))
  later_places place id [] = tt
  later_places place id (term ∷ terms) =
      let es = numbered place id term (cells term) in
      let others = entries_from (suc place) (id + symbol_count term) terms in
      subst (AllByRecursion (IsFrom place)) (sym (flat_map-append (entry_directions model) es others))
      (each_append (IsFrom place) (flat_map (entry_directions model) es) (flat_map (entry_directions model) others)
      (each_weaker (IsAt place) (IsFrom place) (flat_map (entry_directions model) es) (λ d is. omega (arith, is)) (own_places place id term))
      (each_weaker (IsFrom (suc place)) (IsFrom place) (flat_map (entry_directions model) others) (λ d is. omega (arith, is)) (later_places (suc place) (id + symbol_count term) terms)))

-- ---- a run of directions of one place

abbrev pub has_place : ℕ → Found → Bool
has_place place d = d.term == place

record AreSplit (xs ys : List Direction) (n : ℕ) (ds : List Found) : Type 0 where
  own : AreDirections xs (take n ds)
  others : AreDirections ys (drop n ds)

same_place : (a b place : ℕ) → a ≡ b → b ≡ place → (a == place) ≡ true
same_place a b place e f = grind (arith, e, f)

other_place : (a b place : ℕ) → a ≡ b → suc place ≤ b → (a == place) ≡ false
other_place a b place e f = by_test (a == place) refl
  where
    by_test : (t : Bool) → (a == place) ≡ t → (a == place) ≡ false
    by_test true is = absurd (omega (arith, e, f, eqb-true a place is))
    by_test false is = is

split : (place : ℕ) (xs ys : List Direction) (ds : List Found) → AllByRecursion (IsAt place) xs → AllByRecursion (IsFrom (suc place)) ys → AreDirections (xs ++ ys) ds → AreSplit xs ys (prefix_len (has_place place) ds) ds
split place [] [] [] own others are = record { own = tt; others = tt }
split place [] [] (d ∷ ds) own others are = absurd are
split place [] (y ∷ ys) [] own others are = absurd are
split place [] (y ∷ ys) (d ∷ ds) own others are =
    subst (λ n. AreSplit [] (y ∷ ys) n (d ∷ ds)) (sym (ap (λ b. cond b (1 + prefix_len (has_place place) ds) 0) (other_place d.term y.place place are.0.place others.0)))
    (record { own = tt; others = are })
split place (x ∷ xs) ys [] own others are = absurd are
split place (x ∷ xs) ys (d ∷ ds) own others are =
    let rest = split place xs ys ds own.1 others are.1 in
    let more : 1 + prefix_len (has_place place) ds ≡ suc (prefix_len (has_place place) ds) = omega arith in
    subst (λ n. AreSplit (x ∷ xs) ys n (d ∷ ds)) (sym (ap (λ b. cond b (1 + prefix_len (has_place place) ds) 0) (same_place d.term x.place place are.0.place own.0) ∙ more))
    (record { own = (are.0, rest.own); others = rest.others })

-- ---- the terms from a place on

-- the directions and the failures of the terms from a place on
pub record RestAt (model : Model) (k : ℕ) (rest : List Found) : Type 0 where
  pub id : ℕ
  pub directions : AreDirections (flat_map (entry_directions model) (entries_from (k + 1) id (drop k model.terms))) rest
  pub failing : failures_from model (k + 1) id (drop k model.terms) ≡ failures model

-- those of the term at the place, and of the terms after it
pub record RunAt (model : Model) (k : ℕ) (term : Term) (own others : List Found) : Type 0 where
  pub entries : List CouplingEntry
  pub next : ℕ
  pub are : AreDirectionsOf model (k + 1) term entries own
  pub directions : AreDirections (flat_map (entry_directions model) (entries_from (k + 1 + 1) next (drop (k + 1) model.terms))) others
  pub failing : term_failures model (k + 1) term entries ++ failures_from model (k + 1 + 1) next (drop (k + 1) model.terms) ≡ failures model

cut : (terms : List Term) (k : ℕ) (term : Term) → slice_get terms k ≡ Some term → drop k terms ≡ term ∷ drop (k + 1) terms
cut [] k term at = let never : ⊥ = cc in absurd never
cut (t ∷ terms) zero term at = let same : t ≡ term = cc in ap (λ x. x ∷ terms) same
cut (t ∷ terms) (suc k) term at =
    let more : suc k + 1 ≡ suc (k + 1) = omega arith in
    cut terms k term at ∙ ap (λ n. term ∷ drop n (t ∷ terms)) (sym more)

-- before the first term
pub rest_first : (model : Model) (tensors : Tensors) → IsExpansion model tensors → RestAt model 0 tensors.directions
rest_first model tensors is = record { id = length model.groups; directions = is.directions; failing = refl }

module _ (model : Model) (k : ℕ) where
  run_at : (term : Term) (rest : List Found) → slice_get model.terms k ≡ Some term → RestAt model k rest → RunAt model k term (take (prefix_len (has_place (k + 1)) rest) rest) (drop (prefix_len (has_place (k + 1)) rest) rest)
  run_at term rest at so_far =
      let id = so_far.id in
      let es = numbered (k + 1) id term (cells term) in
      let next = id + symbol_count term in
      let behind = drop (k + 1) model.terms in
      let first = cut model.terms k term at in
      let more : suc (k + 1) ≡ k + 1 + 1 = omega arith in
      let own = flat_map (entry_directions model) es in
      let others = flat_map (entry_directions model) (entries_from (suc (k + 1)) next behind) in
      let given : AreDirections (own ++ others) rest =
      subst (λ ms. AreDirections ms rest) (ap (λ terms. flat_map (entry_directions model) (entries_from (k + 1) id terms)) first ∙ flat_map-append (entry_directions model) es (entries_from (suc (k + 1)) next behind)) so_far.directions in
      let parts = split (k + 1) own others rest (own_places model (k + 1) id term) (later_places model (suc (k + 1)) next behind) given in
      record {
        entries = es;
        next = next;
        are = record { entries = numbered_own (k + 1) id term (cells term); directions = parts.own };
        directions = subst (λ p. AreDirections (flat_map (entry_directions model) (entries_from p next behind)) (drop (prefix_len (has_place (k + 1)) rest) rest)) more parts.others;
        failing =
            ap (λ p. term_failures model (k + 1) term es ++ failures_from model p next behind) (sym more)
            ∙ ap (failures_from model (k + 1) id) (sym first) ∙ so_far.failing;
      }

  -- the run of directions of the term at the place
  pub run_found : (term : Term) (rest own others : List Found) (n : ℕ) → slice_get model.terms k ≡ Some term → n ≡ prefix_len (has_place (k + 1)) rest → own ≡ take n rest → others ≡ drop n rest → RestAt model k rest → RunAt model k term own others
  run_found term rest own others n at counted front back so_far =
      subst (RunAt model k term own) (sym (back ∙ ap (λ m. drop m rest) counted))
      (subst (λ ds. RunAt model k term ds (drop (prefix_len (has_place (k + 1)) rest) rest)) (sym (front ∙ ap (λ m. take m rest) counted)) (run_at term rest at so_far))

  module _ (term : Term) (own others : List Found) (run : RunAt model k term own others) where
    -- a term without failures
    pub rest_after : term_failures model (k + 1) term run.entries ≡ [] → RestAt model (k + 1) others
    rest_after none = record {
      id = run.next;
      directions = run.directions;
      failing = sym (ap (λ fs. fs ++ failures_from model (k + 1 + 1) run.next (drop (k + 1) model.terms)) none) ∙ run.failing;
    }

    -- a term at which the check stops
    pub stop_at : (e : CheckError) → Checks model (term_failures model (k + 1) term run.entries) (Err e) → Checks model (failures model) (Err e)
    stop_at e given =
        let after = failures_from model (k + 1 + 1) run.next (drop (k + 1) model.terms) in
        checks_same model (term_failures model (k + 1) term run.entries ++ after) (failures model) (Err e) run.failing
        (checks_before model e (term_failures model (k + 1) term run.entries) after given)

  -- after the last term
  pub rest_end : (rest : List Found) → length model.terms ≤ k → RestAt model k rest → failures model ≡ []
  rest_end rest over so_far = sym so_far.failing ∙ ap (failures_from model (k + 1) so_far.id) (drop_of_length-le model.terms over)
