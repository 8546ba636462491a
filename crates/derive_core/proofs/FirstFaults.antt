-- Which of the first failure and the first dependent direction comes first.
use Rattle.std.specs.Prelude.{◌≡◌, ◌≤◌, ◌<◌, ◌⊎◌, ℕ, List, [], ◌∷◌, length, slice_get, Option, Some, None}
use Rattle.std.proofs.Common.{refl, sym, ap, ap₂, subst, ◌∙◌, arith, inl, inr}
use Rattle.std.proofs.lemmas.Option.{slice_get_within}
use Rattle.model_core.specs.declared.model.Model.{Model}
use Rattle.model_core.specs.Directions.{Direction, directions}
use Rattle.model_core.specs.Invariance.{Failure, failures}
use Rattle.model_core.specs.Invariance.Failure.{NotInvariant, NotHermitian}
use Rattle.gauge_check.specs.Faults.{fault_of, IsFirstOf}
use Rattle.gauge_check.specs.declared.fault.TermFault.{TermFault}
use Rattle.gauge_check.specs.declared.fault.TermFault.TheVariants.{Dependent}
use Rattle.term_expand.specs.declared.directions.Direction.{Direction as Found}
use Rattle.term_expand.specs.Expansion.{AreDirections}
use Rattle.derive_core.specs.Blocks.{IsDependentAt, NoneIsDependent, IsFirstDependent}
use Rattle.derive_core.specs.FirstFaults.{faulty_term, TellsFailure, TellsFault}
use Rattle.derive_core.specs.Targets.{targets}
use Rattle.derive_core.specs.declared.betas.Target.{Target}
use Rattle.derive_core.specs.TermFaults.{failing_term, IsDependentFault, FailAfter, IsFirstFault}
use Rattle.derive_core.proofs.BlockNumbers.{counted, meant_at}
use Rattle.derive_core.proofs.DirectionPlaces.{directions_ascend, in_order}
use Rattle.derive_core.proofs.Elements.{in_at}
use Rattle.derive_core.proofs.SymbolIds.{has_target}

term_of_failure : (model : Model) (failure : Failure) → faulty_term (fault_of model failure) ≡ failing_term failure
term_of_failure model (NotInvariant place term x key value) = refl
term_of_failure model (NotHermitian place term key) = refl

-- the failure that is answered
record IsHead (model : Model) (fs : List Failure) (fault : TermFault) : Type 0 where
  failure : Failure
  others : List Failure
  are : fs ≡ failure ∷ others
  is : fault ≡ fault_of model failure

head_of : (model : Model) (fs : List Failure) (fault : TermFault) → IsFirstOf model fs fault → IsHead model fs fault
head_of model [] fault first = absurd first
head_of model (failure ∷ others) fault first = record { failure = failure; others = others; are = refl; is = first }

-- a failure whose term is no later than that of any dependent direction
fails_first : (model : Model) (fault : TermFault) → IsFirstOf model (failures model) fault → ((place : ℕ) (at : IsDependentAt (directions model) place) → faulty_term fault ≤ at.direction.place) → IsFirstFault model fault
fails_first model fault first before =
    let head = head_of model (failures model) fault first in
    inl (record {
      failure = head.failure;
      others = head.others;
      failures_are = head.are;
      is = head.is;
      before = λ place at.
          let term : failing_term head.failure ≡ faulty_term fault = sym (term_of_failure model head.failure) ∙ ap faulty_term (sym head.is) in
          let under = before place at in
          omega (arith, term, under);
    })

-- no direction is dependent
fails_alone : (model : Model) (fault : TermFault) → IsFirstOf model (failures model) fault → NoneIsDependent (directions model) → IsFirstFault model fault
fails_alone model fault first none = fails_first model fault first (λ place at. absurd (none place at))

-- the first dependent one is of no earlier term
pub fails_before : (model : Model) (fault : TermFault) (place : ℕ) → IsFirstOf model (failures model) fault → (first : IsFirstDependent (directions model) place) → faulty_term fault ≤ first.dependent.direction.place → IsFirstFault model fault
fails_before model fault place failed first under =
    fails_first model fault failed (λ other at.
    let own = first.dependent.direction in
    elim (later place other) [
      | inl ordered ↦
          let above = in_order 1 (directions model) place other own at.direction (directions_ascend model) ordered first.dependent.stands at.stands in
          omega (arith, under, above)
      | inr before ↦ absurd (first.first other before at)
    ])
  where
    later : (m n : ℕ) → (m ≤ n) ⊎ (n < m)
    later m n = grind arith

-- ---- a dependent direction comes first

none_fail : (place : ℕ) (fs : List Failure) → fs ≡ [] → FailAfter place fs
none_fail place fs none = subst (FailAfter place) (sym none) tt

fail_later : (model : Model) (place : ℕ) (fs : List Failure) (fault : TermFault) → IsFirstOf model fs fault → place < faulty_term fault → FailAfter place fs
fail_later model place [] fault first later = absurd first
fail_later model place (failure ∷ others) fault first later =
    let term : faulty_term fault ≡ failing_term failure = ap faulty_term first ∙ term_of_failure model failure in
    omega (arith, term, later)

pub depends_alone : (model : Model) (fault : TermFault) (place : ℕ) (first : IsFirstDependent (directions model) place) → IsDependentFault model first.dependent.direction fault → failures model ≡ [] → IsFirstFault model fault
depends_alone model fault place first is none =
    inr (record { place = place; dependent = first; is = is; before = none_fail first.dependent.direction.place (failures model) none })

pub depends_before : (model : Model) (fault other : TermFault) (place : ℕ) (first : IsFirstDependent (directions model) place) → IsDependentFault model first.dependent.direction fault
    → IsFirstOf model (failures model) other → first.dependent.direction.place < faulty_term other → IsFirstFault model fault
depends_before model fault other place first is failed later =
    inr (record { place = place; dependent = first; is = is; before = fail_later model first.dependent.direction.place (failures model) other failed later })

-- ---- what is answered

-- without a dependent direction
pub tells_failure : (model : Model) (failure : Option TermFault) → TellsFailure model failure → NoneIsDependent (directions model) → TellsFault model failure
tells_failure model None none free = record { failures_are = none; independent = free }
tells_failure model (Some fault) first free = fails_alone model fault first free

-- the place is inside
pub dependent_inside : (model : Model) (founds : List Found) (place : ℕ) → AreDirections (directions model) founds → IsFirstDependent (directions model) place → place < length founds
dependent_inside model founds place all first =
    let inside = slice_get_within (directions model) place first.dependent.direction first.dependent.stands in
    let same = counted (directions model) founds all in
    omega (arith, inside, same)

-- the target of a direction that is found
pub target_inside : (model : Model) (founds : List Found) (list : List Target) (place : ℕ) (found : Found) → list ≡ targets model → AreDirections (directions model) founds → slice_get founds place ≡ Some found → found.symbol.id < length list
target_inside model founds list place found are all stands =
    let at = meant_at (directions model) founds place found all stands in
    let has = has_target model at.meant (in_at (directions model) place at.meant at.stands) in
    let inside : at.meant.symbol.id < length (targets model) = slice_get_within (targets model) at.meant.symbol.id has.target has.named in
    let id : found.symbol.id ≡ at.meant.symbol.id = ap (λ s. s.id) at.is.symbol in
    let long : length list ≡ length (targets model) = ap length are in
    omega (arith, inside, id, long)

-- the fault of a direction that is found
pub dependent_is : (model : Model) (founds : List Found) (list : List Target) (place : ℕ) (found : Found) (target : Target) (name : List ℕ) (meant : Direction)
    → list ≡ targets model → AreDirections (directions model) founds → slice_get founds place ≡ Some found → slice_get list found.symbol.id ≡ Some target → name ≡ target.name
    → slice_get (directions model) place ≡ Some meant → IsDependentFault model meant (Dependent found.term name found.symbol target.row target.column)
dependent_is model founds list place found target name meant are all stands named copied meant_stands =
    let at = meant_at (directions model) founds place found all stands in
    let both : Some at.meant ≡ Some meant = sym at.stands ∙ meant_stands in
    let own : at.meant ≡ meant = cc in
    let symbol : found.symbol ≡ meant.symbol = at.is.symbol ∙ ap (λ d. d.symbol) own in
    let term : found.term ≡ meant.place = at.is.place ∙ ap (λ d. d.place) own in
    record {
      target = target;
      named = ap₂ (λ ts s. slice_get ts s.id) (sym are) (sym symbol) ∙ named;
      is = λ i. Dependent (term i) (copied i) (symbol i) target.row target.column;
    }

-- how the first failure and the first dependent direction compare at the code's test
pub later_fault : (model : Model) (founds : List Found) (place : ℕ) (found : Found) (first : IsFirstDependent (directions model) place) → AreDirections (directions model) founds → slice_get founds place ≡ Some found
    → found.term ≡ first.dependent.direction.place
later_fault model founds place found first all stands =
    let at = meant_at (directions model) founds place found all stands in
    let both : Some at.meant ≡ Some first.dependent.direction = sym at.stands ∙ first.dependent.stands in
    let own : at.meant ≡ first.dependent.direction = cc in
    at.is.place ∙ ap (λ d. d.place) own
