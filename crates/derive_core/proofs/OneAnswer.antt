-- A file has one derivation and one check.
use Rattle.std.proofs.Common.{◌≡◌, ◌⊎◌, ℕ, ◌<◌, List, [], ◌∷◌, slice_get, Some, Result, Ok, Err, refl, sym, ap, subst, ◌∙◌, inl, inr, arith}
use Rattle.model_core.specs.declared.fault.ReadFault.{ReadFault}
use Rattle.model_core.specs.declared.model.Model.{Model}
use Rattle.model_core.specs.Anomaly.{Trace, anomalies}
use Rattle.model_core.specs.Directions.{Direction, directions}
use Rattle.model_core.specs.Invariance.{Failure, failures}
use Rattle.model_core.specs.Reading.{reading}
use Rattle.anomaly_check.specs.Answers.{IsFirstOf}
use Rattle.anomaly_check.specs.declared.anomaly.Anomaly.{Anomaly}
use Rattle.gauge_check.specs.Faults.{fault_of}
use Rattle.gauge_check.specs.declared.fault.TermFault.{TermFault}
use Rattle.gauge_check.specs.declared.fault.TermFault.TheVariants.{Dependent}
use Rattle.derive_core.specs.Blocks.{IsDependentAt, IsFirstDependent}
use Rattle.derive_core.specs.Derivation.{IsSound, IsRefused, Stands, IsRefusal, betas_of, AreDerived, IsChecked, IsDerivation, IsCheck}
use Rattle.derive_core.specs.TermFaults.{IsDependentFault, FailsFirst, FailAfter, DependsFirst, IsFirstFault, HaveNoFault}
use Rattle.derive_core.specs.declared.betas.Betas.{Betas}
use Rattle.derive_core.specs.declared.betas.Checked.{Checked}
use Rattle.derive_core.specs.declared.fault.DeriveFault.{DeriveFault}
use Rattle.derive_core.specs.declared.fault.DeriveFault.TheVariants as fault
use Rattle.derive_core.proofs.OneTold.{told_once}

-- ---- the first fault of terms

same_head : (fs : List Failure) (a b : Failure) (more others : List Failure) → fs ≡ a ∷ more → fs ≡ b ∷ others → a ≡ b
same_head fs a b more others first second = let both : a ∷ more ≡ b ∷ others = sym first ∙ second in cc

-- the place of the first dependent direction
first_place : (ds : List Direction) (m n : ℕ) → IsFirstDependent ds m → IsFirstDependent ds n → m ≡ n
first_place ds m n a b = by_order (order m n)
  where
    order : (m n : ℕ) → (m ≡ n) ⊎ ((m < n) ⊎ (n < m))
    order m n = grind arith

    by_order : (m ≡ n) ⊎ ((m < n) ⊎ (n < m)) → m ≡ n
    by_order (inl same) = same
    by_order (inr (inl under)) = absurd (b.first m under a.dependent)
    by_order (inr (inr over)) = absurd (a.first n over b.dependent)

same_direction : (ds : List Direction) (m n : ℕ) (a : IsDependentAt ds m) (b : IsDependentAt ds n) → m ≡ n → a.direction ≡ b.direction
same_direction ds m n a b same = let both : Some a.direction ≡ Some b.direction = sym a.stands ∙ ap (slice_get ds) same ∙ b.stands in cc

module _ (model : Model) where
  one_dependent_fault : (direction : Direction) (a b : TermFault) → IsDependentFault model direction a → IsDependentFault model direction b → a ≡ b
  one_dependent_fault direction a b first second =
      let both : Some first.target ≡ Some second.target = sym first.named ∙ second.named in
      let target : first.target ≡ second.target = cc in
      first.is ∙ ap (λ t. Dependent direction.place t.name direction.symbol t.row t.column) target ∙ sym second.is

  -- of a failure and a dependent direction one alone comes first
  never_both : (a b : TermFault) → FailsFirst model a → DependsFirst model b → ⊥
  never_both a b fails depends =
      let after : FailAfter depends.dependent.dependent.direction.place (fails.failure ∷ fails.others) = subst (FailAfter depends.dependent.dependent.direction.place) fails.failures_are depends.before in
      let under = fails.before depends.place depends.dependent.dependent in
      let never : ⊥ = omega (arith, after, under) in never

  one_first_fault : (a b : TermFault) → IsFirstFault model a → IsFirstFault model b → a ≡ b
  one_first_fault a b (inl first) (inl second) =
      first.is ∙ ap (fault_of model) (same_head (failures model) first.failure second.failure first.others second.others first.failures_are second.failures_are) ∙ sym second.is
  one_first_fault a b (inl first) (inr second) = absurd (never_both a b first second)
  one_first_fault a b (inr first) (inl second) = absurd (never_both b a second first)
  one_first_fault a b (inr first) (inr second) =
      let place = first_place (directions model) first.place second.place first.dependent second.dependent in
      let direction = same_direction (directions model) first.place second.place first.dependent.dependent second.dependent.dependent place in
      one_dependent_fault second.dependent.dependent.direction a b (subst (λ d. IsDependentFault model d a) direction first.is) second.is

  no_fault : (a : TermFault) → HaveNoFault model → IsFirstFault model a → ⊥
  no_fault a none (inl fails) = let both : [] ≡ fails.failure ∷ fails.others = sym none.failures_are ∙ fails.failures_are in let never : ⊥ = cc in never
  no_fault a none (inr depends) = none.independent depends.place depends.dependent.dependent

-- ---- anomalies

one_anomaly : (traces : List Trace) (a b : Anomaly) → IsFirstOf traces a → IsFirstOf traces b → a ≡ b
one_anomaly [] a b first second = absurd first
one_anomaly (t ∷ ts) a b first second = first ∙ sym second

no_anomaly : (traces : List Trace) (a : Anomaly) → traces ≡ [] → IsFirstOf traces a → ⊥
no_anomaly [] a none first = first
no_anomaly (t ∷ ts) a none first = let never : ⊥ = cc in never

-- ---- refusals of a model

module _ (model : Model) where
  one_refused : (a b : DeriveFault) → IsRefused model a → IsRefused model b → a ≡ b
  one_refused (fault.Read a) b first second = absurd first
  one_refused (fault.Overflow a) b first second = absurd first
  one_refused fault.NoMemory b first second = absurd first
  one_refused (fault.Term a) (fault.Read b) first second = absurd second
  one_refused (fault.Term a) (fault.Term b) first second = ap fault.Term (one_first_fault model a b first second)
  one_refused (fault.Term a) (fault.Anomalous b) first second = absurd (no_fault model a second.terms first)
  one_refused (fault.Term a) (fault.Overflow b) first second = absurd second
  one_refused (fault.Term a) fault.NoMemory first second = absurd second
  one_refused (fault.Anomalous a) (fault.Read b) first second = absurd second
  one_refused (fault.Anomalous a) (fault.Term b) first second = absurd (no_fault model b first.terms second)
  one_refused (fault.Anomalous a) (fault.Anomalous b) first second = ap fault.Anomalous (one_anomaly (anomalies model) a b first.first second.first)
  one_refused (fault.Anomalous a) (fault.Overflow b) first second = absurd second
  one_refused (fault.Anomalous a) fault.NoMemory first second = absurd second

  never_refused : (bad : DeriveFault) → IsSound model → IsRefused model bad → ⊥
  never_refused (fault.Read bad) sound refused = refused
  never_refused (fault.Term bad) sound refused = no_fault model bad sound.terms refused
  never_refused (fault.Anomalous bad) sound refused = no_anomaly (anomalies model) bad sound.fermions refused.first
  never_refused (fault.Overflow bad) sound refused = refused
  never_refused fault.NoMemory sound refused = refused

-- ---- of a file

module _ (bytes : List ℕ) where
  -- bytes stand for one model
  one_model : (P Q : Model → Type 0) → (p : Stands bytes P) → (q : Stands bytes Q) → p.model ≡ q.model
  one_model P Q p q = let both : Ok p.model ≡ Ok q.model = sym p.reads ∙ q.reads in cc

  -- the first bad place of the file
  record IsUnread (bad : DeriveFault) : Type 0 where
    place : ReadFault
    is : bad ≡ fault.Read place
    reads : reading bytes ≡ Err place

  by_model : (bad : DeriveFault) → IsRefusal bytes bad → IsUnread bad ⊎ Stands bytes (λ model. IsRefused model bad)
  by_model (fault.Read bad) refused = inl (record { place = bad; is = refl; reads = refused })
  by_model (fault.Term bad) refused = inr refused
  by_model (fault.Anomalous bad) refused = inr refused
  by_model (fault.Overflow bad) refused = inr refused
  by_model fault.NoMemory refused = inr refused

  unread_or_not : (P : Model → Type 0) (bad : DeriveFault) → IsUnread bad → Stands bytes P → ⊥
  unread_or_not P bad unread stands = let both : Err unread.place ≡ Ok stands.model = sym unread.reads ∙ stands.reads in let never : ⊥ = cc in never

  one_unread : (a b : DeriveFault) → IsUnread a → IsUnread b → a ≡ b
  one_unread a b first second =
      let both : Err first.place ≡ Err second.place = sym first.reads ∙ second.reads in
      let same : first.place ≡ second.place = cc in
      first.is ∙ ap fault.Read same ∙ sym second.is

  one_of : (a b : DeriveFault) → IsUnread a ⊎ Stands bytes (λ model. IsRefused model a) → IsUnread b ⊎ Stands bytes (λ model. IsRefused model b) → a ≡ b
  one_of a b (inl first) (inl second) = one_unread a b first second
  one_of a b (inl first) (inr second) = absurd (unread_or_not (λ model. IsRefused model b) a first second)
  one_of a b (inr first) (inl second) = absurd (unread_or_not (λ model. IsRefused model a) b second first)
  one_of a b (inr first) (inr second) =
      one_refused second.model a b (subst (λ model. IsRefused model a) (one_model (λ model. IsRefused model a) (λ model. IsRefused model b) first second) first.holds) second.holds

  one_refusal : (a b : DeriveFault) → IsRefusal bytes a → IsRefusal bytes b → a ≡ b
  one_refusal a b first second = one_of a b (by_model a first) (by_model b second)

  -- a file of an accepted model isn't refused
  sound_or_not : (P : Model → Type 0) → ((model : Model) → P model → IsSound model) → (bad : DeriveFault) → Stands bytes P → IsRefusal bytes bad → ⊥
  sound_or_not P sound bad stands refused = by (by_model bad refused)
    where
      by : IsUnread bad ⊎ Stands bytes (λ model. IsRefused model bad) → ⊥
      by (inl unread) = unread_or_not P bad unread stands
      by (inr other) =
          never_refused other.model bad (sound other.model (subst P (one_model P (λ model. IsRefused model bad) stands other) stands.holds)) other.holds

  -- what is found of a file is one thing, where it is so for its model
  one_found : {X : Type 0} (Holds : X → Model → Type 0) → ((model : Model) (x y : X) → Holds x model → Holds y model → x ≡ y) → (x y : X) → Stands bytes (Holds x) → Stands bytes (Holds y) → x ≡ y
  one_found Holds once x y first second = once second.model x y (subst (Holds x) (one_model (Holds x) (Holds y) first second) first.holds) second.holds

-- ---- answers

derived_once : (loops : ℕ) (model : Model) (a b : Betas) → AreDerived loops a model → AreDerived loops b model → a ≡ b
derived_once loops model a b first second =
    first.found.is ∙ ap (betas_of loops model) (told_once model first.sound.terms.independent first.found.told second.found.told first.found.are second.found.are) ∙ sym second.found.is

pub one_derivation : (loops : ℕ) (bytes : List ℕ) (first second : Result Betas DeriveFault) → IsDerivation loops bytes first → IsDerivation loops bytes second → first ≡ second
one_derivation loops bytes (Ok a) (Ok b) first second = ap Ok (one_found bytes (AreDerived loops) (derived_once loops) a b first second)
one_derivation loops bytes (Ok a) (Err b) first second = absurd (sound_or_not bytes (AreDerived loops a) (λ model derived. derived.sound) b first second)
one_derivation loops bytes (Err a) (Ok b) first second = absurd (sound_or_not bytes (AreDerived loops b) (λ model derived. derived.sound) a second first)
one_derivation loops bytes (Err a) (Err b) first second = ap Err (one_refusal bytes a b first second)

pub one_check : (bytes : List ℕ) (first second : Result Checked DeriveFault) → IsCheck bytes first → IsCheck bytes second → first ≡ second
one_check bytes (Ok a) (Ok b) first second = ap Ok (one_found bytes IsChecked (λ model x y p q. p.is ∙ sym q.is) a b first second)
one_check bytes (Ok a) (Err b) first second = absurd (sound_or_not bytes (IsChecked a) (λ model checked. checked.sound) b first second)
one_check bytes (Err a) (Ok b) first second = absurd (sound_or_not bytes (IsChecked b) (λ model checked. checked.sound) a second first)
one_check bytes (Err a) (Err b) first second = ap Err (one_refusal bytes a b first second)
