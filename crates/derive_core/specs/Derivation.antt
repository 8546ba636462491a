-- What is derived from a model file, and the first thing for which it is refused.
use Rattle.std.specs.Prelude.{◌≡◌, ◌≢◌, ◌⊎◌, ⊤, ℕ, List, [], Result, Ok, Err}
use Rattle.frac128.specs.declared.frac.Overflow.{Overflow}
use Rattle.beta_poly.specs.Refusals.{IsRefusedPair}
use Rattle.model_core.specs.declared.model.Model.{Model}
use Rattle.model_core.specs.Anomaly.{anomalies}
use Rattle.model_core.specs.Plain.{IsPlain}
use Rattle.model_core.specs.Reading.{reading}
use Rattle.anomaly_check.specs.Answers.{IsFirstOf}
use Rattle.anomaly_check.specs.declared.anomaly.Anomaly.{Anomaly}
use Rattle.derive_core.specs.Lines.{lines}
use Rattle.derive_core.specs.Outcomes.{AreTold}
use Rattle.derive_core.specs.Targets.{targets}
use Rattle.derive_core.specs.TermFaults.{IsFirstFault, HaveNoFault}
use Rattle.derive_core.specs.declared.betas.Betas.{Betas}
use Rattle.derive_core.specs.declared.betas.Checked.{Checked}
use Rattle.derive_core.specs.declared.fault.DeriveFault.{DeriveFault}
use Rattle.derive_core.specs.declared.fault.DeriveFault.TheVariants as fault
use Rattle.derive_core.specs.declared.outcomes.Told.{Told}

-- ---- acceptance and refusals

-- a model that is accepted: its terms have no fault, and it has no anomaly
pub record IsSound (model : Model) : Type 0 where
  pub terms : HaveNoFault model
  pub fermions : anomalies model ≡ []

-- the terms have no fault, and this is the first anomaly
pub record IsAnomalous (model : Model) (anomaly : Anomaly) : Type 0 where
  pub terms : HaveNoFault model
  pub first : IsFirstOf (anomalies model) anomaly

-- why a model is refused: the first fault of its terms, or else the first anomaly
abbrev pub IsRefused : Model → DeriveFault → Type 0
IsRefused model (fault.Term bad) = IsFirstFault model bad
IsRefused model (fault.Anomalous bad) = IsAnomalous model bad
IsRefused model _ = ⊥

-- the bytes of a file stand for a model of which something holds
pub record Stands (bytes : List ℕ) (Holds : Model → Type 0) : Type 0 where
  pub model : Model
  pub reads : reading bytes ≡ Ok model
  pub holds : Holds model

-- why a file is refused: its first bad place, or why the model that it stands for is refused
abbrev pub IsRefusal : List ℕ → DeriveFault → Type 0
IsRefusal bytes (fault.Read bad) = reading bytes ≡ Err bad
IsRefusal bytes bad = Stands bytes (λ model. IsRefused model bad)

-- ---- what is derived

abbrev pub betas_of : ℕ → Model → List Told → Betas
betas_of loops model told = record { model = model.name; loops = loops; targets = targets model; lines = lines loops model told }

-- the beta functions of a model, with what is told of its blocks
pub record AreBetas (loops : ℕ) (betas : Betas) (model : Model) : Type 0 where
  pub told : List Told
  pub are : AreTold model told
  pub is : betas ≡ betas_of loops model told

-- those of a model that is accepted
pub record AreDerived (loops : ℕ) (betas : Betas) (model : Model) : Type 0 where
  pub sound : IsSound model
  pub found : AreBetas loops betas model

abbrev pub checked_of : Model → Checked
checked_of model = record { name = model.name; weight = 0 }

-- what the check of a model that is accepted answers
pub record IsChecked (checked : Checked) (model : Model) : Type 0 where
  pub sound : IsSound model
  pub is : checked ≡ checked_of model

-- The derivation of a file to so many loops: the beta functions of the model that it stands for, where this is accepted, and else why
-- it is refused.
abbrev pub IsDerivation : ℕ → List ℕ → Result Betas DeriveFault → Type 0
IsDerivation loops bytes (Ok betas) = Stands bytes (AreDerived loops betas)
IsDerivation loops bytes (Err bad) = IsRefusal bytes bad

-- the check of a file, with the same refusals
abbrev pub IsCheck : List ℕ → Result Checked DeriveFault → Type 0
IsCheck bytes (Ok checked) = Stands bytes (IsChecked checked)
IsCheck bytes (Err bad) = IsRefusal bytes bad

-- ---- where a fraction is refused

-- the model may have numbers that are too large: it has a term or a scalar field, or isn't plain
abbrev pub MayBeLarge : Model → Type 0
MayBeLarge model = (model.terms ≢ []) ⊎ ((model.scalars ≢ []) ⊎ (¬ IsPlain model))

-- the pair is refused, which happens only in such a model
pub record IsTooLarge (pair : Overflow) (model : Model) : Type 0 where
  pub refused : IsRefusedPair pair.a pair.b
  pub large : MayBeLarge model

-- the bytes stand for a model, and the pair is refused
abbrev pub Overflows : List ℕ → Overflow → Type 0
Overflows bytes pair = Stands bytes (IsTooLarge pair)

-- ---- how a step ends

-- A step from a model: with something found of which this holds, with a refused pair, or for want of memory.
abbrev pub Finds : {X : Type 0} → (X → Model → Type 0) → Model → Result X DeriveFault → Type 0
Finds Holds model (Ok found) = Holds found model
Finds Holds model (Err (fault.Overflow pair)) = IsTooLarge pair model
Finds Holds model (Err fault.NoMemory) = ⊤
Finds Holds model (Err bad) = ⊥

-- a check of a model: without a refusal where this holds, with the one that is due, with a refused pair, or for want of memory
abbrev pub Settles : {X : Type 0} → (X → Model → Type 0) → Model → Result X DeriveFault → Type 0
Settles Holds model (Ok found) = Holds found model
Settles Holds model (Err (fault.Overflow pair)) = IsTooLarge pair model
Settles Holds model (Err fault.NoMemory) = ⊤
Settles Holds model (Err bad) = IsRefused model bad

-- a step from a file's bytes: with something of which this holds, with the refusal that is due, with a refused pair, or for want of memory
abbrev pub Derives : {X : Type 0} → (X → Model → Type 0) → List ℕ → Result X DeriveFault → Type 0
Derives Holds bytes (Ok found) = Stands bytes (Holds found)
Derives Holds bytes (Err (fault.Overflow pair)) = Overflows bytes pair
Derives Holds bytes (Err fault.NoMemory) = ⊤
Derives Holds bytes (Err bad) = IsRefusal bytes bad
