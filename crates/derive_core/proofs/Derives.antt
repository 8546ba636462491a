-- From a step on an accepted model to the derivation of its file.
use Rattle.std.proofs.Common.{◌≡◌, ℕ, List, Result, Ok, Err, ap, sym, ◌∙◌}
use Rattle.model_core.specs.declared.fault.ReadFault.{ReadFault}
use Rattle.model_core.specs.declared.model.Model.{Model}
use Rattle.model_core.specs.Reading.{reading}
use Rattle.derive_core.specs.Acceptance.{IsAccepted}
use Rattle.derive_core.specs.Derivation.{Stands, Finds, Settles, Derives, AreBetas, AreDerived}
use Rattle.derive_core.specs.declared.accept.Accepted.{Accepted}
use Rattle.derive_core.specs.declared.betas.Betas.{Betas}
use Rattle.derive_core.specs.declared.fault.DeriveFault.{DeriveFault}
use Rattle.derive_core.specs.declared.fault.DeriveFault.TheVariants as fault

abbrev read_as : Model → Result Model ReadFault
read_as model = Ok model

pub reads_found : (bytes : List ℕ) (found : Accepted) → (is : Stands bytes (IsAccepted found)) → reading bytes ≡ Ok found.model
reads_found bytes found is = is.reads ∙ ap read_as (sym is.holds.same)

-- the beta functions of an accepted model
pub derives : (loops : ℕ) (bytes : List ℕ) (found : Accepted) (r : Result Betas DeriveFault) → Stands bytes (IsAccepted found) → Finds (AreBetas loops) found.model r → Derives (AreDerived loops) bytes r
derives loops bytes found (Ok betas) is finds =
    record { model = found.model; reads = reads_found bytes found is; holds = record { sound = is.holds.sound; found = finds } }
derives loops bytes found (Err (fault.Read bad)) is finds = absurd finds
derives loops bytes found (Err (fault.Term bad)) is finds = absurd finds
derives loops bytes found (Err (fault.Anomalous bad)) is finds = absurd finds
derives loops bytes found (Err (fault.Overflow pair)) is finds = record { model = found.model; reads = reads_found bytes found is; holds = finds }
derives loops bytes found (Err fault.NoMemory) is finds = tt

-- the acceptance of a model that bytes stand for
pub accepts : (bytes : List ℕ) (model : Model) (r : Result Accepted DeriveFault) → reading bytes ≡ Ok model → Settles IsAccepted model r → Derives IsAccepted bytes r
accepts bytes model (Ok found) reads settles = record { model = model; reads = reads; holds = settles }
accepts bytes model (Err (fault.Read bad)) reads settles = absurd settles
accepts bytes model (Err (fault.Term bad)) reads settles = record { model = model; reads = reads; holds = settles }
accepts bytes model (Err (fault.Anomalous bad)) reads settles = record { model = model; reads = reads; holds = settles }
accepts bytes model (Err (fault.Overflow pair)) reads settles = record { model = model; reads = reads; holds = settles }
accepts bytes model (Err fault.NoMemory) reads settles = tt
