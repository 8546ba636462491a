-- What a walk over the whole document answers is what reading gives.
use Rattle.std.proofs.Common.{◌≡◌, List, [], ◌∷◌, Result, Ok, Err, Some, sym, ap, ◌∙◌}
use Rattle.model_core.specs.declared.model.Model.{Model}
use Rattle.model_core.specs.declared.fault.ReadFault.{ReadFault}
use Rattle.model_core.specs.Reading.{model_unless}
use Rattle.model_reader.specs.declared.error.ReadError.{ReadError}
use Rattle.model_reader.specs.declared.error.ReadError.TheVariants.{Fault, NoMemory}
use Rattle.model_reader.specs.Gives.{Gives}
use Rattle.model_reader.specs.Walked.{Walked, first_of}

first_fault : (fault : ReadFault) (places : List ReadFault) (model : Model) → first_of places ≡ Some fault → model_unless places model ≡ Err fault
first_fault fault [] model first = let never : ⊥ = cc in absurd never
first_fault fault (place ∷ places) model first =
    let same : place ≡ fault = cc in
    ap Err same

pub reading_of_walked : (places : List ReadFault) (model : Model) (result : Result Model ReadError)
    → Walked (λ m. m) places model result → Gives (λ m. m) result (model_unless places model)
reading_of_walked places model (Ok found) walked = ap (λ p. model_unless p model) walked.0 ∙ ap Ok (sym walked.1)
reading_of_walked places model (Err NoMemory) walked = tt
reading_of_walked places model (Err (Fault fault)) walked = first_fault fault places model walked
