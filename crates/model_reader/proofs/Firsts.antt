-- The first bad place of some is the first of these and of those after them.
use Rattle.std.proofs.Common.{◌≡◌, List, [], ◌∷◌, ◌++◌, Some}
use Rattle.model_core.specs.declared.fault.ReadFault.{ReadFault}
use Rattle.model_reader.specs.declared.error.ReadError.{ReadError}
use Rattle.model_reader.specs.declared.error.ReadError.TheVariants.{Fault, NoMemory}
use Rattle.model_reader.specs.Walked.{first_of, IsFirst}

first_of-append : (fault : ReadFault) (places others : List ReadFault) → first_of places ≡ Some fault → first_of (places ++ others) ≡ Some fault
first_of-append fault [] others first = let never : ⊥ = cc in absurd never
first_of-append fault (place ∷ places) others first = first

pub first_before : (error : ReadError) (places others : List ReadFault) → IsFirst error places → IsFirst error (places ++ others)
first_before NoMemory places others first = tt
first_before (Fault fault) places others first = first_of-append fault places others first
