-- The first bad place of a name after no other names is that after some.
use Rattle.std.proofs.Common.{ℕ, Bool, true, false, cond, not, List, [], ◌∷◌}
use Rattle.std.specs.List.{list_any}
use Rattle.std.specs.Str.{bytes_eq}
use Rattle.toml.specs.Data.{Data, string, integer, float, boolean, datetime, array, table}
use Rattle.model_core.specs.declared.fault.FaultPlace.{FaultPlace}
use Rattle.model_core.specs.declared.fault.ReadKind.TheVariants.{BadName, RepeatedName}
use Rattle.model_core.specs.Fault.{fault, bad_where}
use Rattle.model_core.specs.Name.{is_name}
use Rattle.model_core.specs.Walk.{name_places}
use Rattle.model_reader.specs.declared.error.ReadError.{ReadError}
use Rattle.model_reader.specs.declared.error.ReadError.TheVariants.{Fault, NoMemory}
use Rattle.model_reader.specs.Walked.{IsFirst}

by_text : (error : ReadError) (place : FaultPlace) (bad repeated : Bool) → IsFirst error (cond bad (fault place BadName ∷ []) [])
    → IsFirst error (cond bad (fault place BadName ∷ []) (bad_where repeated place RepeatedName))
by_text NoMemory place bad repeated first = tt
by_text (Fault found) place true repeated first = first
by_text (Fault found) place false repeated first = let never : ⊥ = cc in absurd never

pub name_after : (error : ReadError) (earlier : List (List ℕ)) (place : FaultPlace) (value : Data) → IsFirst error (name_places [] place value) → IsFirst error (name_places earlier place value)
name_after error earlier place (string text) first = by_text error place (not (is_name text)) (list_any (bytes_eq text) earlier) first
name_after error earlier place (integer n) first = first
name_after error earlier place (float x) first = first
name_after error earlier place (boolean b) first = first
name_after error earlier place (datetime when) first = first
name_after error earlier place (array items) first = first
name_after error earlier place (table pairs) first = first
