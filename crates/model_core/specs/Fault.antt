-- Faults at their places.
use Rattle.std.specs.Prelude.{ℕ, min, nat_lt, Bool, if◌then◌else◌, List, [], ◌∷◌}
use Rattle.model_core.specs.declared.fault.ReadFault.{ReadFault}
use Rattle.model_core.specs.declared.fault.ReadKind.{ReadKind}
use Rattle.model_core.specs.declared.fault.ReadKind.TheVariants.{OverLimit}
use Rattle.model_core.specs.declared.fault.Part.{Part}
use Rattle.model_core.specs.declared.fault.FaultPlace.{FaultPlace}

-- a fault of a kind other than OverLimit
abbrev pub fault : FaultPlace → ReadKind → ReadFault
fault place kind = record { kind = kind; part = place.part; index = place.index; at = place.at; count = 0 }

-- a count above its limit; one above 2^32 - 1 is given as 2^32 - 1
abbrev pub over : FaultPlace → ℕ → ReadFault
over place count = record { kind = OverLimit; part = place.part; index = place.index; at = place.at; count = min count 4294967295 }

-- the place of an element's key, and of another key of the same element
abbrev pub place_of : Part → ℕ → ℕ → FaultPlace
place_of kind index at = record { part = kind; index = index; at = at }

abbrev pub key_place : FaultPlace → ℕ → FaultPlace
key_place place at = place_of place.part place.index at

-- the place of a byte in a term's text; an offset above 2^32 - 1 is given as 2^32 - 1
abbrev pub offset_place : FaultPlace → ℕ → FaultPlace
offset_place place offset = key_place place (min offset 4294967295)

-- bad where the condition holds
abbrev pub bad_where : Bool → FaultPlace → ReadKind → List ReadFault
bad_where condition place kind = if condition then fault place kind ∷ [] else []

-- a count and its limit
abbrev pub over_limit : ℕ → ℕ → FaultPlace → List ReadFault
over_limit limit count place = if nat_lt limit count then over place count ∷ [] else []
