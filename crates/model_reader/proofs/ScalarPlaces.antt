-- The bad places of a scalar: those of its keys, of what it has as a field, and of `real`.
use Rattle.std.proofs.Common.{◌≡◌, ℕ, false, zero, suc, List, [], ◌∷◌, ◌++◌, length, refl, sym, ap, ◌∙◌, codes}
use Rattle.std.proofs.lemmas.List.{append_assoc}
use Rattle.toml.specs.Data.{Members, get_member}
use Rattle.model_core.specs.declared.group.Group.{Group}
use Rattle.model_core.specs.declared.fault.FaultPlace.{FaultPlace}
use Rattle.model_core.specs.declared.fault.Part.TheVariants as part
use Rattle.model_core.specs.Document.{field_of}
use Rattle.model_core.specs.Fault.{place_of}
use Rattle.model_core.specs.Walk.{Key, optional, next_key, key_places, scalar_keys, fermion_keys, value_places, found_places, real_places, scalar_places}
use Rattle.model_reader.specs.FieldValues.{field_value_places}

-- the place of the key that stands so many keys later
abbrev pub key_after : ℕ → FaultPlace → FaultPlace
key_after zero place = place
key_after (suc n) place = key_after n (next_key place)

pub value_places-append : (place : FaultPlace) (keys more : List Key) (members : Members)
    → value_places place (keys ++ more) members ≡ value_places place keys members ++ value_places (key_after (length keys) place) more members
value_places-append place [] more _ = refl
value_places-append place (key ∷ keys) more members =
    let first = found_places (key.rule place) (get_member key.name members) in
    ap (λ rest. first ++ rest) (value_places-append (next_key place) keys more members)
    ∙ sym (append_assoc first (value_places (next_key place) keys members) (value_places (key_after (length keys) (next_key place)) more members))

pub scalar_places_split : (groups : List Group) (index : ℕ) (names : List (List ℕ)) (members : Members)
    → scalar_places groups index names members
    ≡ key_places (place_of part.Scalar index 0) (scalar_keys groups names members) members
    ++ (field_value_places (place_of part.Scalar index 0) groups names members
    ++ (found_places (real_places (field_of false groups members) (place_of part.Scalar index 5)) (get_member (codes "real") members) ++ []))
unfolding scalar_places field_value_places
scalar_places_split groups index names members =
    ap (λ rest. key_places (place_of part.Scalar index 0) (scalar_keys groups names members) members ++ rest)
    (value_places-append (place_of part.Scalar index 1) (fermion_keys groups names) (optional (codes "real") (real_places (field_of false groups members)) ∷ []) members)
