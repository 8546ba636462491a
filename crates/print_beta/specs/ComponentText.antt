-- The printed text of components of blocks, and of the tokens of contents, which have no slot values.
use Rattle.std.specs.Prelude.{ℕ, ◌==◌, Bool, if◌then◌else◌, List, [], ◌∷◌, ◌++◌, codes, decimal}
use Rattle.std.specs.List.{flat_map}
use Rattle.model_core.specs.declared.leg.Leg.{Leg}
use Rattle.model_core.specs.declared.leg.Leg.TheVariants.{Fermion, Scalar, Dummy}

-- `~` for a conjugate
abbrev pub conjugate_text : Bool → List ℕ
conjugate_text conj = if conj then codes "~" else []

-- `[g]`, where the field has more than one generation
abbrev pub generation_text : ℕ → List ℕ
generation_text generation = if generation == 0 then [] else codes "[" ++ decimal generation ++ codes "]"

-- one slot value more
abbrev pub next_value_text : ℕ → List ℕ
next_value_text value = codes "," ++ decimal value

-- `(v,w)`, where the field has slots
abbrev pub values_text : List ℕ → List ℕ
values_text [] = []
values_text (value ∷ values) = codes "(" ++ decimal value ++ flat_map next_value_text values ++ codes ")"

-- a component of a field
abbrev pub field_leg_text : List ℕ → Bool → ℕ → List ℕ → List ℕ
field_leg_text name conj generation values = name ++ conjugate_text conj ++ generation_text generation ++ values_text values

abbrev pub leg_text : Leg → List ℕ
leg_text (Fermion name conj generation slots) = field_leg_text name conj generation slots
leg_text (Scalar name conj generation slots) = field_leg_text name conj generation slots
leg_text Dummy = codes "#"

-- one leg more
abbrev pub next_leg_text : Leg → List ℕ
next_leg_text leg = codes " " ++ leg_text leg

-- legs, with one space between two
abbrev pub component_text : List Leg → List ℕ
component_text [] = []
component_text (leg ∷ legs) = leg_text leg ++ flat_map next_leg_text legs
