-- The generators of the gauge groups on the components of fields: X_ij = E_ij - (δ_ij / n) 1 of each SU(n), in place of the
-- Hermitian ones, and the charge of the U(1). The sum of T ⊗ T over the generators of an SU(n) is one half of the sum of
-- X_ij ⊗ X_ji over all i and j.
use Rattle.std.specs.Prelude.{ℕ, zero, suc, ◌==◌, if◌then◌else◌, List, [], ◌∷◌, map, take, drop}
use Rattle.std.specs.List.{flat_map, range_with_len, enumerate_from}
use Rattle.frac128.specs.Rational.{ℚ, zero_ℚ, ◌*ℚ◌, neg_ℚ}
use Rattle.su_reps.specs.declared.rep.Rep.{Rep}
use Rattle.su_reps.specs.Tuples.{slots, same, action}
use Rattle.model_core.specs.declared.group.Group.{Group}
use Rattle.model_core.specs.declared.field.Field.{Field}
use Rattle.model_core.specs.declared.model.Model.{Model}
use Rattle.model_core.specs.declared.generator.Generator.{Generator}
use Rattle.model_core.specs.Component.{Component, are_copies}
use Rattle.model_core.specs.Scalar.{Coordinate}
use Rattle.model_core.specs.Scalar.Coordinate.{Of}
use Rattle.model_core.specs.Groups.{is_abelian}

-- ---- on slots

-- a matrix for each representation of each SU(n), on its index tuples
abbrev pub Matrices : Type 0
Matrices = Rep → ℕ → List ℕ → List ℕ → ℚ

-- the matrix on the slots of the group at a place, times the identity on all other slots
abbrev pub on_group : Matrices → List Group → List Rep → ℕ → List ℕ → List ℕ → ℚ
on_group matrix (group ∷ groups) (rep ∷ reps) zero p q =
    matrix rep group.n (take (slots rep) p) (take (slots rep) q) *ℚ same (drop (slots rep) p) (drop (slots rep) q)
on_group matrix (group ∷ groups) (rep ∷ reps) (suc place) p q =
    same (take (slots rep) p) (take (slots rep) q) *ℚ on_group matrix groups reps place (drop (slots rep) p) (drop (slots rep) q)
on_group matrix _ _ place p q = zero_ℚ

-- ---- generators

-- the X_ij of the SU(n) at a place, in the order of i, then j
abbrev pub special_generators : ℕ → ℕ → List Generator
special_generators place n =
    flat_map (λ i. map (λ j. record { place = place; i = i; j = j }) (range_with_len 1 n)) (range_with_len 1 n)

-- the charge of the U(1) at a place
abbrev pub charge_generator : ℕ → Generator
charge_generator place = record { place = place; i = 0; j = 0 }

-- the generators of a group at its place
abbrev pub generators_of : ℕ × Group → List Generator
generators_of at = if is_abelian at.1 then charge_generator at.0 ∷ [] else special_generators at.0 at.1.n

-- the generators of all groups of a model
abbrev pub generators : Model → List Generator
generators model = flat_map generators_of (enumerate_from 0 model.groups)

-- ---- on components

-- the entry of a generator at two tuples of a field
abbrev pub field_entry : List Group → Generator → Field → List ℕ → List ℕ → ℚ
field_entry groups x field p q =
    if x.i == 0 then field.charge *ℚ same p q
    else on_group (λ rep n. action rep n x.i x.j) groups field.reps x.place p q

-- a conjugate field has minus the transpose
abbrev pub entry_between : List Group → Generator → Component → Component → ℚ
entry_between groups x c d =
    if c.conj then neg_ℚ (field_entry groups x c.field d.values c.values) else field_entry groups x c.field c.values d.values

-- the entry at two components: 0 between different fields, conjugations or generations
abbrev pub generator_at : List Group → Generator → Component → Component → ℚ
generator_at groups x c d = if are_copies c d then entry_between groups x c d else zero_ℚ

-- and at two coordinates: the dummy is a singlet without a charge
abbrev pub coordinate_generator : List Group → Generator → Coordinate → Coordinate → ℚ
coordinate_generator groups x (Of c) (Of d) = generator_at groups x c d
coordinate_generator groups x _ _ = zero_ℚ
