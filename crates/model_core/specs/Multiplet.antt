-- How many independent components a field's multiplets have, and sums of Dynkin indices and of charges squared.
use Rattle.model_core.specs.declared.model.Model.{Model}
use Rattle.std.specs.Prelude.{ℕ, ◌+◌, ◌*◌, List, ◌∷◌, take, drop, sum_by, if◌then◌else◌, ℤ, pos, ◌-ℤ◌}
use Rattle.exact_algebra.specs.Sums.{sum}
use Rattle.frac128.specs.Rational.{ℚ, whole, ◌+ℚ◌, ◌*ℚ◌}
use Rattle.frac128.specs.RationalLaws.{ring_ℚ}
use Rattle.su_reps.specs.declared.rep.Rep.{Rep}
use Rattle.su_reps.specs.Operators.{dimension, doubled_index}
use Rattle.model_core.specs.declared.group.Group.{Group}
use Rattle.model_core.specs.declared.field.Field.{Field}
use Rattle.model_core.specs.GaugeBeta.{rep_at}

-- the product of the dimensions of the representations
abbrev pub dimensions : List Group → List Rep → ℕ
dimensions (group ∷ groups) (rep ∷ reps) = dimension rep group.n * dimensions groups reps
dimensions _ _ = 1

-- how many independent components a field has in all its generations
abbrev pub field_size : List Group → Field → ℕ
field_size groups field = field.generations * dimensions groups field.reps

-- how often a field has its representation under the group at a place: its generations times the dimensions under the other groups
abbrev pub multiplicity : List Group → Field → ℕ → ℕ
multiplicity groups field place =
    field.generations * (dimensions (take place groups) (take place field.reps) * dimensions (drop (place + 1) groups) (drop (place + 1) field.reps))

-- how many copies of a fermion's components count, and of a scalar's: those of a complex one and of its conjugate
abbrev pub fermion_copies : Field → ℕ
fermion_copies field = 1

abbrev pub scalar_copies : Field → ℕ
scalar_copies field = if field.real then 1 else 2

-- twice the sum of the fields' Dynkin indices under the group at a place, each with its copies
abbrev pub doubled_index_sum : (Field → ℕ) → List Group → ℕ → Group → List Field → ℕ
doubled_index_sum copies groups place group fields = sum_by (λ field. copies field * (multiplicity groups field place * doubled_index (rep_at field place) group.n)) fields

-- twelve times the one-loop coefficient
abbrev pub twelfths : Model → ℕ → Group → ℤ
twelfths model place group =
    pos (4 * doubled_index_sum fermion_copies model.groups place group model.fermions + doubled_index_sum scalar_copies model.groups place group model.scalars) -ℤ pos (44 * group.n)

-- the sum of the fields' charges squared, each as often as the field has independent components in its copies
abbrev pub charge_square_sum : (Field → ℕ) → List Group → List Field → ℚ
charge_square_sum copies groups fields = sum ring_ℚ.semiring fields (λ field. whole (pos (copies field * field_size groups field)) *ℚ (field.charge *ℚ field.charge))

-- six times the one-loop coefficient of the U(1): four times the fermions' sum, and the scalars'
abbrev pub abelian_sixths : Model → ℚ
abelian_sixths model =
    whole (pos 4) *ℚ charge_square_sum fermion_copies model.groups model.fermions +ℚ charge_square_sum scalar_copies model.groups model.scalars
