-- Casimirs of fields, and the sums of their products over fields.
use Rattle.std.specs.Prelude.{ℕ, ◌*◌, if◌then◌else◌, List, pos}
use Rattle.exact_algebra.specs.Sums.{sum}
use Rattle.frac128.specs.Rational.{ℚ, whole, ◌*ℚ◌}
use Rattle.frac128.specs.RationalLaws.{ring_ℚ}
use Rattle.su_reps.specs.Operators.{casimir, doubled_index}
use Rattle.model_core.specs.declared.group.Group.{Group}
use Rattle.model_core.specs.declared.field.Field.{Field}
use Rattle.model_core.specs.declared.term.TermKind.{TermKind}
use Rattle.model_core.specs.declared.term.TermKind.TheVariants.{Fermion, Scalar}
use Rattle.model_core.specs.GaugeBeta.{rep_at}
use Rattle.model_core.specs.Groups.{is_abelian}
use Rattle.model_core.specs.Multiplet.{field_size, multiplicity, fermion_copies, scalar_copies}

-- the Casimir of a field's components under a group at its place
abbrev pub field_casimir : ℕ × Group → Field → ℚ
field_casimir k field = if is_abelian k.1 then field.charge *ℚ field.charge else casimir (rep_at field k.0) k.1.n

-- how many copies of a field's components count
abbrev pub copies : TermKind → Field → ℕ
copies Fermion field = fermion_copies field
copies Scalar field = scalar_copies field

-- Twice the trace of Casimirs over so many copies of a field, over the number of generators. Under SU(n) it is a whole number.
abbrev pub weight : List Group → ℕ × Group → ℕ → Field → ℚ
weight groups k count field =
    if is_abelian k.1 then whole (pos (2 * (count * field_size groups field))) *ℚ (field.charge *ℚ field.charge)
    else whole (pos (count * (multiplicity groups field k.0 * doubled_index (rep_at field k.0) k.1.n)))

-- the sum over fields of these times the Casimirs under another group
abbrev pub pair_sum : TermKind → List Group → ℕ × Group → ℕ × Group → List Field → ℚ
pair_sum kind groups k l fields = sum ring_ℚ.semiring fields (λ field. weight groups k (copies kind field) field *ℚ field_casimir l field)
