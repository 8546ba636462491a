-- The beta functions of gauge couplings: M. E. Machacek and M. T. Vaughn, Nucl. Phys. B222 (1983) 83, with products of
-- groups as in M. Luo, H. Wang and Y. Xiao, hep-ph/0211440. Fermions are left-handed two-component Weyl fields.
use Rattle.std.specs.Prelude.{ℕ, ◌-◌, ◌*◌, pos, slice_get, unwrap_or, if◌then◌else◌}
use Rattle.frac128.specs.Rational.{ℚ, whole, zero_ℚ, one_ℚ, ◌-ℚ◌, ◌*ℚ◌, ◌/ℚ◌, neg_ℚ}
use Rattle.su_reps.specs.declared.rep.Rep.{Rep}
use Rattle.su_reps.specs.declared.rep.Rep.TheVariants.{Singlet}
use Rattle.su_reps.specs.Operators.{casimir, fraction}
use Rattle.model_core.specs.declared.group.Group.{Group}
use Rattle.model_core.specs.declared.field.Field.{Field}
use Rattle.model_core.specs.declared.model.Model.{Model}
use Rattle.model_core.specs.Component.{Component, fermion_components, trace_over}
use Rattle.model_core.specs.Scalar.{scalar_components}
use Rattle.model_core.specs.Groups.{is_abelian}

-- the representation under the group at a place
abbrev pub rep_at : Field → ℕ → Rep
rep_at field place = unwrap_or (slice_get field.reps place) Singlet

-- the charge of a component: that of its field, negated on a conjugate
abbrev pub charge_of : Component → ℚ
charge_of c = if c.conj then neg_ℚ c.field.charge else c.field.charge

-- the quadratic Casimir of a component under the group at a place: the charge squared under the U(1), whose generator is the charge
abbrev pub casimir_at : Group → ℕ → Component → ℚ
casimir_at group place c = if is_abelian group then charge_of c *ℚ charge_of c else casimir (rep_at c.field place) group.n

-- the quadratic Casimir C_k of the group itself, 0 for the U(1), whose gauge boson has no charge
abbrev pub group_casimir : Group → ℚ
group_casimir group = if is_abelian group then zero_ℚ else whole (pos group.n)

-- the number d_k of the group's generators
abbrev pub generator_count : Group → ℚ
generator_count group = if is_abelian group then one_ℚ else whole (pos (group.n * group.n - 1))

-- S_k(F): the trace of the fermions' Casimirs over the number of generators
unfoldable pub fermion_sum : Model → ℕ → Group → ℚ
fermion_sum model place group = trace_over model.groups (fermion_components model) (casimir_at group place) /ℚ generator_count group

-- S_k(S): the same over the scalar coordinates without the dummy, of which there are as many as real components
unfoldable pub scalar_sum : Model → ℕ → Group → ℚ
scalar_sum model place group = trace_over model.groups (scalar_components model) (casimir_at group place) /ℚ generator_count group

-- The coefficient of the cube of the coupling at one loop, without its factor 1/(16 pi^2):
-- -(11/3 C_k - 2/3 S_k(F) - 1/6 S_k(S))
unfoldable pub gauge_one_loop : Model → ℕ → Group → ℚ
gauge_one_loop model place group =
    neg_ℚ (fraction 11 3 *ℚ group_casimir group -ℚ fraction 2 3 *ℚ fermion_sum model place group -ℚ fraction 1 6 *ℚ scalar_sum model place group)
