-- Sums over fields that the anomaly traces are.
use Rattle.std.specs.Prelude.{◌≡◌, ◌≤◌, ℕ, ◌*◌, ℤ, pos, ◌+ℤ◌, ◌*ℤ◌, unsigned_abs, List, [], ◌∷◌}
use Rattle.exact_algebra.specs.Sums.{sum}
use Rattle.frac128.specs.Rational.{ℚ, ratio, whole, ◌*ℚ◌}
use Rattle.frac128.specs.RationalLaws.{ring_ℚ}
use Rattle.su_reps.specs.Operators.{cubic, doubled_index}
use Rattle.model_core.specs.declared.group.Group.{Group}
use Rattle.model_core.specs.declared.field.Field.{Field}
use Rattle.model_core.specs.GaugeBeta.{rep_at}
use Rattle.model_core.specs.Multiplet.{multiplicity}

-- a field's share in the cubic trace of the group at a place: how often it has its representation, times the anomaly coefficient
abbrev pub cubic_share : List Group → ℕ → Group → Field → ℤ
cubic_share groups place group field = pos (multiplicity groups field place) *ℤ cubic (rep_at field place) group.n

abbrev pub cubic_sum : List Group → ℕ → Group → List Field → ℤ
cubic_sum groups place group [] = pos 0
cubic_sum groups place group (field ∷ fields) = cubic_share groups place group field +ℤ cubic_sum groups place group fields

-- how often a field has its representation, times twice the Dynkin index
abbrev pub index_share : List Group → ℕ → Group → Field → ℕ
index_share groups place group field = multiplicity groups field place * doubled_index (rep_at field place) group.n

-- a number of each field, so many times
abbrev pub weighted_sum : (Field → ℕ) → (Field → ℚ) → List Field → ℚ
weighted_sum count number fields = sum ring_ℚ.semiring fields (λ field. whole (pos (count field)) *ℚ number field)

abbrev pub charge : Field → ℚ
charge field = field.charge

abbrev pub charge_cubed : Field → ℚ
charge_cubed field = field.charge *ℚ (field.charge *ℚ field.charge)

-- a multiple of 1/216, as each sum of cubes of sixths is, that is at most bound / 216 in size
pub record IsCubeSum (bound : ℕ) (x : ℚ) : Type 0 where
  pub multiple : ℤ
  pub is : x ≡ ratio multiple 216
  pub small : unsigned_abs multiple ≤ bound
