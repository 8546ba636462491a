-- The anomaly traces, over all fermion components with projectors; fermions are left-handed. A trace of three generators of
-- the gauge group has to vanish, as has that of one generator, which couples to gravity: S. L. Adler, Phys. Rev. 177 (1969)
-- 2426, and L. Alvarez-Gaume and E. Witten, Nucl. Phys. B234 (1984) 269. The number of doublets of an SU(2) has to be even:
-- E. Witten, Phys. Lett. 117B (1982) 324.
use Rattle.std.specs.Prelude.{◌==◌, Bool, not, if◌then◌else◌, ◌%◌, unsigned_abs, ℕ, List, [], ◌∷◌, ◌++◌, map, filter}
use Rattle.std.specs.List.{flat_map, enumerate_from}
use Rattle.exact_algebra.specs.Sums.{sum}
use Rattle.frac128.specs.Rational.{ℚ, zero_ℚ, ◌+ℚ◌, ◌*ℚ◌, eq_ℚ}
use Rattle.frac128.specs.RationalLaws.{ring_ℚ}
use Rattle.model_core.specs.declared.group.Group.{Group}
use Rattle.model_core.specs.declared.model.Model.{Model}
use Rattle.model_core.specs.Component.{Component, fermion_components, projector_at}
use Rattle.model_core.specs.Generators.{generator_at, charge_generator}
use Rattle.model_core.specs.Groups.{is_abelian}

-- ---- matrices over all fermion components

abbrev pub Matrix : Type 0
Matrix = Component → Component → ℚ

module _ (model : Model) where
  abbrev pub product : Matrix → Matrix → Matrix
  product A B c d = sum ring_ℚ.semiring (fermion_components model) (λ e. A c e *ℚ B e d)

  abbrev pub sum_of : Matrix → Matrix → Matrix
  sum_of A B c d = A c d +ℚ B c d

  -- the trace, taken with the projector
  abbrev pub projected_trace : Matrix → ℚ
  projected_trace A = sum ring_ℚ.semiring (fermion_components model) (λ c. product (projector_at model.groups) A c c)

  -- X_ij of the SU(n) at a place
  abbrev pub X : ℕ × Group → ℕ → ℕ → Matrix
  X at i j = generator_at model.groups (record { place = at.0; i = i; j = j })

  -- the charge of the U(1) at a place
  abbrev pub Q : ℕ × Group → Matrix
  Q at = generator_at model.groups (charge_generator at.0)

  -- Tr(X_12 (X_23 X_31 + X_31 X_23))
  unfoldable pub cubic_trace : ℕ × Group → ℚ
  cubic_trace at = projected_trace (product (X at 1 2) (sum_of (product (X at 2 3) (X at 3 1)) (product (X at 3 1) (X at 2 3))))

  -- Tr(X_12 X_21): the number of doublets of an SU(2), each larger representation as often as twice its Dynkin index
  unfoldable pub index_trace : ℕ × Group → ℚ
  index_trace at = projected_trace (product (X at 1 2) (X at 2 1))

  -- Tr(Q X_12 X_21), with the U(1) at another place
  unfoldable pub mixed_trace : ℕ × Group → ℕ × Group → ℚ
  mixed_trace at abelian = projected_trace (product (Q abelian) (product (X at 1 2) (X at 2 1)))

  -- Tr(Q)
  unfoldable pub gravity_trace : ℕ × Group → ℚ
  gravity_trace at = projected_trace (Q at)

  -- Tr(Q^3)
  unfoldable pub abelian_trace : ℕ × Group → ℚ
  abelian_trace at = projected_trace (product (Q at) (product (Q at) (Q at)))

-- ---- their order

pub data TraceKind : Type 0 where
  Cubic : TraceKind
  Global : TraceKind
  Mixed : TraceKind
  Gravity : TraceKind
  Abelian : TraceKind

-- An anomaly trace of a group.
pub record Trace : Type 0 where
  pub kind : TraceKind
  pub group : Group
  pub value : ℚ

-- the groups with their places, and those of them that are the U(1), at most one
abbrev pub places : Model → List (ℕ × Group)
places model = enumerate_from 0 model.groups

abbrev pub abelian_places : Model → List (ℕ × Group)
abelian_places model = filter (λ at. is_abelian at.1) (places model)

-- the trace of an SU(n) alone: the cubic one where n is at least 3, and else the one of the doublets
abbrev pub own_trace : Model → ℕ × Group → Trace
own_trace model at =
    if at.1.n == 2 then record { kind = Global; group = at.1; value = index_trace model at }
    else record { kind = Cubic; group = at.1; value = cubic_trace model at }

abbrev pub mixed_with : Model → ℕ × Group → ℕ × Group → Trace
mixed_with model at abelian = record { kind = Mixed; group = at.1; value = mixed_trace model at abelian }

-- the traces of an SU(n): its own, and the mixed one where there is a U(1)
abbrev pub special_traces : Model → ℕ × Group → List Trace
special_traces model at =
    if is_abelian at.1 then [] else own_trace model at ∷ map (mixed_with model at) (abelian_places model)

-- the traces of the U(1)
abbrev pub charge_traces : Model → ℕ × Group → List Trace
charge_traces model at =
    record { kind = Gravity; group = at.1; value = gravity_trace model at }
    ∷ record { kind = Abelian; group = at.1; value = abelian_trace model at } ∷ []

-- all traces: those of each SU(n) in the order of the file, then those of the U(1)
abbrev pub traces : Model → List Trace
traces model = flat_map (special_traces model) (places model) ++ flat_map (charge_traces model) (abelian_places model)

-- ---- anomalies

-- a whole number that is odd
abbrev pub is_odd : ℚ → Bool
is_odd x = unsigned_abs x.num % 2 == 1

-- a trace is bad where it isn't 0, and the one of the doublets where it is odd
abbrev pub is_bad_value : TraceKind → ℚ → Bool
is_bad_value Global x = is_odd x
is_bad_value _ x = not (eq_ℚ x zero_ℚ)

abbrev pub is_bad : Trace → Bool
is_bad trace = is_bad_value trace.kind trace.value

-- the bad traces in their order
abbrev pub anomalies : Model → List Trace
anomalies model = filter is_bad (traces model)
