-- Gauge groups, and the slots that they give.
use Rattle.std.specs.Prelude.{ℕ, Bool, false, ◌&&◌, not, ◌==◌, nat_le, List, Option, Some, None}
use Rattle.std.specs.List.{slice_get}
use Rattle.model_core.specs.declared.group.Group.{Group}

-- from low to high
abbrev pub is_between : ℕ → ℕ → ℕ → Bool
is_between low high n = nat_le low n && nat_le n high

-- a group with n = 1 is the U(1)
abbrev pub is_abelian : Group → Bool
is_abelian group = group.n == 1

-- any other group is SU(n)
abbrev pub is_special : Group → Bool
is_special group = not (is_abelian group)

-- a slot is the place of a group SU(n), counted from 0
abbrev pub has_special : Option Group → Bool
has_special None = false
has_special (Some group) = is_special group

abbrev pub is_slot : List Group → ℕ → Bool
is_slot groups slot = has_special (slice_get groups slot)

-- the n of the group at a place, and 0 where there is none
abbrev pub dimension_of : Option Group → ℕ
dimension_of None = 0
dimension_of (Some group) = group.n

abbrev pub slot_size : List Group → ℕ → ℕ
slot_size groups slot = dimension_of (slice_get groups slot)
