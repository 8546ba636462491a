-- Values that are made of the entries of tensors.
use Rattle.std.specs.Prelude.{ℕ, suc, ◌==◌, if◌then◌else◌, List, [], ◌∷◌, ◌++◌, map, get_or, take, slice_get, Option, Some, None}
use Rattle.beta_poly.specs.Polynomial.{Polynomial, zero_poly}
use Rattle.sparse_tensor.specs.declared.values.Value.{Value}
use Rattle.sparse_tensor.specs.Tensor.{Tensor, entries_of, value}
use Rattle.sparse_tensor.specs.Operations.{Values}

-- ---- other values at the same keys

abbrev pub with_value : (Polynomial → Polynomial) → List ℕ × Polynomial → Value
with_value h e = record { key = e.0; value = h e.1 }

abbrev pub with_values : (Polynomial → Polynomial) → Tensor → List Value
with_values h tensor = map (with_value h) (entries_of tensor)

-- ---- slices of tensors with three legs

-- an entry without its third place, where that is the given one
abbrev pub sliced : ℕ → List ℕ × Polynomial → List Value
sliced place e = if get_or e.0 2 0 == place then record { key = take 2 e.0; value = e.1 } ∷ [] else []

-- a function at keys that end with a place
abbrev pub slice_at : ℕ → Values → Values
slice_at place f key = f (key ++ place ∷ [])

-- ---- stacks of tensors with two legs

-- an entry with one place more
abbrev pub entry_behind : ℕ → List ℕ × Polynomial → Value
entry_behind place e = record { key = e.0 ++ place ∷ []; value = e.1 }

-- the entries of tensors with their places, where the first has this one
abbrev pub values_from : ℕ → List Tensor → List Value
values_from place [] = []
values_from place (tensor ∷ tensors) = map (entry_behind place) (entries_of tensor) ++ values_from (suc place) tensors

abbrev pub value_or_zero : Option Tensor → Values
value_or_zero None key = zero_poly
value_or_zero (Some tensor) key = value tensor key

-- at (j, k, a) the value at (j, k) of the tensor at place a
abbrev pub stacked_at : List Tensor → Values
stacked_at tensors (j ∷ k ∷ a ∷ []) = value_or_zero (slice_get tensors a) (j ∷ k ∷ [])
stacked_at tensors _ = zero_poly
