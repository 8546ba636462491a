-- Entries of a tensor with one leg taken away.
use Rattle.std.specs.Prelude.{ℕ, ◌==◌, if◌then◌else◌, List, [], ◌∷◌, get_or}
use Rattle.std.specs.List.{insert, remove}
use Rattle.beta_poly.specs.Polynomial.{Polynomial}
use Rattle.sparse_tensor.specs.declared.values.Value.{Value}
use Rattle.sparse_tensor.specs.Operations.{Values}

-- an entry without its place at a leg, where that is the given one
abbrev pub sliced : ℕ → ℕ → List ℕ × Polynomial → List Value
sliced leg place e = if get_or e.0 leg 0 == place then record { key = remove e.0 leg; value = e.1 } ∷ [] else []

-- a function at keys with a place at a leg
abbrev pub slice_at : ℕ → ℕ → Values → Values
slice_at leg place f key = f (insert key leg place)
