-- Entries with at most two dummies.
use Rattle.std.specs.Prelude.{ℕ, nat_le, ◌==◌, Bool, if◌then◌else◌, List, [], ◌∷◌, count_by}
use Rattle.beta_poly.specs.Polynomial.{Polynomial, zero_poly}
use Rattle.sparse_tensor.specs.declared.values.Value.{Value}
use Rattle.sparse_tensor.specs.Operations.{Values}

-- at most two places of a key are the dummy's
abbrev pub has_few : ℕ → List ℕ → Bool
has_few dummy key = nat_le (count_by (λ place. place == dummy) key) 2

-- an entry where it has few dummies
abbrev pub formed : ℕ → List ℕ × Polynomial → List Value
formed dummy e = if has_few dummy e.0 then record { key = e.0; value = e.1 } ∷ [] else []

-- a function, and 0 at keys with more dummies
abbrev pub formed_at : ℕ → Values → Values
formed_at dummy f key = if has_few dummy key then f key else zero_poly
