-- The tuple at a place of the list of all tuples, in mixed radix.
use Rattle.std.specs.Prelude.{ℕ, ◌+◌, ◌/◌, ◌%◌, ◌==◌, ◌&&◌, Bool, true, false, List, [], ◌∷◌, length}
use Rattle.model_core.specs.Component.{tuples}

abbrev pub tuple_at : List ℕ → ℕ → List ℕ
tuple_at [] place = []
tuple_at (n ∷ sizes) place = (place / length (tuples sizes) + 1) ∷ tuple_at sizes (place % length (tuples sizes))

-- the sizes come in equal pairs, as those of adjoint representations do
abbrev pub are_pairs : List ℕ → Bool
are_pairs [] = true
are_pairs (n ∷ []) = false
are_pairs (n ∷ m ∷ sizes) = n == m && are_pairs sizes
