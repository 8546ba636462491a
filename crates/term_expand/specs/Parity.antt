-- Odd and even numbers.
use Rattle.std.specs.Prelude.{ℕ, zero, suc, Bool, false, not}

abbrev pub is_odd : ℕ → Bool
is_odd zero = false
is_odd (suc n) = not (is_odd n)
