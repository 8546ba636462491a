-- Keys with another place at a leg.
use Rattle.std.specs.Prelude.{◌≡◌, ◌<◌, ℕ, zero, suc, List, [], ◌∷◌, length, get_or, set}
use Rattle.std.proofs.Common.{refl, ap, arith}

pub length_set : (k : List ℕ) (leg x : ℕ) → length (set k leg x) ≡ length k
length_set [] leg x = refl
length_set (y ∷ ys) zero x = refl
length_set (y ∷ ys) (suc leg) x = ap suc (length_set ys leg x)

-- the place that was put there
pub get_set : (k : List ℕ) (leg x : ℕ) → leg < length k → get_or (set k leg x) leg 0 ≡ x
get_set [] leg x l = absurd (omega arith)
get_set (y ∷ ys) zero x l = refl
get_set (y ∷ ys) (suc leg) x l = get_set ys leg x (omega arith)

-- the old place put back
pub set_back : (k : List ℕ) (leg x : ℕ) → leg < length k → set (set k leg x) leg (get_or k leg 0) ≡ k
set_back [] leg x l = absurd (omega arith)
set_back (y ∷ ys) zero x l = refl
set_back (y ∷ ys) (suc leg) x l = ap (λ r. y ∷ r) (set_back ys leg x (omega arith))
