-- Tests of two parts, and of a list with an item.
use Rattle.std.proofs.Common.{◌≡◌, Bool, true, List, ◌∷◌, length, refl, arith}
use Rattle.std.specs.Prelude.{◌&&◌, nat_lt}
use Rattle.std.proofs.lemmas.Bool.Decides.{nat_tests}

pub both_hold : (a b : Bool) → a ≡ true → b ≡ true → (a && b) ≡ true
both_hold a b first second = rw (first, second) refl

pub filled : {A : Type 0} (x : A) (xs : List A) → nat_lt 0 (length (x ∷ xs)) ≡ true
filled x xs = grind (arith, nat_tests)
