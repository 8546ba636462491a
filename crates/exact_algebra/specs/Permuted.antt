-- Sums do not see the order of their list: for `sort`, whose contract speaks of `IsPermutation`.
use Rattle.std.specs.Prelude.{◌≡◌, ℕ, zero, suc, ◌<◌, List, [], ◌∷◌, length, get_or, set}
use Rattle.std.specs.List.{swap}
use Rattle.std.specs.List.Sorted.{IsPermutation}
use Rattle.std.proofs.Common.{sym, arith}
use Rattle.std.proofs.lemmas.List.Sorted.{IsPermutation-keeps}
use Rattle.exact_algebra.specs.Ring.{CommutativeMonoid, Semiring, additive}
use Rattle.exact_algebra.specs.Totals.{total}
use Rattle.exact_algebra.specs.Sums.{sum}
use Rattle.exact_algebra.specs.Orders.{Rearranged, total-rearranged, sum_orders, sum_orders-rearranged}
use Rattle.exact_algebra.specs.Orders.Rearranged.{same, keep, swap as exchanged, then}

-- x in place of the item at j, which comes first
to_front : {A : Type 0} (x : A) (xs : List A) (j : ℕ) (d : A) → j < length xs → Rearranged (x ∷ xs) (get_or xs j d ∷ set xs j x)
to_front x [] j d l = absurd (omega arith)
to_front x (y ∷ ys) zero d l = exchanged
to_front x (y ∷ ys) (suc j) d l = then exchanged (then (keep (to_front x ys j d (omega arith))) exchanged)

-- the items at i and j exchanged
exchange : {A : Type 0} (xs : List A) (i j : ℕ) (d : A) → i < length xs → j < length xs → Rearranged xs (set (set xs i (get_or xs j d)) j (get_or xs i d))
exchange [] i j d hi hj = absurd (omega arith)
exchange (x ∷ xs) zero zero d hi hj = same
exchange (x ∷ xs) zero (suc j) d hi hj = to_front x xs j d (omega arith)
exchange (x ∷ xs) (suc i) zero d hi hj = to_front x xs i d (omega arith)
exchange (x ∷ xs) (suc i) (suc j) d hi hj = keep (exchange xs i j d (omega arith) (omega arith))

swapped : {A : Type 0} (xs : List A) (i j : ℕ) → i < length xs → j < length xs → Rearranged xs (swap xs i j)
swapped [] i j hi hj = same
swapped (d ∷ ys) i j hi hj = exchange (d ∷ ys) i j d hi hj

-- a permutation moves the items of a list
pub Rearranged-permuted : {A : Type 0} (xs ys : List A) → IsPermutation xs ys → Rearranged xs ys
Rearranged-permuted xs ys h =
    IsPermutation-keeps xs (λ l. Rearranged xs l) same (λ l i j hi hj r. then r (swapped l i j hi hj)) ys h

pub total-permuted : (M : CommutativeMonoid) {A : Type 0} (xs ys : List A) → IsPermutation xs ys → (f : A → M.carrier) → total M ys f ≡ total M xs f
total-permuted M xs ys h f = sym (total-rearranged M (Rearranged-permuted xs ys h) f)

module _ (R : Semiring) where
  pub sum-permuted : {A : Type 0} (xs ys : List A) → IsPermutation xs ys → (f : A → R.carrier) → sum R ys f ≡ sum R xs f
  unfolding sum
  sum-permuted xs ys h f = total-permuted (additive R) xs ys h f

  pub sum_orders-permuted : {A : Type 0} (xs ys : List A) → IsPermutation xs ys → (F : List A → R.carrier) → sum_orders R ys F ≡ sum_orders R xs F
  sum_orders-permuted xs ys h F = sym (sum_orders-rearranged R (Rearranged-permuted xs ys h) F)
