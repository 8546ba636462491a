-- Lists of links stay in their order.
use Rattle.std.specs.Prelude.{◌≡◌, ◌<◌, ◌≤◌, ◌-◌, ◌+◌, ◌⊎◌, ℕ, zero, suc, List, [], ◌∷◌, ◌++◌, length, get_or}
use Rattle.std.specs.Ordering.{nat_cmp, ordering_then}
use Rattle.std.specs.List.Sorted.{IsNonDecreasingBy}
use Rattle.std.specs.Cmp.{IsTotalOrder}
use Rattle.std.proofs.Common.{refl, ap, ap₂, ◌∙◌, arith, subst, inl, inr, Ordering, Less, Equal, Greater}
use Rattle.std.proofs.lemmas.Bool.{cases_lt}
use Rattle.std.proofs.lemmas.Cmp.{nat_cmp_total, on_total, then_total}
use Rattle.exact_algebra.specs.Sums.{nat_equal, below_less}
use Rattle.sparse_tensor.specs.declared.links.Link.{Link}
use Rattle.sparse_tensor.specs.Operations.{link_cmp, IsLinks, IsAfter}

link_total : IsTotalOrder link_cmp
link_total = then_total (on_total (λ (l : Link). l.from) nat_cmp_total) (on_total (λ (l : Link). l.to) nat_cmp_total)

get_front : (ls : List Link) (l d : Link) (i : ℕ) → i < length ls → get_or (ls ++ l ∷ []) i d ≡ get_or ls i d
get_front [] l d i h = absurd (omega arith)
get_front (x ∷ xs) l d zero h = refl
get_front (x ∷ xs) l d (suc i) h = get_front xs l d i (omega arith)

get_back : (ls : List Link) (l d : Link) (i : ℕ) → i ≡ length ls → get_or (ls ++ l ∷ []) i d ≡ l
get_back [] l d zero h = refl
get_back [] l d (suc i) h = absurd (omega arith)
get_back (x ∷ xs) l d zero h = absurd (omega arith)
get_back (x ∷ xs) l d (suc i) h = get_back xs l d i (omega arith)

long : (ls : List Link) (l : Link) → length (ls ++ l ∷ []) ≡ length ls + 1
long [] l = refl
long (x ∷ xs) l = ap suc (long xs l) ∙ more (length xs)
  where
    more : (n : ℕ) → suc (n + 1) ≡ suc n + 1
    more n = omega arith

same_item : (ls : List Link) (d e : Link) (i : ℕ) → i < length ls → get_or ls i d ≡ get_or ls i e
same_item [] d e i h = absurd (omega arith)
same_item (x ∷ xs) d e zero h = refl
same_item (x ∷ xs) d e (suc i) h = same_item xs d e i (omega arith)

module _ (ls : List Link) (l : Link) (ordered : IsLinks ls) (after : IsAfter ls l) where
  -- each link comes before the new one
  before : (i : ℕ) (d : Link) → i < length ls → link_cmp (get_or ls i d) l ≡ Less
  before i d h = on_side (cases_lt i (length ls - 1))
    where
      last : link_cmp (get_or ls (length ls - 1) d) l ≡ Less
      last = subst (λ x. link_cmp x l ≡ Less) (same_item ls l d (length ls - 1) (omega arith)) (after (omega arith))

      on_side : (i < length ls - 1) ⊎ (length ls - 1 ≤ i) → link_cmp (get_or ls i d) l ≡ Less
      on_side (inl k) = link_total.trans (get_or ls i d) (get_or ls (length ls - 1) d) l (ordered i (length ls - 1) d k (omega arith)) last
      on_side (inr k) =
          let e : length ls - 1 ≡ i = omega arith in
          subst (λ j. link_cmp (get_or ls j d) l ≡ Less) e last

  pub links_push : IsLinks (ls ++ l ∷ [])
  links_push i j d h k = on_side (cases_lt j (length ls))
    where
      inside : j < length ls + 1
      inside = subst (λ n. j < n) (long ls l) k

      on_side : (j < length ls) ⊎ (length ls ≤ j) → link_cmp (get_or (ls ++ l ∷ []) i d) (get_or (ls ++ l ∷ []) j d) ≡ Less
      on_side (inl m) =
          ap₂ link_cmp (get_front ls l d i (omega arith)) (get_front ls l d j m) ∙ ordered i j d h m
      on_side (inr m) =
          let e : j ≡ length ls = omega (arith, inside, m) in
          ap₂ link_cmp (get_front ls l d i (omega arith)) (get_back ls l d j e) ∙ before i d (omega arith)

less_or_equal : (a b : ℕ) → nat_cmp a b ≡ Less → a ≤ b
less_or_equal a b h = on_side (cases_lt a b)
  where
    on_side : (a < b) ⊎ (b ≤ a) → a ≤ b
    on_side (inl l) = omega arith
    on_side (inr l) = absurd (below_less a b h (omega arith))

from_at : (o r : Ordering) (a b : ℕ) → nat_cmp a b ≡ o → ordering_then o r ≡ Less → a ≤ b
from_at Less r a b h l = less_or_equal a b h
from_at Equal r a b h l = equal_so a b (nat_equal a b h)
  where
    equal_so : (a b : ℕ) → a ≡ b → a ≤ b
    equal_so a b e = omega arith
from_at Greater r a b h l = absurd (cc)

-- the places that links come from don't fall
pub froms_rise : (ls : List Link) → IsLinks ls → IsNonDecreasingBy (λ l. l.from) ls
froms_rise ls ordered i j d h k = on_side (cases_lt i j)
  where
    on_side : (i < j) ⊎ (j ≤ i) → (get_or ls i d).from ≤ (get_or ls j d).from
    on_side (inl m) =
        from_at (nat_cmp (get_or ls i d).from (get_or ls j d).from) (nat_cmp (get_or ls i d).to (get_or ls j d).to) (get_or ls i d).from (get_or ls j d).from refl (ordered i j d m k)
    on_side (inr m) =
        let e : i ≡ j = omega arith in
        subst (λ n. (get_or ls i d).from ≤ (get_or ls n d).from) e (omega arith)
