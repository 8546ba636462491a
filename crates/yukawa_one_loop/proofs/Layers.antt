-- Stacks of tensors with two legs.
use Rattle.std.specs.Prelude.{◌≡◌, ◌+◌, ◌<◌, ◌≤◌, ℕ, zero, suc, List, [], ◌∷◌, ◌++◌, map, length, drop, slice_get, Some}
use Rattle.std.specs.List.{All}
use Rattle.std.specs.Ordering.{nat_cmp}
use Rattle.std.proofs.Common.{Equal, subst, refl, sym, ap, ap₂, ◌∙◌, arith}
use Rattle.std.proofs.lemmas.Cmp.{nat_cmp_total, tied_itself}
use Rattle.std.proofs.lemmas.List.{append_assoc, append-nil}
use Rattle.std.proofs.lemmas.List.Elements.{All-append}
use Rattle.std.proofs.lemmas.Option.{slice_get_within, get_or_from_slice_get}
use Rattle.exact_algebra.specs.Formal.{coefficient-cons, coefficient-nil}
use Rattle.exact_algebra.specs.Kronecker.{where_comm, where_zero, where_add}
use Rattle.exact_algebra.specs.Ring.{zero_add}
use Rattle.exact_algebra.specs.Sums.{sum-nil, sum-cons, where_equal, where_equal-apart, nat_equal}
use Rattle.exact_algebra.specs.TensorContraction.{places_keys, places_cmp}
use Rattle.beta_poly.specs.Polynomial.{Polynomial, poly_ring, zero_poly, add_poly}
use Rattle.beta_poly.proofs.Steps.{at_number}
use Rattle.sparse_tensor.specs.declared.values.Value.{Value}
use Rattle.sparse_tensor.specs.Tensor.{Tensor, Entries, HasRank, HasValues, poly_zero_test, rank_of, entries_of, value, value_in}
use Rattle.sparse_tensor.specs.Operations.{entry, gathered_at}
use Rattle.term_expand.proofs.Added.{gathered_none}
use Rattle.term_expand.proofs.Legs.{of_three}
use Rattle.term_expand.proofs.Sides.{gathered-append}
use Rattle.yukawa_one_loop.specs.Entries.{entry_behind, values_from, value_or_zero, stacked_at}
use Rattle.yukawa_one_loop.proofs.Pairs.{of_two}
use Rattle.yukawa_one_loop.proofs.Slices.{two_keys, three_keys}

-- ---- one tensor

module _ (place j k a : ℕ) where
  one_behind : (x : Polynomial) (key : List ℕ) → length key ≡ 2
      → where_equal poly_ring.semiring (places_cmp (j ∷ k ∷ a ∷ []) (key ++ place ∷ [])) x ≡ where_equal poly_ring.semiring (nat_cmp a place) (where_equal poly_ring.semiring (places_cmp (j ∷ k ∷ []) key) x)
  one_behind x =
      let R = poly_ring.semiring in
      of_two (λ key. where_equal R (places_cmp (j ∷ k ∷ a ∷ []) (key ++ place ∷ [])) x ≡ where_equal R (nat_cmp a place) (where_equal R (places_cmp (j ∷ k ∷ []) key) x)) (λ p q.
      three_keys j k a p q place x
      ∙ ap (where_equal R (nat_cmp j p)) (where_comm R (nat_cmp k q) (nat_cmp a place) x)
      ∙ where_comm R (nat_cmp j p) (nat_cmp a place) (where_equal R (nat_cmp k q) x)
      ∙ ap (where_equal R (nat_cmp a place)) (sym (two_keys j k p q x)))

  all_behind : (es : Entries) → HasRank 2 es → gathered_at (map entry (map (entry_behind place) es)) (j ∷ k ∷ a ∷ []) ≡ where_equal poly_ring.semiring (nat_cmp a place) (value_in es (j ∷ k ∷ []))
  unfolding gathered_at
  all_behind [] keys =
      sum-nil poly_ring.semiring (λ e. where_equal poly_ring.semiring (places_cmp (j ∷ k ∷ a ∷ []) e.0) e.1)
      ∙ sym (ap (where_equal poly_ring.semiring (nat_cmp a place)) (coefficient-nil places_keys poly_ring.semiring poly_zero_test (j ∷ k ∷ [])) ∙ where_zero poly_ring.semiring (nat_cmp a place))
  all_behind (e ∷ es) keys =
      let R = poly_ring.semiring in
      sum-cons R (e.0 ++ place ∷ [], e.1) (map entry (map (entry_behind place) es)) (λ e. where_equal R (places_cmp (j ∷ k ∷ a ∷ []) e.0) e.1)
      ∙ ap₂ add_poly (one_behind e.1 e.0 keys.0) (all_behind es keys.1)
      ∙ sym (ap (where_equal R (nat_cmp a place)) (coefficient-cons places_keys R poly_zero_test e es (j ∷ k ∷ [])) ∙ where_add R (nat_cmp a place) (where_equal R (places_cmp (j ∷ k ∷ []) e.0) e.1) (value_in es (j ∷ k ∷ [])))

behind_long : (place : ℕ) (es : Entries) → HasRank 2 es → All {X = Value} (λ v. length v.key ≡ 3) (map (entry_behind place) es)
behind_long place [] keys i d within = absurd (omega (arith, within))
behind_long place (e ∷ es) keys zero d within = of_two (λ key. length (key ++ place ∷ []) ≡ 3) (λ p q. refl) e.0 keys.0
behind_long place (e ∷ es) keys (suc i) d within = behind_long place es keys.1 i d (omega arith)

-- ---- all of them

abbrev AllTwo : List Tensor → Type 0
AllTwo tensors = All (λ t. rank_of t ≡ 2) tensors

first_two : (t : Tensor) (ts : List Tensor) → AllTwo (t ∷ ts) → HasRank 2 (entries_of t)
first_two t ts two = let is : rank_of t ≡ 2 = two 0 t (omega arith) in subst (λ n. HasRank n (entries_of t)) is t.1.keys

others_two : (t : Tensor) (ts : List Tensor) → AllTwo (t ∷ ts) → AllTwo ts
others_two t ts two i d within = two (suc i) d (omega (arith, within))

-- the sum over tensors whose places count from one on
unfoldable found_from : ℕ → List Tensor → ℕ → List ℕ → Polynomial
found_from place [] a key = zero_poly
found_from place (t ∷ ts) a key = add_poly (where_equal poly_ring.semiring (nat_cmp a place) (value t key)) (found_from (suc place) ts a key)

from_place : (place : ℕ) (ts : List Tensor) → AllTwo ts → (j k a : ℕ) → gathered_at (map entry (values_from place ts)) (j ∷ k ∷ a ∷ []) ≡ found_from place ts a (j ∷ k ∷ [])
unfolding found_from
from_place place [] two j k a = gathered_none (j ∷ k ∷ a ∷ [])
from_place place (t ∷ ts) two j k a =
    gathered-append (map (entry_behind place) (entries_of t)) (values_from (suc place) ts) (j ∷ k ∷ a ∷ [])
    ∙ ap₂ add_poly (all_behind place j k a (entries_of t) (first_two t ts two)) (from_place (suc place) ts (others_two t ts two) j k a)

places_apart : (a place : ℕ) (x : Polynomial) → (a ≡ place → ⊥) → where_equal poly_ring.semiring (nat_cmp a place) x ≡ zero_poly
places_apart a place x other = where_equal-apart poly_ring.semiring (nat_cmp a place) x (λ e. other (nat_equal a place e))

before_all : (place : ℕ) (ts : List Tensor) (a : ℕ) (key : List ℕ) → a < place → found_from place ts a key ≡ zero_poly
unfolding found_from
before_all place [] a key before = refl
before_all place (t ∷ ts) a key before =
    ap₂ add_poly (places_apart a place (value t key) (λ e. omega (arith, before, e))) (before_all (suc place) ts a key (omega (arith, before)))
    ∙ poly_ring.semiring.add_zero zero_poly

found_at : (place : ℕ) (ts : List Tensor) (a b : ℕ) (key : List ℕ) → a ≡ place + b → found_from place ts a key ≡ value_or_zero (slice_get ts b) key
unfolding found_from
found_at place [] a b key is = refl
found_at place (t ∷ ts) a zero key is =
    let same : a ≡ place = omega (arith, is) in
    let equal : nat_cmp a place ≡ Equal = ap (nat_cmp a) (sym same) ∙ tied_itself nat_cmp_total a in
    ap₂ add_poly (ap (λ o. where_equal poly_ring.semiring o (value t key)) equal) (before_all (suc place) ts a key (omega (arith, is)))
    ∙ poly_ring.semiring.add_zero (value t key)
found_at place (t ∷ ts) a (suc b) key is =
    ap₂ add_poly (places_apart a place (value t key) (λ e. omega (arith, is, e))) (found_at (suc place) ts a b key (omega (arith, is)))
    ∙ zero_add poly_ring.semiring (value_or_zero (slice_get ts b) key)

from_long : (place : ℕ) (ts : List Tensor) → AllTwo ts → All {X = Value} (λ v. length v.key ≡ 3) (values_from place ts)
from_long place [] two = λ i d within. absurd (omega (arith, within))
from_long place (t ∷ ts) two =
    All-append (λ v. length v.key ≡ 3) (map (entry_behind place) (entries_of t)) (values_from (suc place) ts) (behind_long place (entries_of t) (first_two t ts two)) (from_long (suc place) ts (others_two t ts two))

module _ (ts : List Tensor) (two : AllTwo ts) (values : List Value) (is : values ≡ values_from 0 ts) where
  pub stack_keys : All {X = Value} (λ v. length v.key ≡ 3) values
  stack_keys = subst (All {X = Value} (λ v. length v.key ≡ 3)) (sym is) (from_long 0 ts two)

  pub stack_values : (s : Tensor) → HasValues 3 (gathered_at (map entry values)) s → HasValues 3 (stacked_at ts) s
  stack_values s has = record {
    rank_is = has.rank_is;
    value_is =
        of_three (λ key. value s key ≡ stacked_at ts key) (λ j k a.
        has.value_is (j ∷ k ∷ a ∷ []) refl
        ∙ ap (λ vs. gathered_at (map entry vs) (j ∷ k ∷ a ∷ [])) is
        ∙ from_place 0 ts two j k a
        ∙ found_at 0 ts a a (j ∷ k ∷ []) (omega arith));
  }

-- ---- the loop over tensors

pub layers_step : (ts : List Tensor) (i : ℕ) (t : Tensor) (now new all : List Value) → slice_get ts i ≡ Some t → now ++ values_from i (drop i ts) ≡ all → new ≡ now ++ map (entry_behind i) (entries_of t)
    → new ++ values_from (i + 1) (drop (i + 1) ts) ≡ all
layers_step ts i t now new all found so_far next =
    let there : drop i ts ≡ t ∷ drop (i + 1) ts = at_number ts i t (slice_get_within ts i t found) ∙ ap (λ d. d ∷ drop (i + 1) ts) (get_or_from_slice_get ts i t t found) in
    let one : suc i ≡ i + 1 = omega arith in
    let layer = map (entry_behind i) (entries_of t) in
    ap (λ l. l ++ values_from (i + 1) (drop (i + 1) ts)) next
    ∙ append_assoc now layer (values_from (i + 1) (drop (i + 1) ts))
    ∙ ap (λ n. now ++ (layer ++ values_from n (drop (i + 1) ts))) (sym one)
    ∙ ap (λ l. now ++ values_from i l) (sym there)
    ∙ so_far

pub layers_end : (ts : List Tensor) (i : ℕ) (now all : List Value) → length ts ≤ i → now ++ values_from i (drop i ts) ≡ all → now ≡ all
layers_end ts i now all over so_far = sym (append-nil now) ∙ ap (λ l. now ++ values_from i l) (sym (past ts i over)) ∙ so_far
  where
    past : (ts : List Tensor) (i : ℕ) → length ts ≤ i → drop i ts ≡ []
    past [] zero over = refl
    past [] (suc i) over = refl
    past (t ∷ ts) zero over = absurd (omega (arith, over))
    past (t ∷ ts) (suc i) over = past ts i (omega (arith, over))
