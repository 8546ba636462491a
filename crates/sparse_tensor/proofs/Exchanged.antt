-- What a symmetrisation collects has the values of the symmetrisation.
use Rattle.std.specs.Prelude.{◌≡◌, ◌<◌, ℕ, zero, suc, List, [], ◌∷◌, ◌++◌, length, map, get_or}
use Rattle.std.specs.List.{All, AllByRecursion}
use Rattle.std.proofs.Common.{refl, sym, ap, ap₂, ◌∙◌, arith, Equal}
use Rattle.std.proofs.lemmas.List.{length-map}
use Rattle.exact_algebra.specs.Sums.{sum, sum-cons, sum-flat_map, sum-map, sum-same_on, sum-swap, where_equal}
use Rattle.exact_algebra.specs.Formal.{coefficient}
use Rattle.exact_algebra.specs.Kronecker.{sum-where}
use Rattle.exact_algebra.specs.Orders.{Rearranged, Rearranged-map, length-rearranged, orders, orders-rearranged, sum_orders, sum_orders-map, sum_orders-rearranged}
use Rattle.exact_algebra.specs.Permuted.{Rearranged-permuted}
use Rattle.exact_algebra.specs.TensorContraction.{places_cmp, places_equal}
use Rattle.beta_poly.specs.Polynomial.{Polynomial, poly_ring, add_poly}
use Rattle.sparse_tensor.specs.Tensor.{Entries, HasRank, value_in}
use Rattle.sparse_tensor.specs.Operations.{gathered_at, symmetrised_at, places_at, put_back}
use Rattle.sparse_tensor.specs.Collected.{IsFolded, AreFolded, exchanged, all_exchanged}
use Rattle.sparse_tensor.proofs.Deltas.{key_same, deltas_same}
use Rattle.sparse_tensor.proofs.PutBack.{AreLegs, length_put_back, overwritten, places_put_back, put_back_back}
use Rattle.sparse_tensor.proofs.Matches.{matches-swap}
use Rattle.sparse_tensor.proofs.Projected.{each_rank, legs_inside, ranks_append, ranks_map}

-- ---- orders

each_length : (xs : List ℕ) (ws : List (List ℕ)) → AllByRecursion (Rearranged xs) ws → AllByRecursion (λ w. length w ≡ length xs) ws
each_length xs [] h = tt
each_length xs (w ∷ ws) h = (length-rearranged h.0, each_length xs ws h.1)

pub orders_long : (xs : List ℕ) → AllByRecursion (λ w. length w ≡ length xs) (orders xs)
orders_long xs = each_length xs (orders xs) (orders-rearranged xs)

to_all : (P : List ℕ → Type 0) (ws : List (List ℕ)) → AllByRecursion P ws → All P ws
to_all P [] h i d l = absurd (omega arith)
to_all P (w ∷ ws) h zero d l = h.0
to_all P (w ∷ ws) h (suc i) d l = to_all P ws h.1 i d (omega arith)

-- each order of legs has as many
pub lengths_of_orders : (xs : List ℕ) → All (λ w. length w ≡ length xs) (orders xs)
lengths_of_orders xs = to_all (λ w. length w ≡ length xs) (orders xs) (orders_long xs)

-- ---- ranks

pub ranks_exchanged : (rank : ℕ) (legs : List ℕ) (all : List (List ℕ)) (es : Entries) → HasRank rank es → HasRank rank (all_exchanged legs all es)
ranks_exchanged rank legs all [] h = tt
ranks_exchanged rank legs all (e ∷ es) h =
    ranks_append rank (map (exchanged legs e) all) (all_exchanged legs all es)
    (ranks_map rank (exchanged legs e) all (λ w. length_put_back e.0 legs (places_at w e.0) ∙ h.0)) (ranks_exchanged rank legs all es h.1)

-- ---- values

abbrev at_key : List ℕ → List ℕ × Polynomial → Polynomial
at_key key e = where_equal poly_ring.semiring (places_cmp key e.0) e.1

module _ (n : ℕ) (legs : List ℕ) (h : AreLegs n legs) where
  long : (k : List ℕ) → length (places_at legs k) ≡ length legs
  long k = length-map legs (λ leg. get_or k leg 0)

  -- a key comes from another exactly where the two differ at the legs alone, by these places
  one_order : (key k : List ℕ) (ps : List ℕ) (c : Polynomial) → length key ≡ n → length k ≡ n → length ps ≡ length legs → where_equal poly_ring.semiring (places_cmp key (put_back k legs ps)) c ≡ where_equal poly_ring.semiring (places_cmp (put_back key legs (places_at legs k)) k) (where_equal poly_ring.semiring (places_cmp (places_at legs key) ps) c)
  one_order key k ps c a b l =
      deltas_same poly_ring.semiring Equal (places_cmp key (put_back k legs ps)) (places_cmp (put_back key legs (places_at legs k)) k) (places_cmp (places_at legs key) ps) c
      (λ _ g. let e = places_equal key (put_back k legs ps) g in (
        key_same (put_back key legs (places_at legs k)) k (ap (λ r. put_back r legs (places_at legs k)) e ∙ put_back_back n k legs ps h b l),
        key_same (places_at legs key) ps (ap (places_at legs) e ∙ places_put_back n k legs ps h b l),
      ))
      (λ f g. let e = places_equal (put_back key legs (places_at legs k)) k f in
      let p = places_equal (places_at legs key) ps g in
      (refl, key_same key (put_back k legs ps) (sym (ap₂ (λ r q. put_back r legs q) (sym e) (sym p) ∙ put_back_back n key legs (places_at legs k) h a (long k)))))

  other_order : (key k : List ℕ) (ps : List ℕ) (c : Polynomial) → length key ≡ n → length k ≡ n → length ps ≡ length legs → where_equal poly_ring.semiring (places_cmp (put_back key legs ps) k) c ≡ where_equal poly_ring.semiring (places_cmp (put_back key legs (places_at legs k)) k) (where_equal poly_ring.semiring (places_cmp (places_at legs k) ps) c)
  other_order key k ps c a b l =
      deltas_same poly_ring.semiring Equal (places_cmp (put_back key legs ps) k) (places_cmp (put_back key legs (places_at legs k)) k) (places_cmp (places_at legs k) ps) c
      (λ _ g. let e = places_equal (put_back key legs ps) k g in
      let p : places_at legs k ≡ ps = ap (places_at legs) (sym e) ∙ places_put_back n key legs ps h a l in
      (key_same (put_back key legs (places_at legs k)) k (ap (put_back key legs) p ∙ e), key_same (places_at legs k) ps p))
      (λ f g. let e = places_equal (put_back key legs (places_at legs k)) k f in
      let p = places_equal (places_at legs k) ps g in
      (refl, key_same (put_back key legs ps) k (ap (put_back key legs) (sym p) ∙ e)))

  -- all orders of the places of one key against those of the other
  both_orders : (key k : List ℕ) (c : Polynomial) → length key ≡ n → length k ≡ n → sum_orders poly_ring.semiring (places_at legs k) (λ ps. where_equal poly_ring.semiring (places_cmp key (put_back k legs ps)) c) ≡ sum_orders poly_ring.semiring (places_at legs key) (λ ps. where_equal poly_ring.semiring (places_cmp (put_back key legs ps) k) c)
  both_orders key k c a b =
      let d = places_cmp (put_back key legs (places_at legs k)) k in
      sum-same_on poly_ring.semiring (λ ps. length ps ≡ length (places_at legs k)) (orders (places_at legs k)) (λ ps. where_equal poly_ring.semiring (places_cmp key (put_back k legs ps)) c) (λ ps. where_equal poly_ring.semiring d (where_equal poly_ring.semiring (places_cmp (places_at legs key) ps) c)) (orders_long (places_at legs k)) (λ ps l. one_order key k ps c a b (l ∙ long k))
      ∙ sum-where poly_ring.semiring d (orders (places_at legs k)) (λ ps. where_equal poly_ring.semiring (places_cmp (places_at legs key) ps) c)
      ∙ ap (where_equal poly_ring.semiring d) (matches-swap poly_ring.semiring c (places_at legs k) (places_at legs key))
      ∙ sym (sum-where poly_ring.semiring d (orders (places_at legs key)) (λ ps. where_equal poly_ring.semiring (places_cmp (places_at legs k) ps) c))
      ∙ sym (sum-same_on poly_ring.semiring (λ ps. length ps ≡ length (places_at legs key)) (orders (places_at legs key)) (λ ps. where_equal poly_ring.semiring (places_cmp (put_back key legs ps) k) c) (λ ps. where_equal poly_ring.semiring d (where_equal poly_ring.semiring (places_cmp (places_at legs k) ps) c)) (orders_long (places_at legs key)) (λ ps l. other_order key k ps c a b (l ∙ long key)))

  row : (key : List ℕ) (e : List ℕ × Polynomial) → length key ≡ n → length e.0 ≡ n → sum poly_ring.semiring (map (exchanged legs e) (orders legs)) (at_key key) ≡ sum_orders poly_ring.semiring (places_at legs key) (λ ps. at_key (put_back key legs ps) e)
  row key e a b =
      sum-map poly_ring.semiring (exchanged legs e) (orders legs) (at_key key)
      ∙ sym (sum_orders-map poly_ring.semiring (λ leg. get_or e.0 leg 0) legs (λ ps. where_equal poly_ring.semiring (places_cmp key (put_back e.0 legs ps)) e.1))
      ∙ both_orders key e.0 e.1 a b

  -- the exchanged entries have the values of the symmetrisation
  pub symmetrised-exchanged : (es : Entries) (key : List ℕ) → HasRank n es → length key ≡ n → gathered_at (all_exchanged legs (orders legs) es) key ≡ symmetrised_at legs (value_in es) key
  unfolding gathered_at symmetrised_at coefficient
  symmetrised-exchanged es key keys l =
      sum-flat_map poly_ring.semiring (λ e. map (exchanged legs e) (orders legs)) es (at_key key)
      ∙ sum-same_on poly_ring.semiring (λ e. length e.0 ≡ n) es (λ e. sum poly_ring.semiring (map (exchanged legs e) (orders legs)) (at_key key)) (λ e. sum_orders poly_ring.semiring (places_at legs key) (λ ps. at_key (put_back key legs ps) e)) (each_rank n es keys) (λ e b. row key e l b)
      ∙ sum-swap poly_ring.semiring es (orders (places_at legs key)) (λ e ps. at_key (put_back key legs ps) e)

  -- an entry and the same with its places in another order have one symmetrisation
  row_folded : (key : List ℕ) (e f : List ℕ × Polynomial) → length key ≡ n → length e.0 ≡ n → IsFolded legs e f → sum_orders poly_ring.semiring (places_at legs key) (λ ps. at_key (put_back key legs ps) f) ≡ sum_orders poly_ring.semiring (places_at legs key) (λ ps. at_key (put_back key legs ps) e)
  row_folded key e f a b is =
      let R = poly_ring.semiring in
      let k = e.0 in
      let qs = places_at is.order k in
      let moved = Rearranged-map (λ leg. get_or k leg 0) (Rearranged-permuted legs is.order is.legs_are) in
      let as_long : length qs ≡ length legs = length-rearranged moved ∙ long k in
      let other = put_back k legs qs in
      let at = λ (ps : List ℕ). where_equal R (places_cmp key (put_back k legs ps)) e.1 in
      ap (λ g. sum_orders R (places_at legs key) (λ ps. at_key (put_back key legs ps) g)) is.is
      ∙ sym (both_orders key other e.1 a (length_put_back k legs qs ∙ b))
      ∙ ap (λ ps. sum_orders R ps (λ ps. where_equal R (places_cmp key (put_back other legs ps)) e.1)) (places_put_back n k legs qs h b as_long)
      ∙ sum-same_on R (λ ps. length ps ≡ length qs) (orders qs) (λ ps. where_equal R (places_cmp key (put_back other legs ps)) e.1) at (orders_long qs) (λ ps l. ap (λ r. where_equal R (places_cmp key r) e.1) (overwritten n k legs qs ps h as_long (l ∙ as_long)))
      ∙ sym (sum_orders-rearranged R moved at)
      ∙ both_orders key k e.1 a b

  -- entries with their places in other orders have the symmetrisation of the entries
  rows_folded : (key : List ℕ) (es fs : Entries) → length key ≡ n → HasRank n es → AreFolded legs es fs → sum poly_ring.semiring fs (λ f. sum_orders poly_ring.semiring (places_at legs key) (λ ps. at_key (put_back key legs ps) f)) ≡ sum poly_ring.semiring es (λ e. sum_orders poly_ring.semiring (places_at legs key) (λ ps. at_key (put_back key legs ps) e))
  rows_folded key [] [] a keys are = refl
  rows_folded key [] (f ∷ fs) a keys are = absurd are
  rows_folded key (e ∷ es) [] a keys are = absurd are
  rows_folded key (e ∷ es) (f ∷ fs) a keys are =
      let R = poly_ring.semiring in
      let row_of = λ (e : List ℕ × Polynomial). sum_orders R (places_at legs key) (λ ps. at_key (put_back key legs ps) e) in
      sum-cons R f fs row_of ∙ ap₂ add_poly (row_folded key e f a keys.0 are.0) (rows_folded key es fs a keys.1 are.1) ∙ sym (sum-cons R e es row_of)

  pub symmetrised-folded : (es fs : Entries) (key : List ℕ) → HasRank n es → length key ≡ n → AreFolded legs es fs → symmetrised_at legs (gathered_at fs) key ≡ symmetrised_at legs (value_in es) key
  unfolding gathered_at symmetrised_at coefficient
  symmetrised-folded es fs key keys l are =
      let R = poly_ring.semiring in
      let at = orders (places_at legs key) in
      sym (sum-swap R fs at (λ e ps. at_key (put_back key legs ps) e)) ∙ rows_folded key es fs l keys are ∙ sum-swap R es at (λ e ps. at_key (put_back key legs ps) e)

-- folded keys have as many places
pub ranks_folded : (rank : ℕ) (legs : List ℕ) (es fs : Entries) → HasRank rank es → AreFolded legs es fs → HasRank rank fs
ranks_folded rank legs [] [] h are = tt
ranks_folded rank legs [] (f ∷ fs) h are = absurd are
ranks_folded rank legs (e ∷ es) [] h are = absurd are
ranks_folded rank legs (e ∷ es) (f ∷ fs) h are =
    (ap (λ g. length g.0) are.0.is ∙ length_put_back e.0 legs (places_at are.0.order e.0) ∙ h.0, ranks_folded rank legs es fs h.1 are.1)

-- one more
pub folded_more : (legs : List ℕ) (es fs : Entries) (e f : List ℕ × Polynomial) → AreFolded legs es fs → IsFolded legs e f → AreFolded legs (es ++ e ∷ []) (fs ++ f ∷ [])
folded_more legs [] [] e f are is = (is, tt)
folded_more legs [] (g ∷ fs) e f are is = absurd are
folded_more legs (d ∷ es) [] e f are is = absurd are
folded_more legs (d ∷ es) (g ∷ fs) e f are is = (are.0, folded_more legs es fs e f are.1 is)

pub folded_empty : (legs : List ℕ) (es fs : Entries) → AreFolded legs es fs → es ≡ [] → fs ≡ []
folded_empty legs [] [] are h = refl
folded_empty legs [] (f ∷ fs) are h = absurd are
folded_empty legs (e ∷ es) fs are h = let never : ⊥ = cc in absurd never

-- the legs are places of each key
pub all_inside : (rank : ℕ) (legs : List ℕ) (es : Entries) → All (λ leg. leg < rank) legs → HasRank rank es → All (λ e. All (λ leg. leg < length e.0) legs) es
all_inside rank legs es inside keys i d l j e k = legs_inside rank (get_or legs j e) es (inside j e k) keys i d l
