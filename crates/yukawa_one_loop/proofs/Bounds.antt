-- Bounds on the exponents of a tensor's values.
use Rattle.std.specs.Prelude.{◌≡◌, ◌<◌, ◌≤◌, ◌-◌, ◌+◌, ℕ, zero, suc, List, [], ◌∷◌, map, length, get_or}
use Rattle.std.specs.List.{All}
use Rattle.std.proofs.Common.{sym, subst, ◌∙◌, arith, Ordering, Less, Equal, Greater}
use Rattle.exact_algebra.specs.Formal.{AllKeys, coefficient}
use Rattle.exact_algebra.specs.Sums.{sum, sum-nil, sum-cons, sum-map, below, below-zero, below-suc, where_equal}
use Rattle.exact_algebra.specs.TensorContraction.{places_keys, places_cmp}
use Rattle.frac128.specs.Rational.{ℚ}
use Rattle.beta_poly.specs.Exponents.{IsWithin, AllWithin}
use Rattle.beta_poly.specs.Monomial.{monomial_keys, exponent}
use Rattle.beta_poly.specs.Polynomial.{Polynomial, Terms, poly_ring}
use Rattle.beta_poly.proofs.ExponentLaws.{AllWithin-zero, AllWithin-add, AllWithin-mul, AllWithin-scale}
use Rattle.beta_poly.proofs.Steps.{at_number, coefficient_at}
use Rattle.sparse_tensor.specs.declared.links.Link.{Link}
use Rattle.sparse_tensor.specs.declared.values.Value.{Value}
use Rattle.sparse_tensor.specs.Tensor.{Tensor, HasValues, poly_zero_test, rank_of, entries_of, value}
use Rattle.sparse_tensor.specs.Operations.{contracted_at, joined, entry, gathered_at}
use Rattle.gauge_two_loop.proofs.YukawaValues.{AllWithin-sum}
use Rattle.yukawa_one_loop.specs.Matrices.{AreWithin}

-- ---- sums

sum_within : {A : Type 0} (n : ℕ) (xs : List A) (f : A → Polynomial) → ((i : ℕ) (d : A) → i < length xs → AllWithin n (f (get_or xs i d))) → AllWithin n (sum poly_ring.semiring xs f)
sum_within n [] f each = subst (AllWithin n) (sym (sum-nil poly_ring.semiring f)) (AllWithin-zero n)
sum_within n (x ∷ xs) f each =
    subst (AllWithin n) (sym (sum-cons poly_ring.semiring x xs f))
    (AllWithin-add n (f x) (sum poly_ring.semiring xs f) (each 0 x (omega arith)) (sum_within n xs f (λ i d h. each (suc i) d (omega arith))))

pub below_within : (n count : ℕ) (f : ℕ → Polynomial) → ((i : ℕ) → AllWithin n (f i)) → AllWithin n (below poly_ring.semiring count f)
below_within n zero f each = subst (AllWithin n) (sym (below-zero poly_ring.semiring f)) (AllWithin-zero n)
below_within n (suc count) f each =
    subst (AllWithin n) (sym (below-suc poly_ring.semiring count f))
    (AllWithin-add n (below poly_ring.semiring count f) (f count) (below_within n count f each) (each count))

where_within : (n : ℕ) (o : Ordering) (p : Polynomial) → AllWithin n p → AllWithin n (where_equal poly_ring.semiring o p)
where_within n Less p h = AllWithin-zero n
where_within n Equal p h = h
where_within n Greater p h = AllWithin-zero n

-- ---- values at keys

-- what holds of all entries holds of the value at each key
pub value_within : (n : ℕ) (t : Tensor) → AreWithin n t → (key : List ℕ) → AllWithin n (value t key)
unfolding coefficient
value_within n t each key =
    let es = entries_of t in
    sum_within n es (λ e. where_equal poly_ring.semiring (places_cmp key e.0) e.1) (λ i d h. where_within n (places_cmp key (get_or es i d).0) (get_or es i d).1 (each i d h))

-- the key of an entry has a place for each leg
pub key_long : (rank : ℕ) (es : List (List ℕ × Polynomial)) (i : ℕ) (d : List ℕ × Polynomial) → AllKeys places_keys Polynomial (λ k. length k ≡ rank) es → i < length es → length (get_or es i d).0 ≡ rank
key_long rank [] i d keys h = absurd (omega arith)
key_long rank (e ∷ es) zero d keys h = keys.0
key_long rank (e ∷ es) (suc i) d keys h = key_long rank es i d keys.1 (omega arith)

-- and what holds of the value at each key holds of all entries
pub within_values : (n : ℕ) (t : Tensor) → ((key : List ℕ) → length key ≡ rank_of t → AllWithin n (value t key)) → AreWithin n t
within_values n t each i d h =
    let es = entries_of t in
    let e = get_or es i d in
    subst (AllWithin n) (coefficient_at places_keys poly_ring.semiring poly_zero_test es i e (at_number es i d h) t.1.is_map)
    (each e.0 (key_long (rank_of t) es i d t.1.keys h))

-- ---- products

pub product_within : (s t u : Tensor) (links : List Link) → AreWithin 1 s → AreWithin 1 t
    → HasValues (rank_of s + rank_of t - 2) (contracted_at (rank_of s - 1) 1 0 links (value s) (value t)) u → AreWithin 2 u
unfolding joined
product_within s t u links first second has =
    within_values 2 u (λ key l.
    subst (AllWithin 2) (sym (has.value_is key (l ∙ has.rank_is)))
    (AllWithin-sum 2 links _ (λ k. AllWithin-scale 2 k.value _ (AllWithin-mul 1 1 _ _ (value_within 1 s first _) (value_within 1 t second _)))))

-- ---- more bounds

-- what is within 1 is within 2
terms_two : (ts : Terms) → AllKeys monomial_keys ℚ (IsWithin 1) ts → AllKeys monomial_keys ℚ (IsWithin 2) ts
terms_two [] h = tt
terms_two (d ∷ ts) h = (λ s. at_most_two (exponent d.0 s) (h.0 s), terms_two ts h.1)
  where
    at_most_two : (n : ℕ) → n ≤ 1 → n ≤ 2
    at_most_two n low = omega (arith, low)

pub within_two : (t : Tensor) → AreWithin 1 t → AreWithin 2 t
within_two t each i d h = terms_two (get_or (entries_of t) i d).1.0 (each i d h)

-- a tensor of such values
pub gathered_within : (n rank : ℕ) (values : List Value) (t : Tensor) → All {X = Value} (λ v. AllWithin n v.value) values → HasValues rank (gathered_at (map entry values)) t → AreWithin n t
unfolding gathered_at
gathered_within n rank values t each has =
    within_values n t (λ key l.
    subst (AllWithin n) (sym (has.value_is key (l ∙ has.rank_is)
    ∙ sum-map poly_ring.semiring entry values (λ e. where_equal poly_ring.semiring (places_cmp key e.0) e.1)))
    (sum_within n values (λ v. where_equal poly_ring.semiring (places_cmp key v.key) v.value) (λ i d h. where_within n (places_cmp key (get_or values i d).key) (get_or values i d).value (each i d h))))
