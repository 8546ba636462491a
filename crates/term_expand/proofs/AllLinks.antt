-- Lists of all links of a matrix: they ascend, and stand for the matrix.
use Rattle.std.specs.Prelude.{◌≡◌, ◌≢◌, ◌<◌, ◌≤◌, ◌-◌, ◌⊎◌, ℕ, zero, suc, Bool, true, false, cond, List, [], ◌∷◌, ◌++◌, length, get_or}
use Rattle.std.specs.List.{All}
use Rattle.std.specs.Ordering.{nat_cmp, ordering_then}
use Rattle.std.proofs.Common.{refl, sym, ap, ap₂, ◌∙◌, arith, inl, inr, Less, Equal}
use Rattle.std.proofs.lemmas.Bool.{cases_lt}
use Rattle.std.proofs.lemmas.Cmp.{nat_cmp_total, tied_itself}
use Rattle.std.proofs.lemmas.List.Elements.{All-append}
use Rattle.exact_algebra.specs.Maps.{const-IsSemiringMap}
use Rattle.exact_algebra.specs.Sums.{sum, sum-nil, sum-one, sum-append, below, below-zero, below-suc, below-none, below-only, where_equal, where_equal-apart, nat_equal, less_cmp}
use Rattle.exact_algebra.specs.Kronecker.{where_zero}
use Rattle.frac128.specs.Rational.{ℚ, zero_ℚ, one_ℚ, eq_ℚ}
use Rattle.frac128.specs.RationalLaws.{ring_ℚ}
use Rattle.frac128.specs.RationalOrder.{Decides-eq_ℚ}
use Rattle.beta_poly.specs.Monomial.{monomials}
use Rattle.beta_poly.specs.Polynomial.{Polynomial, poly_ring, add_poly, zero_poly, zero_test, constant}
use Rattle.sparse_tensor.specs.declared.links.Link.{Link}
use Rattle.sparse_tensor.specs.Operations.{link_cmp, IsAfter}
use Rattle.sparse_tensor.specs.Laws.{IsBetween, link_value}
use Rattle.term_expand.specs.LinkSteps.{kept_link, row_links, all_links, dummy_link}

-- ---- where links are

kept_meets : (P : Link → Type 0) (x y : ℕ) (value : ℚ) → P (record { from = x; to = y; value = value }) → All P (kept_link x y value)
kept_meets P x y value h = by_test (eq_ℚ value zero_ℚ)
  where
    by_test : (b : Bool) → All P (cond b [] (record { from = x; to = y; value = value } ∷ []))
    by_test true i d l = absurd (omega arith)
    by_test false zero d l = h
    by_test false (suc i) d l = absurd (omega arith)

-- the links of a row
pub row_inside : (at : ℕ → ℕ → ℚ) (x y : ℕ) → All (λ l. (l.from ≡ x) × (l.to < y)) (row_links at x y)
unfolding row_links
row_inside at x zero = λ i d l. absurd (omega (arith, l))
row_inside at x (suc y) =
    All-append (λ l. (l.from ≡ x) × (l.to < suc y)) (row_links at x y) (kept_link x y (at x y)) (λ i d l. let h = row_inside at x y i d l in (h.0, omega (arith, h.1))) (kept_meets (λ l. (l.from ≡ x) × (l.to < suc y)) x y (at x y) (refl, omega arith))

-- the links of all rows
pub all_inside : (at : ℕ → ℕ → ℚ) (count n : ℕ) → All (IsBetween n count) (all_links at count n)
unfolding all_links
all_inside at count zero = λ i d l. absurd (omega (arith, l))
all_inside at count (suc x) =
    All-append (IsBetween (suc x) count) (all_links at count x) (row_links at x count) (λ i d l. let h = all_inside at count x i d l in (omega (arith, h.0), h.1)) (λ i d l. let h = row_inside at x count i d l in (omega (arith, h.0), h.1))

-- equal places compare as equal
pub place_same : (a b : ℕ) → a ≡ b → nat_cmp a b ≡ Equal
place_same a b e = ap (nat_cmp a) (sym e) ∙ tied_itself nat_cmp_total a

-- from an earlier place, or from the same to an earlier one
abbrev IsEarlier : Link → Link → Type 0
IsEarlier k l = (k.from < l.from) ⊎ ((k.from ≡ l.from) × (k.to < l.to))

earlier_less : (k l : Link) → IsEarlier k l → link_cmp k l ≡ Less
earlier_less k l (inl h) = ap (λ o. ordering_then o (nat_cmp k.to l.to)) (less_cmp k.from l.from h)
earlier_less k l (inr h) = ap₂ ordering_then (place_same k.from l.from h.0) (less_cmp k.to l.to h.1)

after_earlier : (links : List Link) (l : Link) → All (λ k. IsEarlier k l) links → IsAfter links l
after_earlier links l earlier filled =
    earlier_less (get_or links (length links - 1) l) l (earlier (length links - 1) l (omega (arith, filled)))

-- the next link of a row comes after all before it
pub next_after : (at : ℕ → ℕ → ℚ) (count x y : ℕ) (value : ℚ) → IsAfter (all_links at count x ++ row_links at x y) (record { from = x; to = y; value = value })
next_after at count x y value =
    let next : Link = record { from = x; to = y; value = value } in
    after_earlier (all_links at count x ++ row_links at x y) next (All-append (λ k. IsEarlier k next) (all_links at count x) (row_links at x y) (λ i d l. inl (all_inside at count x i d l).0) (λ i d l. inr (row_inside at x y i d l)))

-- a link from a place behind all others comes after them
pub dummy_after : (links : List Link) (place : ℕ) → All (IsBetween place place) links → IsAfter links (dummy_link place)
dummy_after links place inside =
    after_earlier links (dummy_link place) (λ i d l. inl (inside i d l).0)

-- ---- what links stand for

-- the polynomial of the number 0
pub constant-zero : constant zero_ℚ ≡ zero_poly
constant-zero = (const-IsSemiringMap monomials ring_ℚ.semiring zero_test).at_zero

module _ (at : ℕ → ℕ → ℚ) (x y : ℕ) where
  -- a number at a pair of places
  abbrev weight : ℕ → ℕ → ℚ → Polynomial
  weight i j value = where_equal poly_ring.semiring (nat_cmp x i) (where_equal poly_ring.semiring (nat_cmp y j) (constant value))

  abbrev link_weight : Link → Polynomial
  link_weight l = weight l.from l.to l.value

  inner_zero : (i : ℕ) (c : Polynomial) → c ≡ zero_poly → where_equal poly_ring.semiring (nat_cmp x i) c ≡ zero_poly
  inner_zero i c e = ap (where_equal poly_ring.semiring (nat_cmp x i)) e ∙ where_zero poly_ring.semiring (nat_cmp x i)

  weight-zero : (i j : ℕ) → weight i j zero_ℚ ≡ zero_poly
  weight-zero i j =
      inner_zero i (where_equal poly_ring.semiring (nat_cmp y j) (constant zero_ℚ)) (ap (where_equal poly_ring.semiring (nat_cmp y j)) constant-zero ∙ where_zero poly_ring.semiring (nat_cmp y j))

  sum-kept : (i j : ℕ) (value : ℚ) → sum poly_ring.semiring (kept_link i j value) link_weight ≡ weight i j value
  sum-kept i j value = by_test (eq_ℚ value zero_ℚ) refl
    where
      by_test : (b : Bool) → eq_ℚ value zero_ℚ ≡ b → sum poly_ring.semiring (cond b [] (record { from = i; to = j; value = value } ∷ [])) link_weight ≡ weight i j value
      by_test true e =
          sum-nil poly_ring.semiring link_weight ∙ sym (ap (weight i j) ((Decides-eq_ℚ value zero_ℚ).0 e) ∙ weight-zero i j)
      by_test false e = sum-one poly_ring.semiring (record { from = i; to = j; value = value }) link_weight

  sum-row : (i m : ℕ) → sum poly_ring.semiring (row_links at i m) link_weight ≡ below poly_ring.semiring m (λ j. weight i j (at i j))
  unfolding row_links
  sum-row i zero = sum-nil poly_ring.semiring link_weight ∙ sym (below-zero poly_ring.semiring (λ j. weight i j (at i j)))
  sum-row i (suc m) =
      sum-append poly_ring.semiring (row_links at i m) (kept_link i m (at i m)) link_weight
      ∙ ap₂ add_poly (sum-row i m) (sum-kept i m (at i m))
      ∙ sym (below-suc poly_ring.semiring m (λ j. weight i j (at i j)))

  sum-all : (m n : ℕ) → sum poly_ring.semiring (all_links at m n) link_weight ≡ below poly_ring.semiring n (λ i. below poly_ring.semiring m (λ j. weight i j (at i j)))
  unfolding all_links
  sum-all m zero =
      sum-nil poly_ring.semiring link_weight ∙ sym (below-zero poly_ring.semiring (λ i. below poly_ring.semiring m (λ j. weight i j (at i j))))
  sum-all m (suc n) =
      sum-append poly_ring.semiring (all_links at m n) (row_links at n m) link_weight
      ∙ ap₂ add_poly (sum-all m n) (sum-row n m)
      ∙ sym (below-suc poly_ring.semiring n (λ i. below poly_ring.semiring m (λ j. weight i j (at i j))))

  weight-other_row : (i j : ℕ) (value : ℚ) → x ≢ i → weight i j value ≡ zero_poly
  weight-other_row i j value other =
      where_equal-apart poly_ring.semiring (nat_cmp x i) (where_equal poly_ring.semiring (nat_cmp y j) (constant value)) (λ e. other (nat_equal x i e))

  weight-other_column : (i j : ℕ) (value : ℚ) → y ≢ j → weight i j value ≡ zero_poly
  weight-other_column i j value other =
      inner_zero i (where_equal poly_ring.semiring (nat_cmp y j) (constant value)) (where_equal-apart poly_ring.semiring (nat_cmp y j) (constant value) (λ e. other (nat_equal y j e)))

  weight-here : (value : ℚ) → weight x y value ≡ constant value
  weight-here value =
      ap₂ (λ o r. where_equal poly_ring.semiring o (where_equal poly_ring.semiring r (constant value))) (place_same x x refl) (place_same y y refl)

  sum-inside : (m n : ℕ) → x < n → y < m → below poly_ring.semiring n (λ i. below poly_ring.semiring m (λ j. weight i j (at i j))) ≡ constant (at x y)
  sum-inside m n row column =
      below-only poly_ring.semiring n x (λ i. below poly_ring.semiring m (λ j. weight i j (at i j))) row (λ i l other. below-none poly_ring.semiring m (λ j. weight i j (at i j)) (λ j k. weight-other_row i j (at i j) (λ e. other (sym e))))
      ∙ below-only poly_ring.semiring m y (λ j. weight x j (at x j)) column (λ j k other. weight-other_column x j (at x j) (λ e. other (sym e)))
      ∙ weight-here (at x y)

  sum-outside : (m n : ℕ) → (n ≤ x) ⊎ (m ≤ y) → below poly_ring.semiring n (λ i. below poly_ring.semiring m (λ j. weight i j (at i j))) ≡ zero_poly
  sum-outside m n outside =
      below-none poly_ring.semiring n (λ i. below poly_ring.semiring m (λ j. weight i j (at i j))) (λ i l. below-none poly_ring.semiring m (λ j. weight i j (at i j)) (λ j k. none i j l k outside))
    where
      none : (i j : ℕ) → i < n → j < m → (n ≤ x) ⊎ (m ≤ y) → weight i j (at i j) ≡ zero_poly
      none i j l k (inl past) = weight-other_row i j (at i j) (λ e. absurd (omega (arith, past, l, e)))
      none i j l k (inr past) = weight-other_column i j (at i j) (λ e. absurd (omega (arith, past, k, e)))

  -- all links of a matrix stand for it, where it is 0 outside of them
  pub all-value : (n : ℕ) → ((n ≤ x) ⊎ (n ≤ y) → at x y ≡ zero_ℚ) → link_value (all_links at n n) x y ≡ constant (at x y)
  unfolding link_value
  all-value n outside = sum-all n n ∙ by_place (cases_lt x n) (cases_lt y n)
    where
      none : (n ≤ x) ⊎ (n ≤ y) → below poly_ring.semiring n (λ i. below poly_ring.semiring n (λ j. weight i j (at i j))) ≡ constant (at x y)
      none past = sum-outside n n past ∙ sym (ap constant (outside past) ∙ constant-zero)

      by_place : (x < n) ⊎ (n ≤ x) → (y < n) ⊎ (n ≤ y) → below poly_ring.semiring n (λ i. below poly_ring.semiring n (λ j. weight i j (at i j))) ≡ constant (at x y)
      by_place (inl row) (inl column) = sum-inside n n row column
      by_place (inl row) (inr past) = none (inr past)
      by_place (inr past) other = none (inl past)

-- one more link, from the dummy to itself
pub value-dummy : (links : List Link) (place x y : ℕ) → link_value (links ++ dummy_link place ∷ []) x y ≡ add_poly (link_value links x y) (where_equal poly_ring.semiring (nat_cmp x place) (where_equal poly_ring.semiring (nat_cmp y place) (constant one_ℚ)))
unfolding link_value
value-dummy links place x y =
    sum-append poly_ring.semiring links (dummy_link place ∷ []) (λ l. where_equal poly_ring.semiring (nat_cmp x l.from) (where_equal poly_ring.semiring (nat_cmp y l.to) (constant l.value)))
    ∙ ap (add_poly (sum poly_ring.semiring links (λ l. where_equal poly_ring.semiring (nat_cmp x l.from) (where_equal poly_ring.semiring (nat_cmp y l.to) (constant l.value))))) (sum-one poly_ring.semiring (dummy_link place) (λ l. where_equal poly_ring.semiring (nat_cmp x l.from) (where_equal poly_ring.semiring (nat_cmp y l.to) (constant l.value))))
