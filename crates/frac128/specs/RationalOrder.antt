-- The order of the rational numbers: a total order that goes with sums and with products by what is not negative.
use Rattle.std.proofs.Common.{◌≡◌, ℕ, ◌+◌, ◌*◌, ◌<◌, ◌≤◌, refl, sym, ◌∙◌, ap, ap₂, subst, arith, ℤ, pos, negsuc, [], ◌∷◌}
use Rattle.std.specs.Prelude.{◌+ℤ◌, ◌*ℤ◌, ◌≤ℤ◌, ◌<ℤ◌, unsigned_abs, ◌≢◌}
use Rattle.std.specs.Prelude.{Bool, true, false, ◌&&◌, ◌==◌}
use Rattle.std.specs.Ordering.{MatchOrdering, is_eq, int_eq, eq_by_cmp, as_partial_cmp}
use Rattle.std.specs.Bool.{Decides, one_answer}
use Rattle.std.specs.declared.cmp.Ordering.{Ordering}
use Rattle.std.specs.declared.cmp.Ordering.TheVariants.{Less, Equal, Greater}
use Rattle.std.specs.Cmp.{IsTotalOrder, IsPartialOrder, int_ranks, strict, po, tied_itself, signed_Decides, unsigned_Decides}
use Rattle.std.proofs.lemmas.Int.{ints}
use lib.Signed.{<ℤ_irrefl}
use native.Mathlib.Nat.{mul-lt-mul_of_pos_right, lt_of_mul-lt-mul_right, mul-le-mul_right, le_of_mul-le-mul_right, mul-pos}
use borrow.Author.Differences.{up, down}
use Rattle.frac128.specs.IntLaws.{ring_ℤ}
use Rattle.exact_algebra.specs.Solver.{identity}
use Rattle.exact_algebra.specs.Solver.Term.{var, nought, ◌⊕◌, ◌⊗◌, opposite}
use Rattle.frac128.specs.Rational.{ℚ, ratio, ratio-cross, same_by_cross, same_ℚ, whole, zero_ℚ, one_ℚ, ◌+ℚ◌, ◌-ℚ◌, ◌*ℚ◌, neg_ℚ, reciprocal, eq_ℚ, cmp_ℚ, ◌≤ℚ◌, ◌<ℚ◌}
use Rattle.frac128.specs.RationalLaws.{ring_ℚ, whole-ratio, zero-*ℚ, *ℚ-zero, zero-+ℚ, +ℚ_comm, *ℚ_comm, *ℚ-reciprocal, product-zero, cancel_ℚ}

-- ---- a positive factor on both sides of an order of whole numbers
pub times_below : (a b : ℤ) (d : ℕ) → 0 < d → a <ℤ b → (a *ℤ pos d) <ℤ (b *ℤ pos d)
times_below a b d h l =
    let plain : up a + down b < up b + down a = omega (arith, ints) in
    let more : (up a + down b) * d < (up b + down a) * d = mul-lt-mul_of_pos_right plain h in
    omega (arith, ints)

pub below_times : (a b : ℤ) (d : ℕ) → (a *ℤ pos d) <ℤ (b *ℤ pos d) → a <ℤ b
below_times a b d l =
    let more : (up a + down b) * d < (up b + down a) * d = omega (arith, ints) in
    let plain : up a + down b < up b + down a = lt_of_mul-lt-mul_right d more in
    omega (arith, ints)

pub times_at_most : (a b : ℤ) (d : ℕ) → a ≤ℤ b → (a *ℤ pos d) ≤ℤ (b *ℤ pos d)
times_at_most a b d l =
    let plain : up a + down b ≤ up b + down a = omega (arith, ints) in
    let more : (up a + down b) * d ≤ (up b + down a) * d = mul-le-mul_right d plain in
    omega (arith, ints)

pub at_most_times : (a b : ℤ) (d : ℕ) → 0 < d → (a *ℤ pos d) ≤ℤ (b *ℤ pos d) → a ≤ℤ b
at_most_times a b d h l =
    let more : (up a + down b) * d ≤ (up b + down a) * d = omega (arith, ints) in
    let plain : up a + down b ≤ up b + down a = le_of_mul-le-mul_right more h in
    omega (arith, ints)

turn : (a b c : ℤ) → a *ℤ b *ℤ c ≡ a *ℤ c *ℤ b
turn a b c = identity ring_ℤ (a ∷ b ∷ c ∷ []) (var 0 ⊗ var 1 ⊗ var 2) (var 0 ⊗ var 2 ⊗ var 1) refl

below_chain : (x y z : ℚ) → x <ℚ y → y <ℚ z → x <ℚ z
below_chain x y z h k =
    let first = times_below (x.num *ℤ pos y.den) (y.num *ℤ pos x.den) z.den z.lowest.positive h in
    let second = times_below (y.num *ℤ pos z.den) (z.num *ℤ pos y.den) x.den x.lowest.positive k in
    let e = turn x.num (pos y.den) (pos z.den) in
    let f = turn y.num (pos x.den) (pos z.den) in
    let g = turn z.num (pos y.den) (pos x.den) in
    below_times (x.num *ℤ pos z.den) (z.num *ℤ pos x.den) y.den (omega (arith, ints, e, f, g, first, second))

ranked_ℚ : (x y : ℚ) (r : Ordering) → MatchOrdering r ((x.num *ℤ pos y.den) <ℤ (y.num *ℤ pos x.den)) (x.num *ℤ pos y.den ≡ y.num *ℤ pos x.den) ((y.num *ℤ pos x.den) <ℤ (x.num *ℤ pos y.den)) → MatchOrdering r (x <ℚ y) (x ≡ y) (y <ℚ x)
ranked_ℚ x y Less h = h
ranked_ℚ x y Equal h = same_by_cross x y h
ranked_ℚ x y Greater h = h

-- what the comparison says
pub ranks_ℚ : (x y : ℚ) → MatchOrdering (cmp_ℚ x y) (x <ℚ y) (x ≡ y) (y <ℚ x)
ranks_ℚ x y = ranked_ℚ x y (cmp_ℚ x y) (int_ranks (x.num *ℤ pos y.den) (y.num *ℤ pos x.den))

-- the comparison is a total order
pub cmp_ℚ_total : IsTotalOrder cmp_ℚ
cmp_ℚ_total = strict (λ x y. x <ℚ y) (λ x h. <ℤ_irrefl h) below_chain cmp_ℚ ranks_ℚ

-- ---- `≤`
pub ≤ℚ_refl : (x : ℚ) → x ≤ℚ x
≤ℚ_refl x = omega (arith, ints)

pub ≤ℚ_antisymm : (x y : ℚ) → x ≤ℚ y → y ≤ℚ x → x ≡ y
≤ℚ_antisymm x y h k = same_by_cross x y (omega (arith, ints))

pub ≤ℚ_trans : (x y z : ℚ) → x ≤ℚ y → y ≤ℚ z → x ≤ℚ z
≤ℚ_trans x y z h k =
    let first = times_at_most (x.num *ℤ pos y.den) (y.num *ℤ pos x.den) z.den h in
    let second = times_at_most (y.num *ℤ pos z.den) (z.num *ℤ pos y.den) x.den k in
    let e = turn x.num (pos y.den) (pos z.den) in
    let f = turn y.num (pos x.den) (pos z.den) in
    let g = turn z.num (pos y.den) (pos x.den) in
    at_most_times (x.num *ℤ pos z.den) (z.num *ℤ pos x.den) y.den y.lowest.positive (omega (arith, ints, e, f, g, first, second))

pub ≤ℚ-ratio : (n m : ℤ) (d e : ℕ) → 0 < d → 0 < e → (n *ℤ pos e) ≤ℤ (m *ℤ pos d) → ratio n d ≤ℚ ratio m e
≤ℚ-ratio n m d e p q h =
    let x = ratio n d in
    let y = ratio m e in
    let wide = times_at_most (n *ℤ pos e) (m *ℤ pos d) (x.den * y.den) h in
    let left : n *ℤ pos e *ℤ pos (x.den * y.den) ≡ x.num *ℤ pos y.den *ℤ pos (d * e) =
    identity ring_ℤ (n ∷ pos e ∷ pos x.den ∷ pos y.den ∷ []) (var 0 ⊗ var 1 ⊗ (var 2 ⊗ var 3)) ((var 0 ⊗ var 2) ⊗ (var 1 ⊗ var 3)) refl
    ∙ ap (λ k. k *ℤ (pos e *ℤ pos y.den)) (sym (ratio-cross n d p))
    ∙ identity ring_ℤ (x.num ∷ pos d ∷ pos e ∷ pos y.den ∷ []) ((var 0 ⊗ var 1) ⊗ (var 2 ⊗ var 3)) (var 0 ⊗ var 3 ⊗ (var 1 ⊗ var 2)) refl in
    let right : m *ℤ pos d *ℤ pos (x.den * y.den) ≡ y.num *ℤ pos x.den *ℤ pos (d * e) =
    identity ring_ℤ (m ∷ pos d ∷ pos x.den ∷ pos y.den ∷ []) (var 0 ⊗ var 1 ⊗ (var 2 ⊗ var 3)) ((var 0 ⊗ var 3) ⊗ (var 1 ⊗ var 2)) refl
    ∙ ap (λ k. k *ℤ (pos d *ℤ pos x.den)) (sym (ratio-cross m e q))
    ∙ identity ring_ℤ (y.num ∷ pos e ∷ pos d ∷ pos x.den ∷ []) ((var 0 ⊗ var 1) ⊗ (var 2 ⊗ var 3)) (var 0 ⊗ var 3 ⊗ (var 2 ⊗ var 1)) refl in
    at_most_times (x.num *ℤ pos y.den) (y.num *ℤ pos x.den) (d * e) (mul-pos p q) (omega (arith, ints, left, right, wide))

-- the same number on both sides
pub +ℚ-≤ℚ : (x y z : ℚ) → x ≤ℚ y → (x +ℚ z) ≤ℚ (y +ℚ z)
unfolding ◌+ℚ◌
+ℚ-≤ℚ x y z h =
    let wide = times_at_most (x.num *ℤ pos y.den) (y.num *ℤ pos x.den) (z.den * z.den) h in
    let rest : ℤ = z.num *ℤ pos (x.den * (y.den * z.den)) in
    let left : (x.num *ℤ pos z.den +ℤ z.num *ℤ pos x.den) *ℤ pos (y.den * z.den) ≡ x.num *ℤ pos y.den *ℤ pos (z.den * z.den) +ℤ rest =
    identity ring_ℤ (x.num ∷ pos x.den ∷ pos y.den ∷ z.num ∷ pos z.den ∷ []) ((var 0 ⊗ var 4 ⊕ var 3 ⊗ var 1) ⊗ (var 2 ⊗ var 4)) (var 0 ⊗ var 2 ⊗ (var 4 ⊗ var 4) ⊕ var 3 ⊗ (var 1 ⊗ (var 2 ⊗ var 4))) refl in
    let right : (y.num *ℤ pos z.den +ℤ z.num *ℤ pos y.den) *ℤ pos (x.den * z.den) ≡ y.num *ℤ pos x.den *ℤ pos (z.den * z.den) +ℤ rest =
    identity ring_ℤ (y.num ∷ pos x.den ∷ pos y.den ∷ z.num ∷ pos z.den ∷ []) ((var 0 ⊗ var 4 ⊕ var 3 ⊗ var 2) ⊗ (var 1 ⊗ var 4)) (var 0 ⊗ var 1 ⊗ (var 4 ⊗ var 4) ⊕ var 3 ⊗ (var 1 ⊗ (var 2 ⊗ var 4))) refl in
    ≤ℚ-ratio _ _ (x.den * z.den) (y.den * z.den) (mul-pos x.lowest.positive z.lowest.positive) (mul-pos y.lowest.positive z.lowest.positive) (omega (arith, ints, left, right, wide))

-- ---- `≤` and `<`
pub <ℚ-≤ℚ : (x y : ℚ) → x <ℚ y → x ≤ℚ y
<ℚ-≤ℚ x y h = omega (arith, ints)

pub <ℚ-≢ : (x y : ℚ) → x <ℚ y → x ≢ y
<ℚ-≢ x y h e = <ℤ_irrefl (subst (λ z. x <ℚ z) (sym e) h)

pub ≤ℚ-<ℚ : (x y : ℚ) → x ≤ℚ y → x ≢ y → x <ℚ y
≤ℚ-<ℚ x y h n = ranked_below (cmp_ℚ x y) (ranks_ℚ x y)
  where
    ranked_below : (r : Ordering) → MatchOrdering r (x <ℚ y) (x ≡ y) (y <ℚ x) → x <ℚ y
    ranked_below Less p = p
    ranked_below Equal p = absurd (n p)
    ranked_below Greater p = absurd (n (same_by_cross x y (omega (arith, ints))))

-- ---- sums
pub +ℚ-≤ℚ-both : (x y z w : ℚ) → x ≤ℚ y → z ≤ℚ w → (x +ℚ z) ≤ℚ (y +ℚ w)
+ℚ-≤ℚ-both x y z w h k =
    let second : (y +ℚ z) ≤ℚ (y +ℚ w) = subst (λ s. (y +ℚ z) ≤ℚ s) (+ℚ_comm w y) (subst (λ s. s ≤ℚ (w +ℚ y)) (+ℚ_comm z y) (+ℚ-≤ℚ z w y k)) in
    ≤ℚ_trans (x +ℚ z) (y +ℚ z) (y +ℚ w) (+ℚ-≤ℚ x y z h) second

-- x ≤ y where the difference is not negative
pub difference-≥ : (x y : ℚ) → x ≤ℚ y → zero_ℚ ≤ℚ (y -ℚ x)
difference-≥ x y h =
    subst (λ s. s ≤ℚ (y -ℚ x)) (identity ring_ℚ (x ∷ []) (var 0 ⊕ opposite (var 0)) nought refl) (+ℚ-≤ℚ x y (neg_ℚ x) h)

pub ≤ℚ_from_difference : (x y : ℚ) → zero_ℚ ≤ℚ (y -ℚ x) → x ≤ℚ y
≤ℚ_from_difference x y h =
    subst (λ s. s ≤ℚ y) (zero-+ℚ x)
    (subst (λ s. (zero_ℚ +ℚ x) ≤ℚ s) (identity ring_ℚ (x ∷ y ∷ []) (var 1 ⊕ opposite (var 0) ⊕ var 0) (var 1) refl) (+ℚ-≤ℚ zero_ℚ (y -ℚ x) x h))

pub neg_ℚ-≤ℚ : (x y : ℚ) → x ≤ℚ y → neg_ℚ y ≤ℚ neg_ℚ x
neg_ℚ-≤ℚ x y h =
    ≤ℚ_from_difference (neg_ℚ y) (neg_ℚ x)
    (subst (λ s. zero_ℚ ≤ℚ s) (identity ring_ℚ (x ∷ y ∷ []) (var 1 ⊕ opposite (var 0)) (opposite (var 0) ⊕ opposite (opposite (var 1))) refl) (difference-≥ x y h))

-- ---- products
num-≥ : (x : ℚ) → zero_ℚ ≤ℚ x → pos 0 ≤ℤ x.num
num-≥ x h = omega (arith, ints)

products-≥ : (n m : ℤ) → pos 0 ≤ℤ n → pos 0 ≤ℤ m → pos 0 ≤ℤ (n *ℤ m)
products-≥ (pos n) (pos m) h k = omega (arith, ints)
products-≥ (pos n) (negsuc m) h k = absurd (omega (arith, ints))
products-≥ (negsuc n) m h k = absurd (omega (arith, ints))

pub product-≥ : (x y : ℚ) → zero_ℚ ≤ℚ x → zero_ℚ ≤ℚ y → zero_ℚ ≤ℚ (x *ℚ y)
unfolding ◌*ℚ◌
product-≥ x y h k =
    let top : pos 0 ≤ℤ (x.num *ℤ y.num) = products-≥ x.num y.num (num-≥ x h) (num-≥ y k) in
    subst (λ s. s ≤ℚ ratio (x.num *ℤ y.num) (x.den * y.den)) (sym (whole-ratio (pos 0)))
    (≤ℚ-ratio (pos 0) (x.num *ℤ y.num) 1 (x.den * y.den) (omega arith) (mul-pos x.lowest.positive y.lowest.positive) (omega (arith, ints, top)))

pub product-positive_ℚ : (x y : ℚ) → zero_ℚ <ℚ x → zero_ℚ <ℚ y → zero_ℚ <ℚ (x *ℚ y)
product-positive_ℚ x y h k =
    ≤ℚ-<ℚ zero_ℚ (x *ℚ y) (product-≥ x y (<ℚ-≤ℚ zero_ℚ x h) (<ℚ-≤ℚ zero_ℚ y k))
    (λ e. <ℚ-≢ zero_ℚ x h (sym (product-zero x y (λ f. <ℚ-≢ zero_ℚ y k (sym f)) (sym e))))

pub *ℚ-≤ℚ : (x y z : ℚ) → zero_ℚ ≤ℚ z → x ≤ℚ y → (x *ℚ z) ≤ℚ (y *ℚ z)
*ℚ-≤ℚ x y z p h =
    ≤ℚ_from_difference (x *ℚ z) (y *ℚ z)
    (subst (λ s. zero_ℚ ≤ℚ s) (identity ring_ℚ (x ∷ y ∷ z ∷ []) ((var 1 ⊕ opposite (var 0)) ⊗ var 2) (var 1 ⊗ var 2 ⊕ opposite (var 0 ⊗ var 2)) refl)
    (product-≥ (y -ℚ x) z (difference-≥ x y h) p))

pub *ℚ-<ℚ : (x y z : ℚ) → zero_ℚ <ℚ z → x <ℚ y → (x *ℚ z) <ℚ (y *ℚ z)
*ℚ-<ℚ x y z p h =
    ≤ℚ-<ℚ (x *ℚ z) (y *ℚ z) (*ℚ-≤ℚ x y z (<ℚ-≤ℚ zero_ℚ z p) (<ℚ-≤ℚ x y h))
    (λ e. <ℚ-≢ x y h (cancel_ℚ x y z (λ f. <ℚ-≢ zero_ℚ z p (sym f)) e))

pub reciprocal-positive : (x : ℚ) → zero_ℚ <ℚ x → zero_ℚ <ℚ reciprocal x
reciprocal-positive x h = ranked_above (cmp_ℚ zero_ℚ (reciprocal x)) (ranks_ℚ zero_ℚ (reciprocal x))
  where
    one : x *ℚ reciprocal x ≡ one_ℚ
    one = *ℚ-reciprocal x (λ f. <ℚ-≢ zero_ℚ x h (sym f))

    ranked_above : (r : Ordering) → MatchOrdering r (zero_ℚ <ℚ reciprocal x) (zero_ℚ ≡ reciprocal x) (reciprocal x <ℚ zero_ℚ) → zero_ℚ <ℚ reciprocal x
    ranked_above Less p = p
    ranked_above Equal p =
        let none : zero_ℚ ≡ one_ℚ = sym (*ℚ-zero x) ∙ ap (λ k. x *ℚ k) p ∙ one in
        let same : unsigned_abs (pos 0) ≡ 1 = ap (λ y. unsigned_abs y.num) none in
        absurd (omega arith)
    ranked_above Greater p =
        let below : (reciprocal x *ℚ x) <ℚ (zero_ℚ *ℚ x) = *ℚ-<ℚ (reciprocal x) zero_ℚ x h p in
        let negative : one_ℚ <ℚ zero_ℚ = subst (λ s. one_ℚ <ℚ s) (zero-*ℚ x) (subst (λ s. s <ℚ (zero_ℚ *ℚ x)) (*ℚ_comm (reciprocal x) x ∙ one) below) in
        absurd (omega (arith, ints))

-- ---- whole numbers
pub whole-≤ℚ : (n m : ℤ) → n ≤ℤ m → whole n ≤ℚ whole m
whole-≤ℚ n m h = omega (arith, ints)

-- ---- `==` and the comparison find the same numbers equal
both_true : (s t : Bool) → (s && t) ≡ true → (s ≡ true) × (t ≡ true)
both_true true t e = (refl, e)
both_true false t e = absurd (cc e)

-- `==` decides whether two rational numbers are one
pub Decides-eq_ℚ : (x y : ℚ) → Decides (eq_ℚ x y) (x ≡ y)
Decides-eq_ℚ x y = (same, λ e. subst (λ z. eq_ℚ x z ≡ true) e itself)
  where
    same : eq_ℚ x y ≡ true → x ≡ y
    same e =
        let both = both_true (int_eq x.num y.num) (x.den == y.den) e in
        same_ℚ x y ((signed_Decides x.num y.num).0 both.0) ((unsigned_Decides x.den y.den).0 both.1)

    itself : eq_ℚ x x ≡ true
    itself = ap₂ ◌&&◌ ((signed_Decides x.num x.num).1 refl) ((unsigned_Decides x.den x.den).1 refl)

pub Decides-cmp_ℚ : (x y : ℚ) → Decides (is_eq (cmp_ℚ x y)) (x ≡ y)
Decides-cmp_ℚ x y = (ranked_equal (cmp_ℚ x y) (ranks_ℚ x y), λ e. subst (λ z. is_eq (cmp_ℚ x z) ≡ true) e (ap is_eq (tied_itself cmp_ℚ_total x)))
  where
    ranked_equal : (r : Ordering) → MatchOrdering r (x <ℚ y) (x ≡ y) (y <ℚ x) → is_eq r ≡ true → x ≡ y
    ranked_equal Less p e = absurd (cc e)
    ranked_equal Equal p e = p
    ranked_equal Greater p e = absurd (cc e)

pub eq_ℚ-cmp_ℚ : (x y : ℚ) → eq_ℚ x y ≡ eq_by_cmp cmp_ℚ x y
eq_ℚ-cmp_ℚ x y = one_answer (eq_ℚ x y) (is_eq (cmp_ℚ x y)) (Decides-eq_ℚ x y) (Decides-cmp_ℚ x y)

pub partial_order_ℚ : IsPartialOrder eq_ℚ (as_partial_cmp cmp_ℚ)
partial_order_ℚ = po cmp_ℚ_total eq_ℚ-cmp_ℚ
