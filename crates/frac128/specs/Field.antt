-- The laws of the rational numbers, by name: an ordered field with a size, where whole numbers keep their sums, products and order.
--
-- A crate above proves an identity of fractions in one line, with the ring `ring_ℚ` of RationalLaws and the solver of
-- `exact_algebra`. It lists the values, and writes both sides over their places in the list:
--
--     square : (x y : ℚ) → (x +ℚ y) *ℚ (x -ℚ y) ≡ x *ℚ x -ℚ y *ℚ y
--     square x y = identity ring_ℚ (x ∷ y ∷ []) ((var 0 ⊕ var 1) ⊗ (var 0 ⊕ opposite (var 1))) (var 0 ⊗ var 0 ⊕ opposite (var 1 ⊗ var 1)) refl
--
-- Each law below is a lemma of its own in RationalLaws, RationalOrder, Absolute or Whole, and may be cited from there.
use Rattle.std.specs.Prelude.{◌≡◌, ◌≢◌, ◌↔◌, ℕ, ◌*◌, ◌<◌, ℤ, pos, ◌+ℤ◌, ◌*ℤ◌, neg_ℤ, ◌≤ℤ◌}
use Rattle.std.specs.Cmp.{IsTotalOrder}
use Rattle.frac128.specs.Rational.{ℚ, ratio, whole, zero_ℚ, one_ℚ, ◌+ℚ◌, ◌*ℚ◌, ◌/ℚ◌, neg_ℚ, abs_ℚ, reciprocal, cmp_ℚ, ◌≤ℚ◌, ◌<ℚ◌}

-- what a ratio is, and how ratios are added, multiplied and compared
pub record RatioLaws : Type 0 where
  pub own : (x : ℚ) → ratio x.num x.den ≡ x
  pub same : (n m : ℤ) (d e : ℕ) → 0 < d → 0 < e → (ratio n d ≡ ratio m e) ↔ (n *ℤ pos e ≡ m *ℤ pos d)
  pub sum : (n m : ℤ) (d e : ℕ) → 0 < d → 0 < e → ratio n d +ℚ ratio m e ≡ ratio (n *ℤ pos e +ℤ m *ℤ pos d) (d * e)
  pub product : (n m : ℤ) (d e : ℕ) → 0 < d → 0 < e → ratio n d *ℚ ratio m e ≡ ratio (n *ℤ m) (d * e)
  pub order : (n m : ℤ) (d e : ℕ) → 0 < d → 0 < e → (n *ℤ pos e) ≤ℤ (m *ℤ pos d) → ratio n d ≤ℚ ratio m e

-- a commutative ring in which each number but 0 has a reciprocal
pub record FieldLaws : Type 0 where
  pub sum_assoc : (x y z : ℚ) → (x +ℚ y) +ℚ z ≡ x +ℚ (y +ℚ z)
  pub sum_comm : (x y : ℚ) → x +ℚ y ≡ y +ℚ x
  pub sum_zero : (x : ℚ) → zero_ℚ +ℚ x ≡ x
  pub sum_negation : (x : ℚ) → x +ℚ neg_ℚ x ≡ zero_ℚ
  pub product_assoc : (x y z : ℚ) → (x *ℚ y) *ℚ z ≡ x *ℚ (y *ℚ z)
  pub product_comm : (x y : ℚ) → x *ℚ y ≡ y *ℚ x
  pub product_one : (x : ℚ) → one_ℚ *ℚ x ≡ x
  pub product_sum : (x y z : ℚ) → x *ℚ (y +ℚ z) ≡ x *ℚ y +ℚ x *ℚ z
  pub product_zero : (x y : ℚ) → y ≢ zero_ℚ → x *ℚ y ≡ zero_ℚ → x ≡ zero_ℚ
  pub product_reciprocal : (x : ℚ) → x ≢ zero_ℚ → x *ℚ reciprocal x ≡ one_ℚ
  pub quotient_product : (x y : ℚ) → y ≢ zero_ℚ → x /ℚ y *ℚ y ≡ x
  pub product_quotient : (x y : ℚ) → y ≢ zero_ℚ → x *ℚ y /ℚ y ≡ x
  pub reciprocal_product : (x y : ℚ) → x ≢ zero_ℚ → y ≢ zero_ℚ → reciprocal (x *ℚ y) ≡ reciprocal x *ℚ reciprocal y

-- a total order that goes with sums, and with products by what is not negative
pub record OrderLaws : Type 0 where
  pub total : IsTotalOrder cmp_ℚ
  pub reflexive : (x : ℚ) → x ≤ℚ x
  pub antisymmetric : (x y : ℚ) → x ≤ℚ y → y ≤ℚ x → x ≡ y
  pub transitive : (x y z : ℚ) → x ≤ℚ y → y ≤ℚ z → x ≤ℚ z
  pub strict : (x y : ℚ) → (x <ℚ y) ↔ ((x ≤ℚ y) × (x ≢ y))
  pub sum : (x y z : ℚ) → x ≤ℚ y → (x +ℚ z) ≤ℚ (y +ℚ z)
  pub sums : (x y z w : ℚ) → x ≤ℚ y → z ≤ℚ w → (x +ℚ z) ≤ℚ (y +ℚ w)
  pub negation : (x y : ℚ) → x ≤ℚ y → neg_ℚ y ≤ℚ neg_ℚ x
  pub product : (x y z : ℚ) → zero_ℚ ≤ℚ z → x ≤ℚ y → (x *ℚ z) ≤ℚ (y *ℚ z)
  pub product_strict : (x y z : ℚ) → zero_ℚ <ℚ z → x <ℚ y → (x *ℚ z) <ℚ (y *ℚ z)
  pub reciprocal : (x : ℚ) → zero_ℚ <ℚ x → zero_ℚ <ℚ reciprocal x

-- the size: of products, of sums, and where it is 0
pub record SizeLaws : Type 0 where
  pub positive : (x : ℚ) → zero_ℚ ≤ℚ x → abs_ℚ x ≡ x
  pub negation : (x : ℚ) → abs_ℚ (neg_ℚ x) ≡ abs_ℚ x
  pub product : (x y : ℚ) → abs_ℚ (x *ℚ y) ≡ abs_ℚ x *ℚ abs_ℚ y
  pub sum : (x y : ℚ) → abs_ℚ (x +ℚ y) ≤ℚ (abs_ℚ x +ℚ abs_ℚ y)
  pub not_negative : (x : ℚ) → zero_ℚ ≤ℚ abs_ℚ x
  pub zero : (x : ℚ) → abs_ℚ x ≡ zero_ℚ → x ≡ zero_ℚ
  pub above : (x : ℚ) → x ≤ℚ abs_ℚ x

-- sums, products and the order of whole numbers are theirs as rational numbers
pub record WholeLaws : Type 0 where
  pub sum : (n m : ℤ) → whole (n +ℤ m) ≡ whole n +ℚ whole m
  pub product : (n m : ℤ) → whole (n *ℤ m) ≡ whole n *ℚ whole m
  pub negation : (n : ℤ) → whole (neg_ℤ n) ≡ neg_ℚ (whole n)
  pub order : (n m : ℤ) → n ≤ℤ m → whole n ≤ℚ whole m
