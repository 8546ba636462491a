-- The rational numbers are a field: sums, products and reciprocals, and the ring in which `identity` calculates.
use Rattle.std.proofs.Common.{◌≡◌, ℕ, zero, suc, ◌*◌, ◌<◌, refl, sym, ◌∙◌, ap, ap₂, arith, ℤ, pos, negsuc, [], ◌∷◌}
use Rattle.std.specs.Prelude.{◌+ℤ◌, ◌*ℤ◌, neg_ℤ, ◌≢◌}
use native.Mathlib.Nat.{mul-pos}
use Rattle.frac128.specs.IntLaws.{cancel_ℤ, ring_ℤ}
use Rattle.exact_algebra.specs.Ring.{CommutativeRing, ring_of}
use Rattle.exact_algebra.specs.Solver.{identity}
use Rattle.exact_algebra.specs.Solver.Term.{var, single, nought, ◌⊕◌, ◌⊗◌, opposite}
use Rattle.frac128.specs.Rational.{ℚ, ratio, ratio-cross, ratio_self, ratio-same, ratio_unique, same_by_cross, whole, zero_ℚ, one_ℚ, ◌+ℚ◌, ◌*ℚ◌, neg_ℚ, ◌-ℚ◌, reciprocal, turned, ◌/ℚ◌}

product-positive : (d e : ℕ) → 0 < d → 0 < e → 0 < d * e
product-positive d e p q = mul-pos p q

dens : (x y : ℚ) → 0 < x.den * y.den
dens x y = product-positive x.den y.den x.lowest.positive y.lowest.positive

-- ---- sums and products of any two ratios
pub add-ratio : (n m : ℤ) (d e : ℕ) → 0 < d → 0 < e → ratio n d +ℚ ratio m e ≡ ratio (n *ℤ pos e +ℤ m *ℤ pos d) (d * e)
unfolding ◌+ℚ◌
add-ratio n m d e p q =
    let x = ratio n d in
    let y = ratio m e in
    ratio-same (x.num *ℤ pos y.den +ℤ y.num *ℤ pos x.den) (n *ℤ pos e +ℤ m *ℤ pos d) (x.den * y.den) (d * e) (dens x y) (product-positive d e p q)
    (identity ring_ℤ (x.num ∷ pos x.den ∷ y.num ∷ pos y.den ∷ pos d ∷ pos e ∷ [])
    ((var 0 ⊗ var 3 ⊕ var 2 ⊗ var 1) ⊗ (var 4 ⊗ var 5))
    ((var 0 ⊗ var 4) ⊗ (var 3 ⊗ var 5) ⊕ (var 2 ⊗ var 5) ⊗ (var 1 ⊗ var 4)) refl
    ∙ ap (λ k. k *ℤ (pos y.den *ℤ pos e) +ℤ (y.num *ℤ pos e) *ℤ (pos x.den *ℤ pos d)) (ratio-cross n d p)
    ∙ ap (λ k. (n *ℤ pos x.den) *ℤ (pos y.den *ℤ pos e) +ℤ k *ℤ (pos x.den *ℤ pos d)) (ratio-cross m e q)
    ∙ identity ring_ℤ (n ∷ pos x.den ∷ m ∷ pos y.den ∷ pos d ∷ pos e ∷ [])
    ((var 0 ⊗ var 1) ⊗ (var 3 ⊗ var 5) ⊕ (var 2 ⊗ var 3) ⊗ (var 1 ⊗ var 4))
    ((var 0 ⊗ var 5 ⊕ var 2 ⊗ var 4) ⊗ (var 1 ⊗ var 3)) refl)

pub mul-ratio : (n m : ℤ) (d e : ℕ) → 0 < d → 0 < e → ratio n d *ℚ ratio m e ≡ ratio (n *ℤ m) (d * e)
unfolding ◌*ℚ◌
mul-ratio n m d e p q =
    let x = ratio n d in
    let y = ratio m e in
    ratio-same (x.num *ℤ y.num) (n *ℤ m) (x.den * y.den) (d * e) (dens x y) (product-positive d e p q)
    (identity ring_ℤ (x.num ∷ y.num ∷ pos d ∷ pos e ∷ []) ((var 0 ⊗ var 1) ⊗ (var 2 ⊗ var 3)) ((var 0 ⊗ var 2) ⊗ (var 1 ⊗ var 3)) refl
    ∙ ap (λ k. k *ℤ (y.num *ℤ pos e)) (ratio-cross n d p)
    ∙ ap (λ k. (n *ℤ pos x.den) *ℤ k) (ratio-cross m e q)
    ∙ identity ring_ℤ (n ∷ m ∷ pos x.den ∷ pos y.den ∷ []) ((var 0 ⊗ var 2) ⊗ (var 1 ⊗ var 3)) ((var 0 ⊗ var 1) ⊗ (var 2 ⊗ var 3)) refl)

pub neg-ratio : (n : ℤ) (d : ℕ) → 0 < d → neg_ℚ (ratio n d) ≡ ratio (neg_ℤ n) d
unfolding neg_ℚ
neg-ratio n d p =
    let x = ratio n d in
    ratio-same (neg_ℤ x.num) (neg_ℤ n) x.den d x.lowest.positive p
    (identity ring_ℤ (x.num ∷ pos d ∷ []) (opposite (var 0) ⊗ var 1) (opposite (var 0 ⊗ var 1)) refl
    ∙ ap neg_ℤ (ratio-cross n d p)
    ∙ identity ring_ℤ (n ∷ pos x.den ∷ []) (opposite (var 0 ⊗ var 1)) (opposite (var 0) ⊗ var 1) refl)

-- the same with one rational number as it is
add_right : (n : ℤ) (d : ℕ) (x : ℚ) → 0 < d → ratio n d +ℚ x ≡ ratio (n *ℤ pos x.den +ℤ x.num *ℤ pos d) (d * x.den)
add_right n d x p = ap (λ k. ratio n d +ℚ k) (sym (ratio_self x)) ∙ add-ratio n x.num d x.den p x.lowest.positive

add_left : (x : ℚ) (n : ℤ) (d : ℕ) → 0 < d → x +ℚ ratio n d ≡ ratio (x.num *ℤ pos d +ℤ n *ℤ pos x.den) (x.den * d)
add_left x n d p = ap (λ k. k +ℚ ratio n d) (sym (ratio_self x)) ∙ add-ratio x.num n x.den d x.lowest.positive p

mul_right : (n : ℤ) (d : ℕ) (x : ℚ) → 0 < d → ratio n d *ℚ x ≡ ratio (n *ℤ x.num) (d * x.den)
mul_right n d x p = ap (λ k. ratio n d *ℚ k) (sym (ratio_self x)) ∙ mul-ratio n x.num d x.den p x.lowest.positive

mul_left : (x : ℚ) (n : ℤ) (d : ℕ) → 0 < d → x *ℚ ratio n d ≡ ratio (x.num *ℤ n) (x.den * d)
mul_left x n d p = ap (λ k. k *ℚ ratio n d) (sym (ratio_self x)) ∙ mul-ratio x.num n x.den d x.lowest.positive p

pub whole-ratio : (n : ℤ) → whole n ≡ ratio n 1
whole-ratio n = sym (ratio_self (whole n))

-- ---- a commutative ring
pub +ℚ_comm : (x y : ℚ) → x +ℚ y ≡ y +ℚ x
unfolding ◌+ℚ◌
+ℚ_comm x y = ratio-same _ _ (x.den * y.den) (y.den * x.den) (dens x y) (dens y x)
    (identity ring_ℤ (x.num ∷ pos x.den ∷ y.num ∷ pos y.den ∷ [])
    ((var 0 ⊗ var 3 ⊕ var 2 ⊗ var 1) ⊗ (var 3 ⊗ var 1)) ((var 2 ⊗ var 1 ⊕ var 0 ⊗ var 3) ⊗ (var 1 ⊗ var 3)) refl)

pub +ℚ_assoc : (x y z : ℚ) → (x +ℚ y) +ℚ z ≡ x +ℚ (y +ℚ z)
unfolding ◌+ℚ◌
+ℚ_assoc x y z =
    add_right (x.num *ℤ pos y.den +ℤ y.num *ℤ pos x.den) (x.den * y.den) z (dens x y)
    ∙ ratio-same _ _ (x.den * y.den * z.den) (x.den * (y.den * z.den)) (product-positive _ z.den (dens x y) z.lowest.positive) (product-positive x.den _ x.lowest.positive (dens y z))
    (identity ring_ℤ (x.num ∷ pos x.den ∷ y.num ∷ pos y.den ∷ z.num ∷ pos z.den ∷ [])
    (((var 0 ⊗ var 3 ⊕ var 2 ⊗ var 1) ⊗ var 5 ⊕ var 4 ⊗ (var 1 ⊗ var 3)) ⊗ (var 1 ⊗ (var 3 ⊗ var 5)))
    ((var 0 ⊗ (var 3 ⊗ var 5) ⊕ (var 2 ⊗ var 5 ⊕ var 4 ⊗ var 3) ⊗ var 1) ⊗ ((var 1 ⊗ var 3) ⊗ var 5)) refl)
    ∙ sym (add_left x (y.num *ℤ pos z.den +ℤ z.num *ℤ pos y.den) (y.den * z.den) (dens y z))

pub zero-+ℚ : (x : ℚ) → zero_ℚ +ℚ x ≡ x
unfolding ◌+ℚ◌
zero-+ℚ x = sym (ratio_unique x _ (1 * x.den) (dens zero_ℚ x)
    (identity ring_ℤ (x.num ∷ pos x.den ∷ []) (var 0 ⊗ (single ⊗ var 1)) ((nought ⊗ var 1 ⊕ var 0 ⊗ single) ⊗ var 1) refl))

pub +ℚ-zero : (x : ℚ) → x +ℚ zero_ℚ ≡ x
+ℚ-zero x = +ℚ_comm x zero_ℚ ∙ zero-+ℚ x

pub +ℚ-neg : (x : ℚ) → x +ℚ neg_ℚ x ≡ zero_ℚ
unfolding neg_ℚ
+ℚ-neg x =
    add_left x (neg_ℤ x.num) x.den x.lowest.positive
    ∙ sym (ratio_unique zero_ℚ _ (x.den * x.den) (dens x x)
    (identity ring_ℤ (x.num ∷ pos x.den ∷ []) (nought ⊗ (var 1 ⊗ var 1)) ((var 0 ⊗ var 1 ⊕ opposite (var 0) ⊗ var 1) ⊗ single) refl))

pub *ℚ_comm : (x y : ℚ) → x *ℚ y ≡ y *ℚ x
unfolding ◌*ℚ◌
*ℚ_comm x y = ratio-same _ _ (x.den * y.den) (y.den * x.den) (dens x y) (dens y x)
    (identity ring_ℤ (x.num ∷ pos x.den ∷ y.num ∷ pos y.den ∷ []) ((var 0 ⊗ var 2) ⊗ (var 3 ⊗ var 1)) ((var 2 ⊗ var 0) ⊗ (var 1 ⊗ var 3)) refl)

pub *ℚ_assoc : (x y z : ℚ) → (x *ℚ y) *ℚ z ≡ x *ℚ (y *ℚ z)
unfolding ◌*ℚ◌
*ℚ_assoc x y z =
    mul_right (x.num *ℤ y.num) (x.den * y.den) z (dens x y)
    ∙ ratio-same _ _ (x.den * y.den * z.den) (x.den * (y.den * z.den)) (product-positive _ z.den (dens x y) z.lowest.positive) (product-positive x.den _ x.lowest.positive (dens y z))
    (identity ring_ℤ (x.num ∷ pos x.den ∷ y.num ∷ pos y.den ∷ z.num ∷ pos z.den ∷ [])
    (((var 0 ⊗ var 2) ⊗ var 4) ⊗ (var 1 ⊗ (var 3 ⊗ var 5))) ((var 0 ⊗ (var 2 ⊗ var 4)) ⊗ ((var 1 ⊗ var 3) ⊗ var 5)) refl)
    ∙ sym (mul_left x (y.num *ℤ z.num) (y.den * z.den) (dens y z))

pub one-*ℚ : (x : ℚ) → one_ℚ *ℚ x ≡ x
unfolding ◌*ℚ◌
one-*ℚ x = sym (ratio_unique x _ (1 * x.den) (dens one_ℚ x)
    (identity ring_ℤ (x.num ∷ pos x.den ∷ []) (var 0 ⊗ (single ⊗ var 1)) ((single ⊗ var 0) ⊗ var 1) refl))

pub *ℚ-one : (x : ℚ) → x *ℚ one_ℚ ≡ x
*ℚ-one x = *ℚ_comm x one_ℚ ∙ one-*ℚ x

pub *ℚ-+ℚ : (x y z : ℚ) → x *ℚ (y +ℚ z) ≡ x *ℚ y +ℚ x *ℚ z
unfolding ◌*ℚ◌ ◌+ℚ◌
*ℚ-+ℚ x y z =
    mul_left x (y.num *ℤ pos z.den +ℤ z.num *ℤ pos y.den) (y.den * z.den) (dens y z)
    ∙ ratio-same _ _ (x.den * (y.den * z.den)) (x.den * y.den * (x.den * z.den)) (product-positive x.den _ x.lowest.positive (dens y z)) (product-positive _ _ (dens x y) (dens x z))
    (identity ring_ℤ (x.num ∷ pos x.den ∷ y.num ∷ pos y.den ∷ z.num ∷ pos z.den ∷ [])
    ((var 0 ⊗ (var 2 ⊗ var 5 ⊕ var 4 ⊗ var 3)) ⊗ ((var 1 ⊗ var 3) ⊗ (var 1 ⊗ var 5)))
    (((var 0 ⊗ var 2) ⊗ (var 1 ⊗ var 5) ⊕ (var 0 ⊗ var 4) ⊗ (var 1 ⊗ var 3)) ⊗ (var 1 ⊗ (var 3 ⊗ var 5))) refl)
    ∙ sym (add-ratio (x.num *ℤ y.num) (x.num *ℤ z.num) (x.den * y.den) (x.den * z.den) (dens x y) (dens x z))

-- identities of rational numbers, by computation: `identity ring_ℚ (x ∷ y ∷ []) left right refl`, as in the lemmas that follow
abbrev pub ring_ℚ : CommutativeRing
ring_ℚ = ring_of (record {
  carrier = ℚ;
  add = ◌+ℚ◌;
  mul = ◌*ℚ◌;
  neg = neg_ℚ;
  zero = zero_ℚ;
  one = one_ℚ;
  add_assoc = +ℚ_assoc;
  add_comm = +ℚ_comm;
  zero_add = zero-+ℚ;
  add_neg = +ℚ-neg;
  mul_assoc = *ℚ_assoc;
  mul_comm = *ℚ_comm;
  one_mul = one-*ℚ;
  mul_add = *ℚ-+ℚ;
})

pub +ℚ-*ℚ : (x y z : ℚ) → (x +ℚ y) *ℚ z ≡ x *ℚ z +ℚ y *ℚ z
+ℚ-*ℚ x y z = identity ring_ℚ (x ∷ y ∷ z ∷ []) ((var 0 ⊕ var 1) ⊗ var 2) (var 0 ⊗ var 2 ⊕ var 1 ⊗ var 2) refl

pub zero-*ℚ : (x : ℚ) → zero_ℚ *ℚ x ≡ zero_ℚ
zero-*ℚ x = identity ring_ℚ (x ∷ []) (nought ⊗ var 0) nought refl

pub *ℚ-zero : (x : ℚ) → x *ℚ zero_ℚ ≡ zero_ℚ
*ℚ-zero x = identity ring_ℚ (x ∷ []) (var 0 ⊗ nought) nought refl

pub neg_ℚ-neg_ℚ : (x : ℚ) → neg_ℚ (neg_ℚ x) ≡ x
neg_ℚ-neg_ℚ x = identity ring_ℚ (x ∷ []) (opposite (opposite (var 0))) (var 0) refl

pub neg_ℚ-+ℚ : (x y : ℚ) → neg_ℚ (x +ℚ y) ≡ neg_ℚ x +ℚ neg_ℚ y
neg_ℚ-+ℚ x y = identity ring_ℚ (x ∷ y ∷ []) (opposite (var 0 ⊕ var 1)) (opposite (var 0) ⊕ opposite (var 1)) refl

pub neg_ℚ-*ℚ : (x y : ℚ) → neg_ℚ x *ℚ y ≡ neg_ℚ (x *ℚ y)
neg_ℚ-*ℚ x y = identity ring_ℚ (x ∷ y ∷ []) (opposite (var 0) ⊗ var 1) (opposite (var 0 ⊗ var 1)) refl

pub -ℚ-+ℚ_cancel : (x y : ℚ) → x -ℚ y +ℚ y ≡ x
-ℚ-+ℚ_cancel x y = identity ring_ℚ (x ∷ y ∷ []) (var 0 ⊕ opposite (var 1) ⊕ var 1) (var 0) refl

-- equal where the difference is 0
pub same_from_difference : (x y : ℚ) → x -ℚ y ≡ zero_ℚ → x ≡ y
same_from_difference x y e =
    identity ring_ℚ (x ∷ y ∷ []) (var 0) ((var 0 ⊕ opposite (var 1)) ⊕ var 1) refl ∙ ap (λ k. k +ℚ y) e ∙ zero-+ℚ y

-- ---- a field
turned-times : (x : ℚ) (n : ℤ) (d : ℕ) → x.num ≡ n → x.den ≡ d → n ≢ pos 0 → x *ℚ turned n d ≡ one_ℚ
turned-times x (pos zero) d e f h = absurd (h refl)
turned-times x (pos (suc n)) d e f h =
    mul_left x (pos d) (suc n) (omega arith)
    ∙ sym (ratio_unique one_ℚ (x.num *ℤ pos d) (x.den * suc n) (product-positive x.den (suc n) x.lowest.positive (omega arith))
    (identity ring_ℤ (pos x.den ∷ pos (suc n) ∷ []) (single ⊗ (var 0 ⊗ var 1)) ((var 1 ⊗ var 0) ⊗ single) refl
    ∙ ap (λ k. (k *ℤ pos x.den) *ℤ pos 1) (sym e) ∙ ap (λ k. (x.num *ℤ pos k) *ℤ pos 1) f))
turned-times x (negsuc n) d e f h =
    mul_left x (neg_ℤ (pos d)) (suc n) (omega arith)
    ∙ sym (ratio_unique one_ℚ (x.num *ℤ neg_ℤ (pos d)) (x.den * suc n) (product-positive x.den (suc n) x.lowest.positive (omega arith))
    (identity ring_ℤ (pos x.den ∷ pos (suc n) ∷ []) (single ⊗ (var 0 ⊗ var 1)) ((opposite (var 1) ⊗ opposite (var 0)) ⊗ single) refl
    ∙ ap (λ k. (k *ℤ neg_ℤ (pos x.den)) *ℤ pos 1) (sym e) ∙ ap (λ k. (x.num *ℤ neg_ℤ (pos k)) *ℤ pos 1) f))

pub zero_num : (x : ℚ) → x.num ≡ pos 0 → x ≡ zero_ℚ
zero_num x e = same_by_cross x zero_ℚ (ap (λ k. k *ℤ pos 1) e ∙ identity ring_ℤ (pos x.den ∷ []) (nought ⊗ single) (nought ⊗ var 0) refl)

pub *ℚ-reciprocal : (x : ℚ) → x ≢ zero_ℚ → x *ℚ reciprocal x ≡ one_ℚ
unfolding reciprocal
*ℚ-reciprocal x h = turned-times x x.num x.den refl refl (λ e. h (zero_num x e))

pub /ℚ-*ℚ_cancel : (x y : ℚ) → y ≢ zero_ℚ → x /ℚ y *ℚ y ≡ x
/ℚ-*ℚ_cancel x y h =
    identity ring_ℚ (x ∷ y ∷ reciprocal y ∷ []) ((var 0 ⊗ var 2) ⊗ var 1) (var 0 ⊗ (var 1 ⊗ var 2)) refl ∙ ap (λ k. x *ℚ k) (*ℚ-reciprocal y h) ∙ *ℚ-one x

pub *ℚ-/ℚ_cancel : (x y : ℚ) → y ≢ zero_ℚ → x *ℚ y /ℚ y ≡ x
*ℚ-/ℚ_cancel x y h =
    identity ring_ℚ (x ∷ y ∷ reciprocal y ∷ []) ((var 0 ⊗ var 1) ⊗ var 2) (var 0 ⊗ (var 1 ⊗ var 2)) refl ∙ ap (λ k. x *ℚ k) (*ℚ-reciprocal y h) ∙ *ℚ-one x

-- the same factor other than 0 on both sides
pub cancel_ℚ : (x y z : ℚ) → z ≢ zero_ℚ → x *ℚ z ≡ y *ℚ z → x ≡ y
cancel_ℚ x y z h e = sym (*ℚ-/ℚ_cancel x z h) ∙ ap (λ k. k /ℚ z) e ∙ *ℚ-/ℚ_cancel y z h

-- a product of numbers other than 0 is not 0
pub product-zero : (x y : ℚ) → y ≢ zero_ℚ → x *ℚ y ≡ zero_ℚ → x ≡ zero_ℚ
product-zero x y h e = cancel_ℚ x zero_ℚ y h (e ∙ sym (zero-*ℚ y))

-- the reciprocal of a product
pub reciprocal-*ℚ : (x y : ℚ) → x ≢ zero_ℚ → y ≢ zero_ℚ → reciprocal (x *ℚ y) ≡ reciprocal x *ℚ reciprocal y
reciprocal-*ℚ x y h k =
    let p : x *ℚ y ≢ zero_ℚ = λ e. h (product-zero x y k e) in
    cancel_ℚ (reciprocal (x *ℚ y)) (reciprocal x *ℚ reciprocal y) (x *ℚ y) p
    (*ℚ_comm (reciprocal (x *ℚ y)) (x *ℚ y) ∙ *ℚ-reciprocal (x *ℚ y) p
    ∙ sym (identity ring_ℚ (x ∷ y ∷ reciprocal x ∷ reciprocal y ∷ []) ((var 2 ⊗ var 3) ⊗ (var 0 ⊗ var 1)) ((var 0 ⊗ var 2) ⊗ (var 1 ⊗ var 3)) refl
    ∙ ap₂ ◌*ℚ◌ (*ℚ-reciprocal x h) (*ℚ-reciprocal y k) ∙ one-*ℚ one_ℚ))

-- equal ratios have equal cross products
pub cross_of_same : (n m : ℤ) (d e : ℕ) → 0 < d → 0 < e → ratio n d ≡ ratio m e → n *ℤ pos e ≡ m *ℤ pos d
cross_of_same n m d e p q h =
    let x = ratio n d in
    let first : x.num *ℤ pos d ≡ n *ℤ pos x.den = ratio-cross n d p in
    let second : x.num *ℤ pos e ≡ m *ℤ pos x.den = ap (λ w. w.num *ℤ pos e) h ∙ ratio-cross m e q ∙ ap (λ w. m *ℤ pos w.den) (sym h) in
    cancel_ℤ (n *ℤ pos e) (m *ℤ pos d) x.den x.lowest.positive
    (identity ring_ℤ (n ∷ pos e ∷ pos x.den ∷ []) (var 0 ⊗ var 1 ⊗ var 2) (var 0 ⊗ var 2 ⊗ var 1) refl
    ∙ ap (λ k. k *ℤ pos e) (sym first)
    ∙ identity ring_ℤ (x.num ∷ pos d ∷ pos e ∷ []) (var 0 ⊗ var 1 ⊗ var 2) (var 0 ⊗ var 2 ⊗ var 1) refl
    ∙ ap (λ k. k *ℤ pos d) second
    ∙ identity ring_ℤ (m ∷ pos x.den ∷ pos d ∷ []) (var 0 ⊗ var 1 ⊗ var 2) (var 0 ⊗ var 2 ⊗ var 1) refl)
