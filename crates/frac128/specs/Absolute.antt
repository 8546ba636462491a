-- The size of a rational number: of products, of quotients and of sums.
use Rattle.std.proofs.Common.{◌≡◌, ℕ, ◌*◌, ◌<◌, refl, sym, ◌∙◌, ap, subst, arith, ℤ, pos, negsuc, []}
use Rattle.std.specs.Prelude.{◌*ℤ◌, ◌≤ℤ◌, ◌<ℤ◌, neg_ℤ, unsigned_abs, ◌⊎◌}
use Rattle.std.proofs.Common.{inl, inr}
use Rattle.std.proofs.lemmas.Int.{ints, unsigned_abs-mul}
use native.Mathlib.Nat.{mul-pos}
use Rattle.exact_algebra.specs.Solver.{identity}
use Rattle.exact_algebra.specs.Solver.Term.{nought, opposite}
use Rattle.frac128.specs.IntLaws.{zero_or}
use Rattle.frac128.specs.Rational.{ℚ, IsLowest, same_ℚ, ratio, ratio-cross, ratio_self, ratio-same, zero_ℚ, ◌+ℚ◌, ◌*ℚ◌, neg_ℚ, abs_ℚ, ◌≤ℚ◌}
use Rattle.frac128.specs.RationalLaws.{ring_ℚ, mul-ratio, neg_ℚ-+ℚ, zero_num}
use Rattle.frac128.specs.RationalOrder.{times_at_most, ≤ℚ-ratio, +ℚ-≤ℚ-both, neg_ℚ-≤ℚ}

-- the size of any ratio
pub abs-ratio : (n : ℤ) (d : ℕ) → 0 < d → abs_ℚ (ratio n d) ≡ ratio (pos (unsigned_abs n)) d
unfolding abs_ℚ
abs-ratio n d p =
    let x = ratio n d in
    let cross : unsigned_abs x.num * d ≡ unsigned_abs n * x.den = sym (unsigned_abs-mul x.num (pos d)) ∙ ap unsigned_abs (ratio-cross n d p) ∙ unsigned_abs-mul n (pos x.den) in
    ratio-same (pos (unsigned_abs x.num)) (pos (unsigned_abs n)) x.den d x.lowest.positive p (ap pos cross)

pub size_lowest : (n : ℤ) (d : ℕ) → IsLowest n d → IsLowest (pos (unsigned_abs n)) d
size_lowest n d h = record { positive = h.positive; coprime = h.coprime }

-- the size has the numerator's size and the same denominator
pub abs_ℚ_is : (x : ℚ) → abs_ℚ x ≡ record { num = pos (unsigned_abs x.num); den = x.den; lowest = size_lowest x.num x.den x.lowest }
unfolding abs_ℚ
abs_ℚ_is x = ratio_self (record { num = pos (unsigned_abs x.num); den = x.den; lowest = size_lowest x.num x.den x.lowest })

abs_ℚ-num : (x : ℚ) → (abs_ℚ x).num ≡ pos (unsigned_abs x.num)
abs_ℚ-num x = ap (λ y. y.num) (abs_ℚ_is x)

-- ---- what the size is
pub abs_ℚ_up : (x : ℚ) → zero_ℚ ≤ℚ x → abs_ℚ x ≡ x
abs_ℚ_up x h =
    let size : pos (unsigned_abs x.num) ≡ x.num = omega (arith, ints) in
    same_ℚ (abs_ℚ x) x (abs_ℚ-num x ∙ size) (ap (λ y. y.den) (abs_ℚ_is x))

pub abs_ℚ-neg : (x : ℚ) → abs_ℚ (neg_ℚ x) ≡ abs_ℚ x
unfolding abs_ℚ neg_ℚ
abs_ℚ-neg x =
    let size : unsigned_abs (neg_ℤ x.num) ≡ unsigned_abs x.num = omega (arith, ints) in
    abs-ratio (neg_ℤ x.num) x.den x.lowest.positive ∙ ap (λ n. ratio (pos n) x.den) size

pub ≤ℚ-abs : (x : ℚ) → x ≤ℚ abs_ℚ x
unfolding abs_ℚ
≤ℚ-abs x =
    let sizes : x.num ≤ℤ pos (unsigned_abs x.num) = omega (arith, ints) in
    subst (λ y. y ≤ℚ abs_ℚ x) (ratio_self x)
    (≤ℚ-ratio x.num (pos (unsigned_abs x.num)) x.den x.den x.lowest.positive x.lowest.positive (times_at_most x.num (pos (unsigned_abs x.num)) x.den sizes))

pub neg-≤ℚ-abs : (x : ℚ) → neg_ℚ x ≤ℚ abs_ℚ x
neg-≤ℚ-abs x = subst (λ s. neg_ℚ x ≤ℚ s) (abs_ℚ-neg x) (≤ℚ-abs (neg_ℚ x))

pub abs_ℚ_down : (x : ℚ) → x ≤ℚ zero_ℚ → abs_ℚ x ≡ neg_ℚ x
abs_ℚ_down x h =
    let none : neg_ℚ zero_ℚ ≡ zero_ℚ = identity ring_ℚ [] (opposite nought) nought refl in
    sym (abs_ℚ-neg x) ∙ abs_ℚ_up (neg_ℚ x) (subst (λ s. s ≤ℚ neg_ℚ x) none (neg_ℚ-≤ℚ x zero_ℚ h))

-- the same by the numerator's sign
pub absolute_up : (x : ℚ) → pos 0 ≤ℤ x.num → abs_ℚ x ≡ x
absolute_up x h = abs_ℚ_up x (omega (arith, ints))

pub absolute_down : (x : ℚ) → x.num <ℤ pos 0 → abs_ℚ x ≡ neg_ℚ x
absolute_down x h = abs_ℚ_down x (omega (arith, ints))

-- the size is the number or its negation
pub abs_ℚ-cases : (x : ℚ) → (abs_ℚ x ≡ x) ⊎ (abs_ℚ x ≡ neg_ℚ x)
abs_ℚ-cases x = by_sign x.num refl
  where
    by_sign : (n : ℤ) → x.num ≡ n → (abs_ℚ x ≡ x) ⊎ (abs_ℚ x ≡ neg_ℚ x)
    by_sign (pos n) e = inl (absolute_up x (omega (arith, ints, e)))
    by_sign (negsuc n) e = inr (absolute_down x (omega (arith, ints, e)))

-- ---- laws
pub abs_ℚ-≥ : (x : ℚ) → zero_ℚ ≤ℚ abs_ℚ x
abs_ℚ-≥ x = let top = abs_ℚ-num x in omega (arith, ints, top)

pub abs_ℚ-zero : (x : ℚ) → abs_ℚ x ≡ zero_ℚ → x ≡ zero_ℚ
abs_ℚ-zero x e =
    let none : unsigned_abs x.num ≡ 0 = ap unsigned_abs (sym (abs_ℚ-num x) ∙ ap (λ y. y.num) e) in
    zero_num x (zero_or x.num none)

pub abs_ℚ-*ℚ : (x y : ℚ) → abs_ℚ (x *ℚ y) ≡ abs_ℚ x *ℚ abs_ℚ y
unfolding ◌*ℚ◌ abs_ℚ
abs_ℚ-*ℚ x y =
    abs-ratio (x.num *ℤ y.num) (x.den * y.den) (mul-pos x.lowest.positive y.lowest.positive)
    ∙ ap (λ n. ratio (pos n) (x.den * y.den)) (unsigned_abs-mul x.num y.num)
    ∙ sym (mul-ratio (pos (unsigned_abs x.num)) (pos (unsigned_abs y.num)) x.den y.den x.lowest.positive y.lowest.positive)

-- the triangle law
pub abs_ℚ-+ℚ : (x y : ℚ) → abs_ℚ (x +ℚ y) ≤ℚ (abs_ℚ x +ℚ abs_ℚ y)
abs_ℚ-+ℚ x y = by_sign (abs_ℚ-cases (x +ℚ y))
  where
    by_sign : (abs_ℚ (x +ℚ y) ≡ x +ℚ y) ⊎ (abs_ℚ (x +ℚ y) ≡ neg_ℚ (x +ℚ y)) → abs_ℚ (x +ℚ y) ≤ℚ (abs_ℚ x +ℚ abs_ℚ y)
    by_sign (inl e) = subst (λ s. s ≤ℚ (abs_ℚ x +ℚ abs_ℚ y)) (sym e) (+ℚ-≤ℚ-both x (abs_ℚ x) y (abs_ℚ y) (≤ℚ-abs x) (≤ℚ-abs y))
    by_sign (inr e) =
        subst (λ s. s ≤ℚ (abs_ℚ x +ℚ abs_ℚ y)) (sym (e ∙ neg_ℚ-+ℚ x y))
        (+ℚ-≤ℚ-both (neg_ℚ x) (abs_ℚ x) (neg_ℚ y) (abs_ℚ y) (neg-≤ℚ-abs x) (neg-≤ℚ-abs y))
