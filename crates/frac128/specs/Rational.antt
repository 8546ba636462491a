-- The rational numbers: pairs in lowest terms, and their sums and products.
use Rattle.std.proofs.Common.{◌≡◌, ℕ, zero, suc, ◌*◌, ◌/◌, ◌<◌, ◌≤◌, refl, sym, ◌∙◌, ap, subst, arith, ℤ, pos, negsuc, [], ◌∷◌}
use Rattle.std.specs.Prelude.{Bool, ◌==◌, ◌+ℤ◌, ◌*ℤ◌, ◌≤ℤ◌, ◌<ℤ◌, neg_ℤ, unsigned_abs, int_div}
use Rattle.std.specs.Ordering.{int_cmp, int_eq, on, eq_of_both}
use Rattle.std.specs.declared.cmp.Ordering.{Ordering}
use Rattle.std.specs.Coded.{Coded, code_by, coded×, coded_ℕ, coded_ℤ, le_prop}
use Rattle.std.proofs.lemmas.Int.{ints, unsigned_abs-mul}
use Rattle.std.proofs.lemmas.Nat.{le-div}
use native.Mathlib.Nat.{div-mul_cancel, mul_comm, pos_of_dvd_of_pos, le_of_dvd, dvd_antisymm, dvd-mul_left, eq-one_of_dvd-one}
use native.Mathlib.Nat.{ℕ_set}
use Prim.Native.Nat.{◌∣◌}
use Rattle.frac128.specs.Gcd.{gcd}
use Rattle.frac128.specs.GcdLaws.{gcd-divides_left, gcd-divides_right, gcd-quotients, coprime-divides, coprime_comm}
use Rattle.frac128.specs.IntLaws.{cancel_ℤ, ring_ℤ}
use Rattle.exact_algebra.specs.Solver.{identity}
use Rattle.exact_algebra.specs.Solver.Term.{var, ◌⊗◌, opposite}

-- num / den is in lowest terms, and den is at least 1
pub record IsLowest (num : ℤ) (den : ℕ) : Type 0 where
  pub positive : 0 < den
  pub coprime : gcd (unsigned_abs num) den ≡ 1

-- a rational number, as the only pair in lowest terms that stands for it
pub record ℚ : Type 0 where
  pub num : ℤ
  pub den : ℕ
  pub lowest : IsLowest num den

lowest_prop : (num : ℤ) (den : ℕ) → IsProp (IsLowest num den)
lowest_prop num den = hlevel (le_prop, ℕ_set)

-- two rational numbers with the same numbers are one
pub same_ℚ : (x y : ℚ) → x.num ≡ y.num → x.den ≡ y.den → x ≡ y
same_ℚ x y e f =
    let make : (n : ℤ) (d : ℕ) → IsLowest n d → ℚ = λ n d h. record { num = n; den = d; lowest = h } in
    subst (λ n. (h : IsLowest n y.den) → x ≡ make n y.den h) e
    (subst (λ d. (h : IsLowest x.num d) → x ≡ make x.num d h) f (λ h. ap (make x.num x.den) (lowest_prop x.num x.den x.lowest h)))
    y.lowest

abs-neg : (z : ℤ) → unsigned_abs (neg_ℤ z) ≡ unsigned_abs z
abs-neg z = omega (arith, ints)

pub divided_abs : (n : ℤ) (g : ℕ) → unsigned_abs (int_div n (pos g)) ≡ unsigned_abs n / g
divided_abs (pos n) g = refl
divided_abs (negsuc n) g = abs-neg (pos (suc n / g))

pub divided : (n : ℤ) (g : ℕ) → g ∣ unsigned_abs n → int_div n (pos g) *ℤ pos g ≡ n
divided (pos n) g h = ap pos (div-mul_cancel g h)
divided (negsuc n) g h =
    identity ring_ℤ (pos (suc n / g) ∷ pos g ∷ []) (opposite (var 0) ⊗ var 1) (opposite (var 0 ⊗ var 1)) refl
    ∙ ap (λ k. neg_ℤ (pos k)) (div-mul_cancel g h)

pub quotient-positive : (n g : ℕ) → 0 < n → g ∣ n → 0 < n / g
quotient-positive n g p h =
    let small : g ≤ n = le_of_dvd p h in
    le-div 1 n g (pos_of_dvd_of_pos h p) (omega arith)

-- n / d is in lowest terms after dividing by the greatest common divisor
pub reduced : (n : ℤ) (d : ℕ) → 0 < d → IsLowest (int_div n (pos (gcd (unsigned_abs n) d))) (d / gcd (unsigned_abs n) d)
reduced n d h = record {
  positive = quotient-positive d (gcd (unsigned_abs n) d) h (gcd-divides_right (unsigned_abs n) d);
  coprime = ap (λ k. gcd k (d / gcd (unsigned_abs n) d)) (divided_abs n (gcd (unsigned_abs n) d)) ∙ gcd-quotients (unsigned_abs n) d h;
}

pub whole_lowest : (n : ℤ) → IsLowest n 1
whole_lowest n = record { positive = omega arith; coprime = eq-one_of_dvd-one (gcd-divides_right (unsigned_abs n) 1) }

-- a whole number
abbrev pub whole : ℤ → ℚ
whole n = record { num = n; den = 1; lowest = whole_lowest n }

abbrev pub zero_ℚ : ℚ
zero_ℚ = whole (pos 0)

abbrev pub one_ℚ : ℚ
one_ℚ = whole (pos 1)

-- the rational number n / d, where d is not 0
unfoldable pub ratio : ℤ → ℕ → ℚ
ratio n zero = zero_ℚ
ratio n (suc k) = record { num = int_div n (pos (gcd (unsigned_abs n) (suc k))); den = suc k / gcd (unsigned_abs n) (suc k); lowest = reduced n (suc k) (omega arith) }

-- ---- the numbers of `ratio`, and when two ratios are one
pub ratio-parts : (n : ℤ) (d : ℕ) → 0 < d → ((ratio n d).num *ℤ pos (gcd (unsigned_abs n) d) ≡ n) × ((ratio n d).den * gcd (unsigned_abs n) d ≡ d)
unfolding ratio
ratio-parts n zero h = absurd (omega arith)
ratio-parts n (suc k) h = (divided n _ (gcd-divides_left (unsigned_abs n) (suc k)), div-mul_cancel _ (gcd-divides_right (unsigned_abs n) (suc k)))

pub ratio-cross : (n : ℤ) (d : ℕ) → 0 < d → (ratio n d).num *ℤ pos d ≡ n *ℤ pos (ratio n d).den
ratio-cross n d h =
    let q = ratio n d in
    let g = gcd (unsigned_abs n) d in
    let parts = ratio-parts n d h in
    ap (λ k. q.num *ℤ pos k) (sym parts.1) ∙ identity ring_ℤ (q.num ∷ pos q.den ∷ pos g ∷ []) (var 0 ⊗ (var 1 ⊗ var 2)) ((var 0 ⊗ var 2) ⊗ var 1) refl
    ∙ ap (λ k. k *ℤ pos q.den) parts.0

cross_divides : (x y : ℚ) → x.num *ℤ pos y.den ≡ y.num *ℤ pos x.den → x.den ∣ y.den
cross_divides x y e =
    let sizes : unsigned_abs x.num * y.den ≡ unsigned_abs y.num * x.den = sym (unsigned_abs-mul x.num (pos y.den)) ∙ ap unsigned_abs e ∙ unsigned_abs-mul y.num (pos x.den) in
    coprime-divides x.den (unsigned_abs x.num) y.den (coprime_comm _ _ x.lowest.coprime)
    (subst (λ k. x.den ∣ k) (sym sizes ∙ mul_comm (unsigned_abs x.num) y.den) (dvd-mul_left x.den (unsigned_abs y.num)))

-- rational numbers with equal cross products are one
pub same_by_cross : (x y : ℚ) → x.num *ℤ pos y.den ≡ y.num *ℤ pos x.den → x ≡ y
same_by_cross x y e =
    let dens : x.den ≡ y.den = dvd_antisymm (cross_divides x y e) (cross_divides y x (sym e)) in
    same_ℚ x y (cancel_ℤ x.num y.num y.den y.lowest.positive (e ∙ ap (λ k. y.num *ℤ pos k) dens)) dens

pub ratio_unique : (x : ℚ) (n : ℤ) (d : ℕ) → 0 < d → x.num *ℤ pos d ≡ n *ℤ pos x.den → x ≡ ratio n d
ratio_unique x n d h e =
    let q = ratio n d in
    same_by_cross x q (cancel_ℤ (x.num *ℤ pos q.den) (q.num *ℤ pos x.den) d h
    (identity ring_ℤ (x.num ∷ pos q.den ∷ pos d ∷ []) (var 0 ⊗ var 1 ⊗ var 2) (var 0 ⊗ var 2 ⊗ var 1) refl
    ∙ ap (λ k. k *ℤ pos q.den) e
    ∙ identity ring_ℤ (n ∷ pos x.den ∷ pos q.den ∷ []) (var 0 ⊗ var 1 ⊗ var 2) (var 0 ⊗ var 2 ⊗ var 1) refl
    ∙ ap (λ k. k *ℤ pos x.den) (sym (ratio-cross n d h))
    ∙ identity ring_ℤ (q.num ∷ pos d ∷ pos x.den ∷ []) (var 0 ⊗ var 1 ⊗ var 2) (var 0 ⊗ var 2 ⊗ var 1) refl))

pub ratio_self : (x : ℚ) → ratio x.num x.den ≡ x
ratio_self x = sym (ratio_unique x x.num x.den x.lowest.positive refl)

pub ratio-same : (n m : ℤ) (d e : ℕ) → 0 < d → 0 < e → n *ℤ pos e ≡ m *ℤ pos d → ratio n d ≡ ratio m e
ratio-same n m d e p q h =
    let x = ratio n d in
    ratio_unique x m e q (cancel_ℤ (x.num *ℤ pos e) (m *ℤ pos x.den) d p
    (identity ring_ℤ (x.num ∷ pos e ∷ pos d ∷ []) (var 0 ⊗ var 1 ⊗ var 2) (var 0 ⊗ var 2 ⊗ var 1) refl
    ∙ ap (λ k. k *ℤ pos e) (ratio-cross n d p)
    ∙ identity ring_ℤ (n ∷ pos x.den ∷ pos e ∷ []) (var 0 ⊗ var 1 ⊗ var 2) (var 0 ⊗ var 2 ⊗ var 1) refl
    ∙ ap (λ k. k *ℤ pos x.den) h
    ∙ identity ring_ℤ (m ∷ pos d ∷ pos x.den ∷ []) (var 0 ⊗ var 1 ⊗ var 2) (var 0 ⊗ var 2 ⊗ var 1) refl))

-- its code: as the pair of its numbers
abbrev pub code_ℚ : Coded ℚ
code_ℚ = code_by (ℤ × ℕ) (coded× coded_ℤ coded_ℕ) (λ x. (x.num, x.den)) (λ p. ratio p.0 p.1) ratio_self

-- ---- sums and products
infix 50 ◌≤ℚ◌ ◌<ℚ◌
infixl 6 ◌+ℚ◌ ◌-ℚ◌
infixl 7 ◌*ℚ◌ ◌/ℚ◌
unfoldable pub ◌+ℚ◌ : ℚ → ℚ → ℚ
x +ℚ y = ratio (x.num *ℤ pos y.den +ℤ y.num *ℤ pos x.den) (x.den * y.den)

unfoldable pub ◌*ℚ◌ : ℚ → ℚ → ℚ
x *ℚ y = ratio (x.num *ℤ y.num) (x.den * y.den)

unfoldable pub neg_ℚ : ℚ → ℚ
neg_ℚ x = ratio (neg_ℤ x.num) x.den

abbrev pub ◌-ℚ◌ : ℚ → ℚ → ℚ
x -ℚ y = x +ℚ neg_ℚ y

-- den / num, where num is not 0
abbrev pub turned : ℤ → ℕ → ℚ
turned (pos n) d = ratio (pos d) n
turned (negsuc n) d = ratio (neg_ℤ (pos d)) (suc n)

-- the size: the numerator's size over the denominator
unfoldable pub abs_ℚ : ℚ → ℚ
abs_ℚ x = ratio (pos (unsigned_abs x.num)) x.den

-- 1 / x, where x is not 0
unfoldable pub reciprocal : ℚ → ℚ
reciprocal x = turned x.num x.den

abbrev pub ◌/ℚ◌ : ℚ → ℚ → ℚ
x /ℚ y = x *ℚ reciprocal y

-- whether two rational numbers have the same numbers
abbrev pub eq_ℚ : ℚ → ℚ → Bool
eq_ℚ = eq_of_both (on (λ x. x.num) int_eq) (on (λ x. x.den) ◌==◌)

-- the order, by cross products
abbrev pub cmp_ℚ : ℚ → ℚ → Ordering
cmp_ℚ x y = int_cmp (x.num *ℤ pos y.den) (y.num *ℤ pos x.den)

abbrev pub ◌≤ℚ◌ : ℚ → ℚ → Type 0
x ≤ℚ y = (x.num *ℤ pos y.den) ≤ℤ (y.num *ℤ pos x.den)

abbrev pub ◌<ℚ◌ : ℚ → ℚ → Type 0
x <ℚ y = (x.num *ℤ pos y.den) <ℤ (y.num *ℤ pos x.den)
