-- Multiples of a unit fraction that are bounded in size: their sums and products, of which none is refused, and Casimirs as such.
use Rattle.std.proofs.Common.{◌≡◌, ℕ, zero, suc, ◌+◌, ◌*◌, ◌-◌, ◌^◌, ◌<◌, ◌≤◌, ℤ, pos, refl, sym, subst, ap, ap₂, ◌∙◌, arith, [], ◌∷◌}
use Rattle.std.specs.Prelude.{◌+ℤ◌, ◌-ℤ◌, ◌*ℤ◌, unsigned_abs}
use Rattle.std.proofs.lemmas.Int.{ints, unsigned_abs-mul}
use native.Mathlib.Nat.{mul-le-mul}
use Rattle.exact_algebra.specs.Solver.{identity}
use Rattle.exact_algebra.specs.Solver.Term.{var, single, ◌⊕◌, ◌⊗◌}
use Rattle.frac128.specs.IntLaws.{ring_ℤ}
use Rattle.frac128.specs.Rational.{ℚ, ratio, ratio-same, whole, reciprocal, ◌+ℚ◌, ◌*ℚ◌, ◌/ℚ◌}
use Rattle.frac128.specs.RationalLaws.{add-ratio, mul-ratio, whole-ratio}
use Rattle.frac128.specs.Frac.{SumFits, IsSmall, IsOnGrid}
use Rattle.frac128.proofs.Grid.{shared_fits}
use Rattle.su_reps.specs.declared.rep.Rep.{Rep}
use Rattle.su_reps.specs.declared.rep.Rep.TheVariants.{Singlet, Fund, Conj, Adjoint, Sym2, Sym2Conj, Anti2, Anti2Conj}
use Rattle.su_reps.specs.Operators.{casimir, fraction}
use Rattle.model_core.specs.Plain.{IsPlainCharge}
use Rattle.gauge_two_loop.specs.Refused.{IsSquareSum, IsShare}
use Rattle.gauge_two_loop.proofs.Squares.{square_of, ratio_small, times}

-- the size of a sum
size_add : (a b : ℤ) → unsigned_abs (a +ℤ b) ≤ unsigned_abs a + unsigned_abs b
size_add a b = omega (arith, ints)

positive_product : (u v : ℕ) → 0 < u → 0 < v → 0 < u * v
positive_product u v h k =
    let most : 1 * 1 ≤ u * v = mul-le-mul h k in
    omega (arith, most)

-- ---- sums and products

pub weaker : (u a b : ℕ) (x : ℚ) → a ≤ b → IsShare u a x → IsShare u b x
weaker u a b x h on = record { multiple = on.multiple; is = on.is; small = omega (arith, on.small, h) }

pub share_plus : (u a b : ℕ) (x y : ℚ) → 0 < u → IsShare u a x → IsShare u b y → IsShare u (a + b) (x +ℚ y)
share_plus u a b x y positive on over =
    let m = on.multiple in
    let n = over.multiple in
    record {
      multiple = m +ℤ n;
      is =
          ap₂ ◌+ℚ◌ on.is over.is ∙ add-ratio m n u u positive positive
          ∙ ratio-same (m *ℤ pos u +ℤ n *ℤ pos u) (m +ℤ n) (u * u) u (positive_product u u positive positive) positive
          (identity ring_ℤ (m ∷ n ∷ pos u ∷ []) ((var 0 ⊗ var 2 ⊕ var 1 ⊗ var 2) ⊗ var 2) ((var 0 ⊕ var 1) ⊗ (var 2 ⊗ var 2)) refl);
      small = omega (arith, size_add m n, on.small, over.small);
    }

pub share_times : (u v a b : ℕ) (x y : ℚ) → 0 < u → 0 < v → IsShare u a x → IsShare v b y → IsShare (u * v) (a * b) (x *ℚ y)
share_times u v a b x y first second on over =
    let m = on.multiple in
    let n = over.multiple in
    record {
      multiple = m *ℤ n;
      is = ap₂ ◌*ℚ◌ on.is over.is ∙ mul-ratio m n u v first second;
      small = subst (λ k. k ≤ a * b) (sym (unsigned_abs-mul m n)) (mul-le-mul on.small over.small);
    }

-- the same on a finer grid
pub share_finer : (u v b : ℕ) (x : ℚ) → 0 < u → 0 < v → IsShare u b x → IsShare (u * v) (b * v) x
share_finer u v b x first second on =
    let m = on.multiple in
    let same : v ≤ v = omega arith in
    record {
      multiple = m *ℤ pos v;
      is = on.is ∙ ratio-same m (m *ℤ pos v) u (u * v) first (positive_product u v first second) (identity ring_ℤ (m ∷ pos u ∷ pos v ∷ []) (var 0 ⊗ (var 1 ⊗ var 2)) ((var 0 ⊗ var 2) ⊗ var 1) refl);
      small = subst (λ k. k ≤ b * v) (sym (unsigned_abs-mul m (pos v))) (mul-le-mul on.small same);
    }

pub share_ratio : (n : ℤ) (u : ℕ) → IsShare u (unsigned_abs n) (ratio n u)
share_ratio n u = record { multiple = n; is = refl; small = omega arith }

pub share_whole : (n u : ℕ) → 0 < u → IsShare u (n * u) (whole (pos n))
share_whole n u positive =
    record {
      multiple = pos (n * u);
      is = whole-ratio (pos n) ∙ ratio-same (pos n) (pos (n * u)) 1 u (omega arith) positive (ap pos (omega arith));
      small = omega arith;
    }

-- ---- what is not refused

on_grid : (u b : ℕ) (x : ℚ) → b ≤ 2 ^ 126 → IsShare u b x → IsOnGrid u x
on_grid u b x h on = record { multiple = on.multiple; is = on.is; small = omega (arith, on.small, h) }

pub sum_fits : (u a b : ℕ) (x y : ℚ) → 0 < u → u ≤ 2 ^ 126 → a + b ≤ 2 ^ 126 → IsShare u a x → IsShare u b y → SumFits x y
sum_fits u a b x y positive unit h on over =
    shared_fits u x y (record {
      positive = positive;
      bound = unit;
      first = on_grid u a x (omega (arith, h)) on;
      second = on_grid u b y (omega (arith, h)) over;
      third = on_grid u (a + b) (x +ℚ y) h (share_plus u a b x y positive on over);
    })

pub share_small : (u b : ℕ) (x : ℚ) → 0 < u → u < 2 ^ 127 → b < 2 ^ 127 → IsShare u b x → IsSmall x
share_small u b x positive unit h on =
    subst IsSmall (sym on.is) (ratio_small on.multiple u positive unit (omega (arith, on.small, h)))

-- ---- Casimirs

pub square_share : (b : ℕ) (x : ℚ) → IsSquareSum b x → IsShare 360 (b * 10) x
square_share b x on =
    share_finer 36 10 b x (omega arith) (omega arith) (record { multiple = pos on.multiple; is = on.is; small = on.small })

-- the square of a plain charge
pub charge_share : (q : ℚ) → IsPlainCharge q → IsShare 360 36000 (q *ℚ q)
charge_share q plain = square_share 3600 (q *ℚ q) (square_of q plain)

pub one_over : (d : ℕ) → reciprocal (whole (pos d)) ≡ ratio (pos 1) d
unfolding reciprocal
one_over d = refl

times_one : (n : ℕ) → n * 1 ≡ n
times_one n = omega arith

one_times : (n : ℕ) → 1 * n ≡ n
one_times n = omega arith

fraction_is : (a b : ℕ) → 0 < b → fraction a b ≡ ratio (pos a) b
fraction_is a b positive =
    ap₂ ◌*ℚ◌ (whole-ratio (pos a)) (one_over b) ∙ mul-ratio (pos a) (pos 1) 1 b (omega arith) positive
    ∙ ap₂ (λ n d. ratio (pos n) d) (times_one a) (one_times b)

-- a fraction whose denominator divides 360
over_360 : (a b k : ℕ) → 0 < b → 0 < k → b * k ≡ 360 → a * k ≤ 36000 → IsShare 360 36000 (fraction a b)
over_360 a b k first second e h =
    let finer : IsShare (b * k) (a * k) (fraction a b) = share_finer b k a (fraction a b) first second (subst (IsShare b a) (sym (fraction_is a b first)) (share_ratio (pos a) b)) in
    weaker 360 (a * k) 36000 (fraction a b) h (subst (λ u. IsShare u (a * k) (fraction a b)) e finer)

-- each n from 2 to 6
by_size : (P : ℕ → Type 0) → P 2 → P 3 → P 4 → P 5 → P 6 → (n : ℕ) → 2 ≤ n → n ≤ 6 → P n
by_size P two three four five six zero low high = absurd (omega arith)
by_size P two three four five six (suc zero) low high = absurd (omega arith)
by_size P two three four five six (suc (suc zero)) low high = two
by_size P two three four five six (suc (suc (suc zero))) low high = three
by_size P two three four five six (suc (suc (suc (suc zero)))) low high = four
by_size P two three four five six (suc (suc (suc (suc (suc zero))))) low high = five
by_size P two three four five six (suc (suc (suc (suc (suc (suc zero)))))) low high = six
by_size P two three four five six (suc (suc (suc (suc (suc (suc (suc n))))))) low high = absurd (omega arith)

fund_share : (n : ℕ) → 2 ≤ n → n ≤ 6 → IsShare 360 36000 (fraction (n * n - 1) (2 * n))
fund_share = by_size (λ n. IsShare 360 36000 (fraction (n * n - 1) (2 * n)))
    (over_360 3 4 90 (omega arith) (omega arith) refl (omega arith))
    (over_360 8 6 60 (omega arith) (omega arith) refl (omega arith))
    (over_360 15 8 45 (omega arith) (omega arith) refl (omega arith))
    (over_360 24 10 36 (omega arith) (omega arith) refl (omega arith))
    (over_360 35 12 30 (omega arith) (omega arith) refl (omega arith))

adjoint_share : (n : ℕ) → n ≤ 6 → IsShare 360 36000 (fraction n 1)
adjoint_share n high = over_360 n 1 360 (omega arith) (omega arith) refl (omega arith)

sym2_share : (n : ℕ) → 2 ≤ n → n ≤ 6 → IsShare 360 36000 (fraction ((n - 1) * (n + 2)) n)
sym2_share = by_size (λ n. IsShare 360 36000 (fraction ((n - 1) * (n + 2)) n))
    (over_360 4 2 180 (omega arith) (omega arith) refl (omega arith))
    (over_360 10 3 120 (omega arith) (omega arith) refl (omega arith))
    (over_360 18 4 90 (omega arith) (omega arith) refl (omega arith))
    (over_360 28 5 72 (omega arith) (omega arith) refl (omega arith))
    (over_360 40 6 60 (omega arith) (omega arith) refl (omega arith))

anti2_share : (n : ℕ) → 2 ≤ n → n ≤ 6 → IsShare 360 36000 (fraction ((n + 1) * (n - 2)) n)
anti2_share = by_size (λ n. IsShare 360 36000 (fraction ((n + 1) * (n - 2)) n))
    (over_360 0 2 180 (omega arith) (omega arith) refl (omega arith))
    (over_360 4 3 120 (omega arith) (omega arith) refl (omega arith))
    (over_360 10 4 90 (omega arith) (omega arith) refl (omega arith))
    (over_360 18 5 72 (omega arith) (omega arith) refl (omega arith))
    (over_360 28 6 60 (omega arith) (omega arith) refl (omega arith))

pub casimir_share : (rep : Rep) (n : ℕ) → 2 ≤ n → n ≤ 6 → IsShare 360 36000 (casimir rep n)
casimir_share Singlet n low high = over_360 0 1 360 (omega arith) (omega arith) refl (omega arith)
casimir_share Fund n low high = fund_share n low high
casimir_share Conj n low high = fund_share n low high
casimir_share Adjoint n low high = adjoint_share n high
casimir_share Sym2 n low high = sym2_share n low high
casimir_share Sym2Conj n low high = sym2_share n low high
casimir_share Anti2 n low high = anti2_share n low high
casimir_share Anti2Conj n low high = anti2_share n low high

-- ---- the steps of the code

pub twice_small : (copies size : ℕ) → copies ≤ 2 → size ≤ 10077696 → copies * size ≤ 2 * 10077696
twice_small copies size few small = mul-le-mul few small

-- the weight of a field under the U(1)
pub counted_square : (count : ℕ) (q : ℚ) → count ≤ 40310784 → IsPlainCharge q → IsShare 360 (2 ^ 60) (whole (pos count) *ℚ (q *ℚ q))
counted_square count q few plain =
    let square = times count 3600 (q *ℚ q) (square_of q plain) in
    weaker 360 (count * 3600 * 10) (2 ^ 60) (whole (pos count) *ℚ (q *ℚ q)) (omega (arith, few)) (square_share (count * 3600) _ square)

-- and under SU(n)
pub counted_index : (copies index : ℕ) → copies ≤ 2 → index ≤ 2 ^ 50 → IsShare 360 (2 ^ 60) (whole (pos (copies * index)))
counted_index copies index few small =
    let most : copies * index ≤ 2 * 2 ^ 50 = mul-le-mul few small in
    weaker 360 (copies * index * 360) (2 ^ 60) (whole (pos (copies * index))) (omega (arith, most)) (share_whole (copies * index) 360 (omega arith))

-- a product of a weight and a Casimir
pub product_share : (x y : ℚ) → IsShare 360 (2 ^ 60) x → IsShare 360 36000 y → IsShare 129600 (2 ^ 76) (x *ℚ y)
product_share x y on over =
    weaker 129600 (2 ^ 60 * 36000) (2 ^ 76) (x *ℚ y) (omega arith) (share_times 360 360 (2 ^ 60) 36000 x y (omega arith) (omega arith) on over)

difference_size : (a b : ℕ) → unsigned_abs (pos a -ℤ pos b) ≤ a + b
difference_size a b = omega (arith, ints)

-- a number of sixths
pub sixths_share : (n d e : ℕ) → n ≤ 6 → d ≤ 2 ^ 55 → e ≤ 2 ^ 55 → IsShare 129600 (2 ^ 91) (whole (pos (n * (10 * d + e)) -ℤ pos (68 * (n * n))) /ℚ whole (pos 6))
sixths_share n d e small first second =
    let sum : 10 * d + e ≤ 11 * 2 ^ 55 = omega arith in
    let most : n * (10 * d + e) ≤ 6 * (11 * 2 ^ 55) = mul-le-mul small sum in
    let square : n * n ≤ 6 * 6 = mul-le-mul small small in
    let z = pos (n * (10 * d + e)) -ℤ pos (68 * (n * n)) in
    let is : whole z /ℚ whole (pos 6) ≡ ratio z 6 = ap₂ ◌*ℚ◌ (whole-ratio z) (one_over 6) ∙ mul-ratio z (pos 1) 1 6 (omega arith) (omega arith) ∙ ap (λ k. ratio k 6) (integer_times_one z) in
    let size : unsigned_abs z ≤ 2 ^ 62 = omega (arith, difference_size (n * (10 * d + e)) (68 * (n * n)), most, square) in
    weaker 129600 (unsigned_abs z * 21600) (2 ^ 91) (whole z /ℚ whole (pos 6)) (omega (arith, size)) (share_finer 6 21600 (unsigned_abs z) (whole z /ℚ whole (pos 6)) (omega arith) (omega arith) (subst (IsShare 6 (unsigned_abs z)) (sym is) (share_ratio z 6)))
  where
    integer_times_one : (z : ℤ) → z *ℤ pos 1 ≡ z
    integer_times_one z = identity ring_ℤ (z ∷ []) (var 0 ⊗ single) (var 0) refl
