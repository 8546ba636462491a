-- Squares of charges that are multiples of 1/6, and their sums: small multiples of 1/36, of which no sum or product is refused.
use Rattle.std.proofs.Common.{◌≡◌, ℕ, zero, suc, ◌+◌, ◌*◌, ◌^◌, ◌<◌, ◌≤◌, ℤ, pos, negsuc, Bool, true, List, [], ◌∷◌, ◌++◌, take, length, get_or, Result, Ok, Err, refl, sym, subst, ap, ap₂, ◌∙◌, arith}
use Rattle.std.specs.Prelude.{◌+ℤ◌, ◌*ℤ◌, unsigned_abs, ◌&&◌, nat_le}
use Rattle.std.specs.Result.{OnErr}
use Rattle.std.specs.List.{All, list_all}
use Rattle.std.proofs.lemmas.Bool.Decides.{nat_tests}
use Rattle.std.proofs.lemmas.Grind.{take_at_read}
use Rattle.exact_algebra.specs.Sums.{sum-append, sum-one}
use Rattle.frac128.specs.RationalLaws.{ring_ℚ}
use Rattle.model_core.specs.declared.group.Group.{Group}
use Rattle.model_core.specs.declared.field.Field.{Field}
use Rattle.model_core.specs.Multiplet.{field_size, charge_square_sum}
use Rattle.model_core.proofs.ValidLaws.{both}
use Rattle.std.proofs.lemmas.Int.{unsigned_abs-mul}
use native.Mathlib.Nat.{mul-le-mul, le-mul_of_pos_right}
use Rattle.frac128.specs.Gcd.{gcd}
use Rattle.frac128.specs.Rational.{ℚ, ratio, ratio-parts, ratio-same, whole, reciprocal, ◌+ℚ◌, ◌*ℚ◌}
use Rattle.frac128.specs.RationalLaws.{add-ratio, mul-ratio, whole-ratio}
use Rattle.frac128.specs.Frac.{SumFits, IsSmall, IsOnGrid}
use Rattle.frac128.proofs.Grid.{shared_fits}
use Rattle.model_core.specs.Plain.{IsPlainCharge}
use Rattle.gauge_two_loop.specs.Refused.{IsSquareSum}

-- ---- ratios of small numbers

positive_factor : (a g d : ℕ) → a * g ≡ d → 0 < d → 0 < g
positive_factor a zero d e h = absurd (omega (arith, e, h))
positive_factor a (suc g) d e h = omega arith

pub ratio_small : (n : ℤ) (d : ℕ) → 0 < d → d < 2 ^ 127 → unsigned_abs n < 2 ^ 127 → IsSmall (ratio n d)
ratio_small n d positive d_small n_small =
    let x = ratio n d in
    let g = gcd (unsigned_abs n) d in
    let parts = ratio-parts n d positive in
    let factor : 0 < g = positive_factor x.den g d parts.1 positive in
    let size : unsigned_abs x.num * g ≡ unsigned_abs n = sym (unsigned_abs-mul x.num (pos g)) ∙ ap unsigned_abs parts.0 in
    record {
      num = omega (arith, size, le-mul_of_pos_right {m = g} (unsigned_abs x.num) factor, n_small);
      den = omega (arith, parts.1, le-mul_of_pos_right {m = g} x.den factor, d_small);
    }

-- ---- squares and their sums

square_size : (k : ℤ) → k *ℤ k ≡ pos (unsigned_abs k * unsigned_abs k)
square_size (pos n) = refl
square_size (negsuc n) = refl

-- the square of a plain charge
pub square_of : (q : ℚ) → IsPlainCharge q → IsSquareSum 3600 (q *ℚ q)
square_of q plain =
    let k = plain.sixths in
    record {
      multiple = unsigned_abs k * unsigned_abs k;
      is = ap₂ ◌*ℚ◌ plain.is plain.is ∙ mul-ratio k k 6 6 (omega arith) (omega arith) ∙ ap (λ n. ratio n 36) (square_size k);
      small = mul-le-mul plain.small plain.small;
    }

pub none : IsSquareSum 0 (whole (pos 0))
none = record { multiple = 0; is = whole-ratio (pos 0) ∙ ratio-same (pos 0) (pos 0) 1 36 (omega arith) (omega arith) refl; small = omega arith }

pub weaker : (a b : ℕ) (x : ℚ) → a ≤ b → IsSquareSum a x → IsSquareSum b x
weaker a b x h on = record { multiple = on.multiple; is = on.is; small = omega (arith, on.small, h) }

pub times : (w b : ℕ) (x : ℚ) → IsSquareSum b x → IsSquareSum (w * b) (whole (pos w) *ℚ x)
times w b x on =
    let same : w ≤ w = omega arith in
    record {
      multiple = w * on.multiple;
      is = ap₂ ◌*ℚ◌ (whole-ratio (pos w)) on.is ∙ mul-ratio (pos w) (pos on.multiple) 1 36 (omega arith) (omega arith);
      small = mul-le-mul same on.small;
    }

pub plus : (a b : ℕ) (x y : ℚ) → IsSquareSum a x → IsSquareSum b y → IsSquareSum (a + b) (x +ℚ y)
plus a b x y on over =
    let m = on.multiple in
    let n = over.multiple in
    let same : (m * 36 + n * 36) * 36 ≡ (m + n) * 1296 = omega arith in
    record {
      multiple = m + n;
      is =
          ap₂ ◌+ℚ◌ on.is over.is ∙ add-ratio (pos m) (pos n) 36 36 (omega arith) (omega arith)
          ∙ ratio-same (pos m *ℤ pos 36 +ℤ pos n *ℤ pos 36) (pos (m + n)) 1296 36 (omega arith) (omega arith) (ap pos same);
      small = omega (arith, on.small, over.small);
    }

-- ---- what is not refused

on_grid : (b : ℕ) (x : ℚ) → b ≤ 2 ^ 126 → IsSquareSum b x → IsOnGrid 36 x
on_grid b x h on = record { multiple = pos on.multiple; is = on.is; small = omega (arith, on.small, h) }

pub sum_fits : (a b : ℕ) (x y : ℚ) → a + b ≤ 2 ^ 126 → IsSquareSum a x → IsSquareSum b y → SumFits x y
sum_fits a b x y h on over =
    shared_fits 36 x y (record {
      positive = omega arith;
      bound = omega arith;
      first = on_grid a x (omega (arith, h)) on;
      second = on_grid b y (omega (arith, h)) over;
      third = on_grid (a + b) (x +ℚ y) h (plus a b x y on over);
    })

pub square_small : (b : ℕ) (x : ℚ) → b < 2 ^ 127 → IsSquareSum b x → IsSmall x
square_small b x h on = subst IsSmall (sym on.is) (ratio_small (pos on.multiple) 36 (omega arith) (omega arith) (omega (arith, on.small, h)))

sixth_is : reciprocal (whole (pos 6)) ≡ ratio (pos 1) 6
unfolding reciprocal
sixth_is = refl

one_times : (n : ℕ) → n * 1 ≡ n
one_times n = omega arith

-- a sixth of a sum
pub sixth_small : (b : ℕ) (x : ℚ) → b < 2 ^ 127 → IsSquareSum b x → IsSmall (x *ℚ reciprocal (whole (pos 6)))
sixth_small b x h on =
    let is : x *ℚ reciprocal (whole (pos 6)) ≡ ratio (pos on.multiple) 216 =
    ap₂ ◌*ℚ◌ on.is sixth_is ∙ mul-ratio (pos on.multiple) (pos 1) 36 6 (omega arith) (omega arith) ∙ ap (λ n. ratio (pos n) 216) (one_times on.multiple) in
    subst IsSmall (sym is) (ratio_small (pos on.multiple) 216 (omega arith) (omega arith) (omega (arith, on.small, h)))

-- ---- the steps of the code

pub on_err : {T E P : Type 0} (r : Result T E) → P → OnErr r P
on_err (Ok x) p = tt
on_err (Err e) p = p

-- the most that one field adds
pub one_field : (copies size : ℕ) (q : ℚ) → copies ≤ 2 → size ≤ 10077696 → IsPlainCharge q → IsSquareSum 72559411200 (whole (pos (copies * size)) *ℚ (q *ℚ q))
one_field copies size q few small plain =
    let most : copies * size ≤ 2 * 10077696 = mul-le-mul few small in
    weaker (copies * size * 3600) 72559411200 (whole (pos (copies * size)) *ℚ (q *ℚ q)) (omega (arith, most)) (times (copies * size) 3600 (q *ℚ q) (square_of q plain))

pub plain_at : (fields : List Field) (i : ℕ) (field : Field) → field ≡ get_or fields i field → i < length fields → All (λ f. IsPlainCharge f.charge) fields → IsPlainCharge field.charge
plain_at fields i field is within plain = subst (λ f. IsPlainCharge f.charge) (sym is) (plain i field within)

pub charge_square_sum-more : (copies : Field → ℕ) (groups : List Group) (fields : List Field) (i : ℕ) (field : Field) → field ≡ get_or fields i field → i < length fields
    → charge_square_sum copies groups (take (i + 1) fields) ≡ charge_square_sum copies groups (take i fields) +ℚ whole (pos (copies field * field_size groups field)) *ℚ (field.charge *ℚ field.charge)
charge_square_sum-more copies groups fields i field is within =
    let one = λ (f : Field). whole (pos (copies f * field_size groups f)) *ℚ (f.charge *ℚ f.charge) in
    ap (charge_square_sum copies groups) ((take_at_read fields i field within).1 ∙ ap (λ f. take i fields ++ f ∷ []) (sym is))
    ∙ sum-append ring_ℚ.semiring (take i fields) (field ∷ []) one
    ∙ ap (λ k. charge_square_sum copies groups (take i fields) +ℚ k) (sum-one ring_ℚ.semiring field one)

-- the sum after one field more
pub next_bound : (i : ℕ) (x : ℚ) → IsSquareSum (i * 72559411200 + 72559411200) x → IsSquareSum ((i + 1) * 72559411200) x
next_bound i x on = weaker (i * 72559411200 + 72559411200) ((i + 1) * 72559411200) x (omega arith) on

pub all_bound : (i : ℕ) (x : ℚ) → i ≤ 24 → IsSquareSum (i * 72559411200) x → IsSquareSum (2 ^ 50) x
all_bound i x few on = weaker (i * 72559411200) (2 ^ 50) x (omega (arith, few)) on

pub fields_few : (most : ℕ) (test : Field → Bool) (fields : List Field) → most ≤ 24 → (nat_le (length fields) most && list_all test fields) ≡ true → length fields ≤ 24
fields_few most test fields h valid =
    let first = (both (nat_le (length fields) most) (list_all test fields) valid).0 in
    grind (arith, nat_tests)
