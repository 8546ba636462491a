-- Charges and cubes of charges as multiples of 1/216 with a sign: small ones, of which no sum or multiple is refused.
use Rattle.std.proofs.Common.{◌≡◌, ℕ, zero, suc, ◌+◌, ◌*◌, ◌^◌, ◌<◌, ◌≤◌, ℤ, pos, Bool, true, List, [], ◌∷◌, ◌++◌, take, length, get_or, Result, Ok, Err, refl, sym, subst, ap, ap₂, ◌∙◌, arith}
use Rattle.std.specs.Prelude.{◌+ℤ◌, ◌*ℤ◌, unsigned_abs, ◌&&◌, nat_le}
use Rattle.std.specs.Result.{OnErr}
use Rattle.std.specs.List.{All, list_all}
use Rattle.std.proofs.lemmas.Bool.Decides.{nat_tests}
use Rattle.std.proofs.lemmas.Grind.{take_at_read}
use Rattle.std.proofs.lemmas.Int.{ints, unsigned_abs-mul}
use native.Mathlib.Nat.{mul-le-mul, le-mul_of_pos_right}
use Rattle.exact_algebra.specs.Sums.{sum-append, sum-one}
use Rattle.exact_algebra.specs.Solver.{identity}
use Rattle.exact_algebra.specs.Solver.Term.{var, ◌⊕◌, ◌⊗◌}
use Rattle.frac128.specs.Gcd.{gcd}
use Rattle.frac128.specs.IntLaws.{ring_ℤ}
use Rattle.frac128.specs.Rational.{ℚ, ratio, ratio-parts, ratio-same, whole, ◌+ℚ◌, ◌*ℚ◌}
use Rattle.frac128.specs.RationalLaws.{ring_ℚ, add-ratio, mul-ratio, whole-ratio}
use Rattle.frac128.specs.Frac.{SumFits, IsSmall, IsOnGrid}
use Rattle.frac128.proofs.Grid.{shared_fits}
use Rattle.model_core.specs.declared.field.Field.{Field}
use Rattle.model_core.specs.Plain.{IsPlainCharge}
use Rattle.model_core.proofs.ValidLaws.{both}
use Rattle.anomaly_check.specs.Counts.{IsCubeSum, charge_cubed, weighted_sum}

-- ---- ratios of small numbers

positive_factor : (a g d : ℕ) → a * g ≡ d → 0 < d → 0 < g
positive_factor a zero d e h = absurd (omega (arith, e, h))
positive_factor a (suc g) d e h = omega arith

ratio_small : (n : ℤ) (d : ℕ) → 0 < d → d < 2 ^ 127 → unsigned_abs n < 2 ^ 127 → IsSmall (ratio n d)
ratio_small n d positive d_small n_small =
    let x = ratio n d in
    let g = gcd (unsigned_abs n) d in
    let parts = ratio-parts n d positive in
    let factor : 0 < g = positive_factor x.den g d parts.1 positive in
    let size : unsigned_abs x.num * g ≡ unsigned_abs n = sym (unsigned_abs-mul x.num (pos g)) ∙ ap unsigned_abs parts.0 in
    record {
      num = omega (arith, size, le-mul_of_pos_right {m = g} (unsigned_abs x.num) factor, n_small);
      den = omega (arith, parts.1, le-mul_of_pos_right {m = g} x.den factor, d_small);
    }

-- the size of a sum
size_add : (a b : ℤ) → unsigned_abs (a +ℤ b) ≤ unsigned_abs a + unsigned_abs b
size_add a b = omega (arith, ints)

-- ---- sums of cubes

pub none : IsCubeSum 0 (whole (pos 0))
none = record { multiple = pos 0; is = whole-ratio (pos 0) ∙ ratio-same (pos 0) (pos 0) 1 216 (omega arith) (omega arith) refl; small = omega arith }

pub weaker : (a b : ℕ) (x : ℚ) → a ≤ b → IsCubeSum a x → IsCubeSum b x
weaker a b x h on = record { multiple = on.multiple; is = on.is; small = omega (arith, on.small, h) }

pub times : (w b : ℕ) (x : ℚ) → IsCubeSum b x → IsCubeSum (w * b) (whole (pos w) *ℚ x)
times w b x on =
    let same : w ≤ w = omega arith in
    record {
      multiple = pos w *ℤ on.multiple;
      is = ap₂ ◌*ℚ◌ (whole-ratio (pos w)) on.is ∙ mul-ratio (pos w) on.multiple 1 216 (omega arith) (omega arith);
      small = omega (arith, unsigned_abs-mul (pos w) on.multiple, mul-le-mul same on.small);
    }

pub plus : (a b : ℕ) (x y : ℚ) → IsCubeSum a x → IsCubeSum b y → IsCubeSum (a + b) (x +ℚ y)
plus a b x y on over =
    let m = on.multiple in
    let n = over.multiple in
    record {
      multiple = m +ℤ n;
      is =
          ap₂ ◌+ℚ◌ on.is over.is ∙ add-ratio m n 216 216 (omega arith) (omega arith)
          ∙ ratio-same (m *ℤ pos 216 +ℤ n *ℤ pos 216) (m +ℤ n) 46656 216 (omega arith) (omega arith)
          (identity ring_ℤ (m ∷ n ∷ pos 216 ∷ []) ((var 0 ⊗ var 2 ⊕ var 1 ⊗ var 2) ⊗ var 2) ((var 0 ⊕ var 1) ⊗ (var 2 ⊗ var 2)) refl);
      small = omega (arith, size_add m n, on.small, over.small);
    }

-- ---- charges

-- a plain charge
pub charge_of : (q : ℚ) → IsPlainCharge q → IsCubeSum 216000 q
charge_of q plain =
    let k = plain.sixths in
    record {
      multiple = k *ℤ pos 36;
      is = plain.is ∙ ratio-same k (k *ℤ pos 36) 6 216 (omega arith) (omega arith) (identity ring_ℤ (k ∷ pos 36 ∷ pos 6 ∷ []) (var 0 ⊗ (var 1 ⊗ var 2)) ((var 0 ⊗ var 1) ⊗ var 2) refl);
      small = omega (arith, unsigned_abs-mul k (pos 36), plain.small);
    }

square_is : (q : ℚ) (plain : IsPlainCharge q) → q *ℚ q ≡ ratio (plain.sixths *ℤ plain.sixths) 36
square_is q plain = ap₂ ◌*ℚ◌ plain.is plain.is ∙ mul-ratio plain.sixths plain.sixths 6 6 (omega arith) (omega arith)

square_size : (k : ℤ) → unsigned_abs k ≤ 60 → unsigned_abs (k *ℤ k) ≤ 3600
square_size k h =
    let most : unsigned_abs k * unsigned_abs k ≤ 60 * 60 = mul-le-mul h h in
    omega (arith, unsigned_abs-mul k k, most)

-- the square of a plain charge isn't refused
pub square_small : (q : ℚ) → IsPlainCharge q → IsSmall (q *ℚ q)
square_small q plain =
    let k = plain.sixths in
    subst IsSmall (sym (square_is q plain)) (ratio_small (k *ℤ k) 36 (omega arith) (omega arith) (omega (arith, square_size k plain.small)))

-- its cube
pub cube_of : (q : ℚ) → IsPlainCharge q → IsCubeSum 216000 (q *ℚ (q *ℚ q))
cube_of q plain =
    let k = plain.sixths in
    let most : unsigned_abs k * unsigned_abs (k *ℤ k) ≤ 60 * 3600 = mul-le-mul plain.small (square_size k plain.small) in
    record {
      multiple = k *ℤ (k *ℤ k);
      is = ap₂ ◌*ℚ◌ plain.is (square_is q plain) ∙ mul-ratio k (k *ℤ k) 6 36 (omega arith) (omega arith);
      small = omega (arith, unsigned_abs-mul k (k *ℤ k), most);
    }

-- ---- what is not refused

on_grid : (b : ℕ) (x : ℚ) → b ≤ 2 ^ 126 → IsCubeSum b x → IsOnGrid 216 x
on_grid b x h on = record { multiple = on.multiple; is = on.is; small = omega (arith, on.small, h) }

pub sum_fits : (a b : ℕ) (x y : ℚ) → a + b ≤ 2 ^ 126 → IsCubeSum a x → IsCubeSum b y → SumFits x y
sum_fits a b x y h on over =
    shared_fits 216 x y (record {
      positive = omega arith;
      bound = omega arith;
      first = on_grid a x (omega (arith, h)) on;
      second = on_grid b y (omega (arith, h)) over;
      third = on_grid (a + b) (x +ℚ y) h (plus a b x y on over);
    })

pub cube_sum_small : (b : ℕ) (x : ℚ) → b < 2 ^ 127 → IsCubeSum b x → IsSmall x
cube_sum_small b x h on = subst IsSmall (sym on.is) (ratio_small on.multiple 216 (omega arith) (omega arith) (omega (arith, on.small, h)))

-- ---- the steps of the code

pub on_err : {T E P : Type 0} (r : Result T E) → P → OnErr r P
on_err (Ok x) p = tt
on_err (Err e) p = p

-- the most that one field adds
pub one_field : (count : ℕ) (x : ℚ) → count ≤ 2 ^ 50 → IsCubeSum 216000 x → IsCubeSum (2 ^ 68) (whole (pos count) *ℚ x)
one_field count x few on = weaker (count * 216000) (2 ^ 68) (whole (pos count) *ℚ x) (omega (arith, few)) (times count 216000 x on)

pub plain_at : (fields : List Field) (i : ℕ) (field : Field) → field ≡ get_or fields i field → i < length fields → All (λ f. IsPlainCharge f.charge) fields → IsPlainCharge field.charge
plain_at fields i field is within plain = subst (λ f. IsPlainCharge f.charge) (sym is) (plain i field within)

-- the cube of a field's charge
pub cube_at : (fields : List Field) (i : ℕ) (field : Field) (x : ℚ) → field ≡ get_or fields i field → i < length fields → x ≡ charge_cubed field → All (λ f. IsPlainCharge f.charge) fields → IsCubeSum 216000 x
cube_at fields i field x is within e plain = subst (IsCubeSum 216000) (sym e) (cube_of field.charge (plain_at fields i field is within plain))

-- the sum over one field more
pub weighted_sum-more : (count : Field → ℕ) (number : Field → ℚ) (fields : List Field) (i : ℕ) (field : Field) → field ≡ get_or fields i field → i < length fields
    → weighted_sum count number (take (i + 1) fields) ≡ weighted_sum count number (take i fields) +ℚ whole (pos (count field)) *ℚ number field
weighted_sum-more count number fields i field is within =
    let one = λ (f : Field). whole (pos (count f)) *ℚ number f in
    ap (weighted_sum count number) ((take_at_read fields i field within).1 ∙ ap (λ f. take i fields ++ f ∷ []) (sym is))
    ∙ sum-append ring_ℚ.semiring (take i fields) (field ∷ []) one
    ∙ ap (λ k. weighted_sum count number (take i fields) +ℚ k) (sum-one ring_ℚ.semiring field one)

pub next_bound : (i : ℕ) (x : ℚ) → IsCubeSum (i * 2 ^ 68 + 2 ^ 68) x → IsCubeSum ((i + 1) * 2 ^ 68) x
next_bound i x on = weaker (i * 2 ^ 68 + 2 ^ 68) ((i + 1) * 2 ^ 68) x (omega arith) on

pub all_bound : (i : ℕ) (x : ℚ) → i ≤ 24 → IsCubeSum (i * 2 ^ 68) x → IsCubeSum (2 ^ 100) x
all_bound i x few on = weaker (i * 2 ^ 68) (2 ^ 100) x (omega (arith, few)) on

pub fields_few : (test : Field → Bool) (fields : List Field) → (nat_le (length fields) 24 && list_all test fields) ≡ true → length fields ≤ 24
fields_few test fields h =
    let first = (both (nat_le (length fields) 24) (list_all test fields) h).0 in
    grind (arith, nat_tests)
