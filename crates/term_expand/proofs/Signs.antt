-- Signs by odd and even numbers.
use Rattle.std.proofs.Common.{◌≡◌, ℕ, zero, suc, ◌+◌, ◌≤◌, Bool, true, false, List, [], ◌∷◌, length, get_or, refl, sym, ap, ◌∙◌, arith}
use Rattle.std.specs.Prelude.{not, if◌then◌else◌}
use Rattle.std.specs.List.{count_by}
use Rattle.std.proofs.Math.Bool.{not-not}
use Rattle.exact_algebra.specs.Slices.{tail, tail-cons}
use Rattle.frac128.specs.Rational.{zero_ℚ, one_ℚ, neg_ℚ}
use Rattle.frac128.specs.RationalLaws.{neg_ℚ-neg_ℚ}
use Rattle.model_core.specs.MonomialValue.{is_less, inversions, has_repeat, sign, levi_civita}
use Rattle.term_expand.specs.Parity.{is_odd}

-- a sum is odd where just one of the two is
pub odd_sum : (m n : ℕ) → is_odd (m + n) ≡ (if is_odd m then not (is_odd n) else is_odd n)
odd_sum zero n = let none : 0 + n ≡ n = omega arith in ap is_odd none
odd_sum (suc m) n = ap is_odd (next m n) ∙ ap not (odd_sum m n) ∙ turned (is_odd m) (is_odd n)
  where
    next : (m n : ℕ) → suc m + n ≡ suc (m + n)
    next m n = omega arith

    turned : (a b : Bool) → not (if a then not b else b) ≡ (if not a then not b else b)
    turned true b = not-not b
    turned false b = refl

-- a sign is -1 at odd numbers, else 1
pub sign_by_parity : (n : ℕ) → sign n ≡ (if is_odd n then neg_ℚ one_ℚ else one_ℚ)
sign_by_parity zero = refl
sign_by_parity (suc n) = ap neg_ℚ (sign_by_parity n) ∙ turned (is_odd n)
  where
    turned : (b : Bool) → neg_ℚ (if b then neg_ℚ one_ℚ else one_ℚ) ≡ (if not b then neg_ℚ one_ℚ else one_ℚ)
    turned true = neg_ℚ-neg_ℚ one_ℚ
    turned false = refl

-- the number behind an odd one is even, and the one behind an even one odd
pub odd_next : (n : ℕ) → is_odd (n + 1) ≡ not (is_odd n)
odd_next n = let next : n + 1 ≡ suc n = omega arith in ap is_odd next

-- values without a repeat have the sign of their inversions
pub distinct_sign : (values : List ℕ) → has_repeat values ≡ false → levi_civita values ≡ (if is_odd (inversions values) then neg_ℚ one_ℚ else one_ℚ)
distinct_sign values distinct = ap (λ b. if b then zero_ℚ else sign (inversions values)) distinct ∙ sign_by_parity (inversions values)

-- whether inversions are odd, by those of the first value and those of the rest
pub odd_inversions : (values : List ℕ) → 1 ≤ length values → is_odd (inversions values) ≡ (if is_odd (count_by (is_less (get_or values 0 0)) (tail values)) then not (is_odd (inversions (tail values))) else is_odd (inversions (tail values)))
odd_inversions [] some = absurd (omega (arith, some))
odd_inversions (value ∷ values) some =
    odd_sum (count_by (is_less value) values) (inversions values) ∙ ap (λ rest. if is_odd (count_by (is_less value) rest) then not (is_odd (inversions rest)) else is_odd (inversions rest)) (sym (tail-cons value values))
