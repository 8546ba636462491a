-- The steps of `slots_numerator` over its slices.
use Rattle.std.proofs.Common.{◌≡◌, ℕ, ◌≤◌, ◌<◌, refl, ◌∙◌, ap, ap₂, arith, List, [], ◌∷◌, length, pos, ◌+ℤ◌}
use Rattle.std.specs.Prelude.{nat_eq, get_or}
use Rattle.std.specs.Str.{bytes_eq}
use Rattle.exact_algebra.specs.Slices.{tail, tail-cons}
use Rattle.su_reps.specs.declared.rep.Side.{Side}
use Rattle.su_reps.specs.declared.rep.Side.TheVariants.{Upper}
use Rattle.su_reps.specs.Entries.{slots_numerator, slot_numerator, number_if}

-- all three lists have a first item
pub slots_numerator-step : (ss : List Side) (n i j : ℕ) (p q : List ℕ) → 1 ≤ length ss → 1 ≤ length p → 1 ≤ length q → number_if (bytes_eq (tail p) (tail q)) (slot_numerator (get_or ss 0 Upper) n i j (get_or p 0 0) (get_or q 0 0)) +ℤ number_if (nat_eq (get_or p 0 0) (get_or q 0 0)) (slots_numerator (tail ss) n i j (tail p) (tail q)) ≡ slots_numerator ss n i j p q
slots_numerator-step [] n i j p q e f g = absurd (omega (arith, e))
slots_numerator-step (s ∷ ss) n i j [] q e f g = absurd (omega (arith, f))
slots_numerator-step (s ∷ ss) n i j (a ∷ p) [] e f g = absurd (omega (arith, g))
slots_numerator-step (s ∷ ss) n i j (a ∷ p) (b ∷ q) e f g =
    ap₂ (λ x y. number_if (bytes_eq x y) (slot_numerator s n i j a b) +ℤ number_if (nat_eq a b) (slots_numerator (tail (s ∷ ss)) n i j (tail (a ∷ p)) (tail (b ∷ q)))) (tail-cons a p) (tail-cons b q)
    ∙ ap₂ (λ x y. number_if (bytes_eq p q) (slot_numerator s n i j a b) +ℤ number_if (nat_eq a b) (slots_numerator (tail (s ∷ ss)) n i j x y)) (tail-cons a p) (tail-cons b q)
    ∙ ap (λ x. number_if (bytes_eq p q) (slot_numerator s n i j a b) +ℤ number_if (nat_eq a b) (slots_numerator x n i j p q)) (tail-cons s ss)

-- one of the tuples has none
pub slots_numerator-no_first : (ss : List Side) (n i j : ℕ) (p q : List ℕ) → length p < 1 → pos 0 ≡ slots_numerator ss n i j p q
slots_numerator-no_first [] n i j p q e = refl
slots_numerator-no_first (s ∷ ss) n i j [] q e = refl
slots_numerator-no_first (s ∷ ss) n i j (a ∷ p) q e = absurd (omega (arith, e))

pub slots_numerator-no_second : (ss : List Side) (n i j : ℕ) (p q : List ℕ) → length q < 1 → pos 0 ≡ slots_numerator ss n i j p q
slots_numerator-no_second [] n i j p q e = refl
slots_numerator-no_second (s ∷ ss) n i j [] q e = refl
slots_numerator-no_second (s ∷ ss) n i j (a ∷ p) [] e = refl
slots_numerator-no_second (s ∷ ss) n i j (a ∷ p) (b ∷ q) e = absurd (omega (arith, e))
