-- The entries of projectors and actions are the code's whole numbers over one denominator.
use Rattle.std.proofs.Common.{◌≡◌, ℕ, ◌≤◌, refl, sym, ◌∙◌, ap, ap₂, arith, Bool, true, false, cond, List, [], ◌∷◌, length, ℤ, pos}
use Rattle.std.specs.Prelude.{nat_eq, ◌&&◌, ◌+ℤ◌, ◌-ℤ◌, neg_ℤ}
use Rattle.std.specs.Str.{bytes_eq}
use Rattle.exact_algebra.specs.Solver.{identity}
use Rattle.exact_algebra.specs.Solver.Term.{var, ◌⊕◌, ◌⊗◌, opposite}
use Rattle.frac128.specs.Rational.{ℚ, whole, zero_ℚ, one_ℚ, ◌+ℚ◌, ◌-ℚ◌, ◌*ℚ◌, ◌/ℚ◌, neg_ℚ, reciprocal}
use Rattle.frac128.specs.RationalLaws.{ring_ℚ, one-*ℚ, *ℚ-one, zero-*ℚ, *ℚ-zero, +ℚ-*ℚ}
use Rattle.su_reps.specs.declared.rep.Side.{Side}
use Rattle.su_reps.specs.declared.rep.Side.TheVariants.{Upper, Lower}
use Rattle.su_reps.specs.declared.rep.Rep.{Rep}
use Rattle.su_reps.specs.declared.rep.Rep.TheVariants.{Singlet, Fund, Conj, Adjoint, Sym2, Sym2Conj, Anti2, Anti2Conj}
use Rattle.su_reps.specs.Tuples.{IsTuple, delta, same, swapped, trace_part, generator, slot_action, slots_action, sides, projector, action}
use Rattle.frac128.specs.Whole.{whole-+ℤ, whole-neg, times_inverse, over_one}
use Rattle.su_reps.specs.Entries.{are_swapped, are_diagonal, number_if, one_if, generator_numerator, slot_numerator, slots_numerator, projector_denominator, projector_numerator}

-- ---- projectors

-- a delta times 0 or 1
both_one : (b c : Bool) → cond b one_ℚ zero_ℚ *ℚ whole (one_if c) ≡ whole (one_if (b && c))
both_one true c = one-*ℚ (whole (one_if c))
both_one false c = zero-*ℚ (whole (one_if c))

same-if : (p q : List ℕ) → same p q ≡ whole (one_if (bytes_eq p q))
same-if [] [] = refl
same-if [] (b ∷ q) = refl
same-if (a ∷ p) [] = refl
same-if (a ∷ p) (b ∷ q) = ap (λ k. delta a b *ℚ k) (same-if p q) ∙ both_one (nat_eq a b) (bytes_eq p q)

delta-if : (a b : ℕ) → delta a b ≡ whole (one_if (nat_eq a b))
delta-if a b = by_case (nat_eq a b)
  where
    by_case : (t : Bool) → cond t one_ℚ zero_ℚ ≡ whole (one_if t)
    by_case true = refl
    by_case false = refl

and_true : (b : Bool) → (b && true) ≡ b
and_true true = refl
and_true false = refl

are_swapped-is : (p q : List ℕ) → length p ≡ 2 → length q ≡ 2 → bytes_eq p (swapped q) ≡ are_swapped p q
are_swapped-is [] q e f = absurd (omega (arith, e))
are_swapped-is (a ∷ []) q e f = absurd (omega (arith, e))
are_swapped-is (a ∷ b ∷ c ∷ p) q e f = absurd (omega (arith, e))
are_swapped-is (a ∷ b ∷ []) [] e f = absurd (omega (arith, f))
are_swapped-is (a ∷ b ∷ []) (c ∷ []) e f = absurd (omega (arith, f))
are_swapped-is (a ∷ b ∷ []) (c ∷ d ∷ []) e f = ap (λ k. nat_eq a d && k) (and_true (nat_eq b c))
are_swapped-is (a ∷ b ∷ []) (c ∷ d ∷ k ∷ q) e f = absurd (omega (arith, f))

are_diagonal-is : (p q : List ℕ) → trace_part p q ≡ whole (one_if (are_diagonal p q))
are_diagonal-is [] q = refl
are_diagonal-is (a ∷ []) q = refl
are_diagonal-is (a ∷ b ∷ c ∷ p) q = refl
are_diagonal-is (a ∷ b ∷ []) [] = refl
are_diagonal-is (a ∷ b ∷ []) (c ∷ []) = refl
are_diagonal-is (a ∷ b ∷ []) (c ∷ d ∷ []) = ap (λ k. delta a b *ℚ k) (delta-if c d) ∙ both_one (nat_eq a b) (nat_eq c d)
are_diagonal-is (a ∷ b ∷ []) (c ∷ d ∷ e ∷ q) = refl

whole_difference : (x y : ℤ) → whole (x -ℤ y) ≡ whole x -ℚ whole y
whole_difference x y = whole-+ℤ x (neg_ℤ y) ∙ ap (λ k. whole x +ℚ k) (whole-neg y)

-- n / n, where something holds
part_of_whole : (n : ℕ) → 1 ≤ n → (b : Bool) → whole (number_if b (pos n)) /ℚ whole (pos n) ≡ whole (one_if b)
part_of_whole n h true = times_inverse n h
part_of_whole n h false = zero-*ℚ (reciprocal (whole (pos n)))

difference_over : (x y z w : ℚ) → x *ℚ z ≡ w → (x -ℚ y) *ℚ z ≡ w -ℚ y *ℚ z
difference_over x y z w e = identity ring_ℚ (x ∷ y ∷ z ∷ []) ((var 0 ⊕ opposite (var 1)) ⊗ var 2) (var 0 ⊗ var 2 ⊕ opposite (var 1 ⊗ var 2)) refl ∙ ap (λ k. k -ℚ y *ℚ z) e

adjoint_entry : (n : ℕ) → 1 ≤ n → (b c : Bool) → whole (number_if b (pos n) -ℤ one_if c) /ℚ whole (pos n) ≡ whole (one_if b) -ℚ whole (one_if c) /ℚ whole (pos n)
adjoint_entry n h b c =
    ap (λ k. k /ℚ whole (pos n)) (whole_difference (number_if b (pos n)) (one_if c))
    ∙ difference_over (whole (number_if b (pos n))) (whole (one_if c)) (reciprocal (whole (pos n))) (whole (one_if b)) (part_of_whole n h b)

sum_entry : (p q : List ℕ) → length p ≡ 2 → length q ≡ 2 → whole (one_if (bytes_eq p q) +ℤ one_if (are_swapped p q)) /ℚ whole (pos 2) ≡ (same p q +ℚ same p (swapped q)) /ℚ whole (pos 2)
sum_entry p q e f =
    ap (λ k. k /ℚ whole (pos 2)) (whole-+ℤ (one_if (bytes_eq p q)) (one_if (are_swapped p q)) ∙ sym (ap₂ ◌+ℚ◌ (same-if p q) (same-if p (swapped q) ∙ ap (λ t. whole (one_if t)) (are_swapped-is p q e f))))

difference_entry : (p q : List ℕ) → length p ≡ 2 → length q ≡ 2 → whole (one_if (bytes_eq p q) -ℤ one_if (are_swapped p q)) /ℚ whole (pos 2) ≡ (same p q -ℚ same p (swapped q)) /ℚ whole (pos 2)
difference_entry p q e f =
    ap (λ k. k /ℚ whole (pos 2)) (whole_difference (one_if (bytes_eq p q)) (one_if (are_swapped p q)) ∙ sym (ap₂ ◌-ℚ◌ (same-if p q) (same-if p (swapped q) ∙ ap (λ t. whole (one_if t)) (are_swapped-is p q e f))))

pub projector_entry : (r : Rep) (n : ℕ) (p q : List ℕ) → 1 ≤ n → IsTuple r n p → IsTuple r n q → whole (projector_numerator r n p q) /ℚ whole (pos (projector_denominator r n)) ≡ projector r n p q
projector_entry Singlet n p q h v w = over_one (whole (one_if (bytes_eq p q))) ∙ sym (same-if p q)
projector_entry Fund n p q h v w = over_one (whole (one_if (bytes_eq p q))) ∙ sym (same-if p q)
projector_entry Conj n p q h v w = over_one (whole (one_if (bytes_eq p q))) ∙ sym (same-if p q)
projector_entry Adjoint n p q h v w =
    adjoint_entry n h (bytes_eq p q) (are_diagonal p q) ∙ sym (ap₂ (λ x y. x -ℚ y /ℚ whole (pos n)) (same-if p q) (are_diagonal-is p q))
projector_entry Sym2 n p q h v w = sum_entry p q v.count w.count
projector_entry Sym2Conj n p q h v w = sum_entry p q v.count w.count
projector_entry Anti2 n p q h v w = difference_entry p q v.count w.count
projector_entry Anti2Conj n p q h v w = difference_entry p q v.count w.count

-- ---- generators

-- n / n, where both hold
number_over : (n : ℕ) → 1 ≤ n → (b c : Bool) → whole (number_if (b && c) (pos n)) /ℚ whole (pos n) ≡ cond b one_ℚ zero_ℚ *ℚ cond c one_ℚ zero_ℚ
number_over n h true true = times_inverse n h ∙ sym (one-*ℚ one_ℚ)
number_over n h true false = zero-*ℚ (reciprocal (whole (pos n))) ∙ sym (one-*ℚ zero_ℚ)
number_over n h false c = zero-*ℚ (reciprocal (whole (pos n))) ∙ sym (zero-*ℚ (cond c one_ℚ zero_ℚ))

generator-numerator : (n i j a b : ℕ) → 1 ≤ n → whole (generator_numerator n i j a b) /ℚ whole (pos n) ≡ generator n i j a b
generator-numerator n i j a b h =
    ap (λ k. k /ℚ whole (pos n)) (whole_difference (number_if (nat_eq a i && nat_eq b j) (pos n)) (one_if (nat_eq i j && nat_eq a b)))
    ∙ difference_over (whole (number_if (nat_eq a i && nat_eq b j) (pos n))) (whole (one_if (nat_eq i j && nat_eq a b))) (reciprocal (whole (pos n))) (delta a i *ℚ delta b j) (number_over n h (nat_eq a i) (nat_eq b j))
    ∙ ap (λ k. delta a i *ℚ delta b j -ℚ k /ℚ whole (pos n)) (sym (ap (λ k. delta i j *ℚ k) (delta-if a b) ∙ both_one (nat_eq i j) (nat_eq a b)))

negative_over : (x : ℤ) (y : ℚ) → whole (neg_ℤ x) *ℚ y ≡ neg_ℚ (whole x *ℚ y)
negative_over x y = ap (λ k. k *ℚ y) (whole-neg x) ∙ identity ring_ℚ (whole x ∷ y ∷ []) (opposite (var 0) ⊗ var 1) (opposite (var 0 ⊗ var 1)) refl

slot-numerator : (s : Side) (n i j a b : ℕ) → 1 ≤ n → whole (slot_numerator s n i j a b) /ℚ whole (pos n) ≡ slot_action s n i j a b
slot-numerator Upper n i j a b h = generator-numerator n i j a b h
slot-numerator Lower n i j a b h = negative_over (generator_numerator n i j b a) (reciprocal (whole (pos n))) ∙ ap neg_ℚ (generator-numerator n i j b a h)

if_right : (b : Bool) (z : ℤ) (x y : ℚ) → whole z *ℚ x ≡ y → whole (number_if b z) *ℚ x ≡ y *ℚ whole (one_if b)
if_right true z x y e = e ∙ sym (*ℚ-one y)
if_right false z x y e = zero-*ℚ x ∙ sym (*ℚ-zero y)

if_left : (b : Bool) (z : ℤ) (x y : ℚ) → whole z *ℚ x ≡ y → whole (number_if b z) *ℚ x ≡ cond b one_ℚ zero_ℚ *ℚ y
if_left true z x y e = e ∙ sym (one-*ℚ y)
if_left false z x y e = zero-*ℚ x ∙ sym (zero-*ℚ y)

slots-numerator : (ss : List Side) (n i j : ℕ) (p q : List ℕ) → 1 ≤ n → whole (slots_numerator ss n i j p q) /ℚ whole (pos n) ≡ slots_action ss n i j p q
slots-numerator [] n i j p q h = zero-*ℚ (reciprocal (whole (pos n)))
slots-numerator (s ∷ ss) n i j [] q h = zero-*ℚ (reciprocal (whole (pos n)))
slots-numerator (s ∷ ss) n i j (a ∷ p) [] h = zero-*ℚ (reciprocal (whole (pos n)))
slots-numerator (s ∷ ss) n i j (a ∷ p) (b ∷ q) h =
    let x = reciprocal (whole (pos n)) in
    let first = number_if (bytes_eq p q) (slot_numerator s n i j a b) in
    let second = number_if (nat_eq a b) (slots_numerator ss n i j p q) in
    ap (λ k. k *ℚ x) (whole-+ℤ first second) ∙ +ℚ-*ℚ (whole first) (whole second) x
    ∙ ap₂ ◌+ℚ◌ (if_right (bytes_eq p q) (slot_numerator s n i j a b) x (slot_action s n i j a b) (slot-numerator s n i j a b h) ∙ ap (λ k. slot_action s n i j a b *ℚ k) (sym (same-if p q))) (if_left (nat_eq a b) (slots_numerator ss n i j p q) x (slots_action ss n i j p q) (slots-numerator ss n i j p q h))

pub action_entry : (r : Rep) (n i j : ℕ) (p q : List ℕ) → 1 ≤ n → whole (slots_numerator (sides r) n i j p q) /ℚ whole (pos n) ≡ action r n i j p q
action_entry r n i j p q h = slots-numerator (sides r) n i j p q h
