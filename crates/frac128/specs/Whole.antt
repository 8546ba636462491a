-- Whole numbers among the rational ones: sums, products, halves and reciprocals of them.
use Rattle.std.proofs.Common.{◌≡◌, ℕ, zero, suc, ◌+◌, ◌*◌, ◌-◌, ◌/◌, ◌≤◌, refl, sym, ◌∙◌, ap, ap₂, arith, ℤ, pos, [], ◌∷◌}
use Rattle.std.specs.Prelude.{◌+ℤ◌, ◌*ℤ◌, neg_ℤ, unsigned_abs, ◌≢◌}
use Rattle.std.proofs.lemmas.Int.{ints}
use Rattle.exact_algebra.specs.Solver.{identity}
use Rattle.exact_algebra.specs.Solver.Term.{var, single, ◌⊕◌, ◌⊗◌}
use Rattle.exact_algebra.specs.Sums.{below, below-zero, below-suc}
use Rattle.frac128.specs.IntLaws.{ring_ℤ}
use Rattle.frac128.specs.Rational.{ℚ, ratio, whole, zero_ℚ, one_ℚ, ◌+ℚ◌, ◌-ℚ◌, ◌*ℚ◌, neg_ℚ, reciprocal, ◌/ℚ◌}
use Rattle.frac128.specs.RationalLaws.{cancel_ℚ, ring_ℚ, add-ratio, mul-ratio, neg-ratio, whole-ratio, *ℚ-reciprocal, *ℚ-one, one-*ℚ}

pub whole-+ℤ : (n m : ℤ) → whole (n +ℤ m) ≡ whole n +ℚ whole m
whole-+ℤ n m =
    whole-ratio (n +ℤ m)
    ∙ ap (λ k. ratio k 1) (identity ring_ℤ (n ∷ m ∷ []) (var 0 ⊕ var 1) (var 0 ⊗ single ⊕ var 1 ⊗ single) refl)
    ∙ sym (ap₂ ◌+ℚ◌ (whole-ratio n) (whole-ratio m) ∙ add-ratio n m 1 1 (omega arith) (omega arith))

pub whole-*ℤ : (n m : ℤ) → whole (n *ℤ m) ≡ whole n *ℚ whole m
whole-*ℤ n m = whole-ratio (n *ℤ m) ∙ sym (ap₂ ◌*ℚ◌ (whole-ratio n) (whole-ratio m) ∙ mul-ratio n m 1 1 (omega arith) (omega arith))

pub whole-neg : (n : ℤ) → whole (neg_ℤ n) ≡ neg_ℚ (whole n)
whole-neg n = whole-ratio (neg_ℤ n) ∙ sym (ap neg_ℚ (whole-ratio n) ∙ neg-ratio n 1 (omega arith))

pub whole-add : (n m : ℕ) → whole (pos (n + m)) ≡ whole (pos n) +ℚ whole (pos m)
whole-add n m = whole-+ℤ (pos n) (pos m)

pub whole-mul : (n m : ℕ) → whole (pos (n * m)) ≡ whole (pos n) *ℚ whole (pos m)
whole-mul n m = whole-*ℤ (pos n) (pos m)

pub whole-sub : (n m : ℕ) → m ≤ n → whole (pos (n - m)) ≡ whole (pos n) -ℚ whole (pos m)
whole-sub n m h =
    let e : pos (n - m) ≡ pos n +ℤ neg_ℤ (pos m) = omega (arith, ints) in
    ap whole e ∙ whole-+ℤ (pos n) (neg_ℤ (pos m)) ∙ ap (λ k. whole (pos n) +ℚ k) (whole-neg (pos m))

pub whole_nonzero : (n : ℕ) → 1 ≤ n → whole (pos n) ≢ zero_ℚ
whole_nonzero n h e =
    let same : n ≡ 0 = ap (λ x. unsigned_abs x.num) e in
    omega arith

pub twice_times : (x y : ℚ) → (x +ℚ x) *ℚ y ≡ x *ℚ ((one_ℚ +ℚ one_ℚ) *ℚ y)
twice_times x y = identity ring_ℚ (x ∷ y ∷ []) ((var 0 ⊕ var 0) ⊗ var 1) (var 0 ⊗ ((single ⊕ single) ⊗ var 1)) refl

pub two : whole (pos 2) ≡ one_ℚ +ℚ one_ℚ
two = whole-add 1 1

pub four : whole (pos 4) ≡ (one_ℚ +ℚ one_ℚ) +ℚ (one_ℚ +ℚ one_ℚ)
four = whole-add 2 2 ∙ ap₂ ◌+ℚ◌ two two

pub times_inverse : (n : ℕ) → 1 ≤ n → whole (pos n) *ℚ reciprocal (whole (pos n)) ≡ one_ℚ
times_inverse n h = *ℚ-reciprocal (whole (pos n)) (whole_nonzero n h)

pub half_and_half : (x : ℚ) → (x +ℚ x) /ℚ whole (pos 2) ≡ x
half_and_half x =
    twice_times x (reciprocal (whole (pos 2))) ∙ ap (λ k. x *ℚ (k *ℚ reciprocal (whole (pos 2)))) (sym two) ∙ ap (λ k. x *ℚ k) (times_inverse 2 (omega arith)) ∙ *ℚ-one x

pub over_one : (x : ℚ) → x /ℚ whole (pos 1) ≡ x
over_one x =
    let inverse : reciprocal (whole (pos 1)) ≡ one_ℚ = sym (one-*ℚ (reciprocal (whole (pos 1)))) ∙ times_inverse 1 (omega arith) in
    ap (λ k. x *ℚ k) inverse ∙ *ℚ-one x

-- the reciprocal of a product
pub reciprocal-mul : (a b : ℕ) → 1 ≤ a → 1 ≤ b → 1 ≤ a * b → reciprocal (whole (pos (a * b))) ≡ reciprocal (whole (pos a)) *ℚ reciprocal (whole (pos b))
reciprocal-mul a b p q l =
    let x = reciprocal (whole (pos (a * b))) in
    let y = reciprocal (whole (pos a)) in
    let z = reciprocal (whole (pos b)) in
    let A = whole (pos a) in
    let B = whole (pos b) in
    let left : x *ℚ (A *ℚ B) ≡ one_ℚ = ap (λ k. x *ℚ k) (sym (whole-mul a b)) ∙ identity ring_ℚ (x ∷ whole (pos (a * b)) ∷ []) (var 0 ⊗ var 1) (var 1 ⊗ var 0) refl ∙ times_inverse (a * b) l in
    let right : (y *ℚ z) *ℚ (A *ℚ B) ≡ one_ℚ =
    identity ring_ℚ (y ∷ z ∷ A ∷ B ∷ []) ((var 0 ⊗ var 1) ⊗ (var 2 ⊗ var 3)) ((var 2 ⊗ var 0) ⊗ (var 3 ⊗ var 1)) refl
    ∙ ap₂ ◌*ℚ◌ (times_inverse a p) (times_inverse b q) ∙ one-*ℚ one_ℚ in
    cancel_ℚ x (y *ℚ z) (A *ℚ B) (λ e. whole_nonzero (a * b) l (whole-mul a b ∙ e)) (left ∙ sym right)

-- n (n + 1) is even
pub even_product : (n : ℕ) → (k : ℕ) × (n * (n + 1) ≡ k + k)
even_product zero = (0, omega arith)
even_product (suc n) =
    let before = even_product n in
    (before.0 + (n + 1), omega (arith, before.1))

pub whole-half : (m k : ℕ) → m ≡ k + k → whole (pos (m / 2)) ≡ whole (pos m) /ℚ whole (pos 2)
whole-half m k e =
    let quotient : m / 2 ≡ k = omega (arith, e) in
    ap (λ x. whole (pos x)) quotient ∙ sym (half_and_half (whole (pos k))) ∙ ap (λ x. x /ℚ whole (pos 2)) (sym (whole-add k k) ∙ ap (λ x. whole (pos x)) (sym e))

-- a number times x, where it is half of another
pub half_of_product : (c k x s : ℚ) → c ≡ k /ℚ whole (pos 2) → s ≡ k *ℚ x → c *ℚ x ≡ s /ℚ whole (pos 2)
half_of_product c k x s e f =
    let h = reciprocal (whole (pos 2)) in
    ap (λ y. y *ℚ x) e ∙ identity ring_ℚ (k ∷ h ∷ x ∷ []) ((var 0 ⊗ var 1) ⊗ var 2) ((var 0 ⊗ var 2) ⊗ var 1) refl ∙ ap (λ y. y *ℚ h) (sym f)

-- the sum of n ones
pub counted : (n : ℕ) → below ring_ℚ.semiring n (λ _. one_ℚ) ≡ whole (pos n)
counted zero = below-zero ring_ℚ.semiring (λ _. one_ℚ)
counted (suc n) =
    let next : n + 1 ≡ suc n = omega arith in
    below-suc ring_ℚ.semiring n (λ _. one_ℚ) ∙ ap (λ k. k +ℚ one_ℚ) (counted n) ∙ sym (whole-add n 1) ∙ ap (λ k. whole (pos k)) next
