-- Sums over the tuples of slots: matrices on them, their products and traces, and those of matrices that act on the first
-- slots and on the others apart.
use Rattle.std.proofs.Common.{◌≡◌, ℕ, zero, suc, ◌+◌, ◌-◌, ◌≤◌, true, false, cond, List, [], ◌∷◌, ◌++◌, map, take, drop, replicate, refl, sym, ap, ap₂, ◌∙◌, arith}
use Rattle.std.specs.Prelude.{◌≢◌, ⊤, nat_eq}
use Rattle.std.specs.List.{flat_map, range_with_len}
use Rattle.std.proofs.lemmas.Bool.Decides.{nat_tests}
use mathlib.Core.Path.{fun_ext}
use Rattle.exact_algebra.specs.Sums.{sum, Each, sum-one, sum-pairs, sum-same_on, sum-mul, sum_mul_sum, below-same, below-only}
use Rattle.exact_algebra.specs.Regroup.{pairs_across}
use Rattle.exact_algebra.specs.Ranges.{sum-range}
use Rattle.frac128.specs.Rational.{ℚ, zero_ℚ, one_ℚ, ◌*ℚ◌}
use Rattle.frac128.specs.RationalLaws.{ring_ℚ, *ℚ_comm, *ℚ_assoc, one-*ℚ, zero-*ℚ}
use Rattle.su_reps.specs.declared.rep.Rep.{Rep}
use Rattle.su_reps.specs.Tuples.{delta, same, slots}
use Rattle.su_reps.specs.Operators.{over_tuples, Operator, product, trace}
use Rattle.model_core.specs.Component.{tuples}

-- ---- one value

-- all summands but the one at a value are 0
pub sum-value : (n a : ℕ) (f : ℕ → ℚ) → 1 ≤ a → a ≤ n → ((b : ℕ) → b ≢ a → f b ≡ zero_ℚ) → sum ring_ℚ.semiring (range_with_len 1 n) f ≡ f a
sum-value n a f low high others =
    let back : 1 + (a - 1) ≡ a = omega arith in
    sum-range ring_ℚ.semiring 1 n f
    ∙ below-only ring_ℚ.semiring n (a - 1) (λ i. f (1 + i)) (omega arith) (λ i l apart. others (1 + i) (λ e. apart (omega (arith, e))))
    ∙ ap f back

-- the Kronecker delta is 1 at one value, 0 at two, and symmetric
delta_same : (a : ℕ) → delta a a ≡ one_ℚ
delta_same a =
    let test : nat_eq a a ≡ true = grind (arith, nat_tests) in
    ap (λ b. cond b one_ℚ zero_ℚ) test

delta_apart : (a b : ℕ) → b ≢ a → delta a b ≡ zero_ℚ
delta_apart a b apart =
    let test : nat_eq a b ≡ false = grind (arith, nat_tests) in
    ap (λ b. cond b one_ℚ zero_ℚ) test

delta-turned : (a b : ℕ) → delta a b ≡ delta b a
delta-turned a b =
    let test : nat_eq a b ≡ nat_eq b a = grind (arith, nat_tests) in
    ap (λ b. cond b one_ℚ zero_ℚ) test

-- the identity is symmetric
same-turned : (p q : List ℕ) → same p q ≡ same q p
same-turned [] [] = refl
same-turned [] (b ∷ q) = refl
same-turned (a ∷ p) [] = refl
same-turned (a ∷ p) (b ∷ q) = ap₂ ◌*ℚ◌ (delta-turned a b) (same-turned p q)

-- ---- tuples

-- a value of each slot
abbrev pub AreIn : List ℕ → List ℕ → Type 0
AreIn [] [] = ⊤
AreIn (n ∷ sizes) (a ∷ p) = ((1 ≤ a) × (a ≤ n)) × AreIn sizes p
AreIn sizes p = ⊥

-- a fact of each element of two lists
each_append : {A : Type 0} (P : A → Type 0) (xs ys : List A) → Each ring_ℚ.semiring P xs → Each ring_ℚ.semiring P ys → Each ring_ℚ.semiring P (xs ++ ys)
each_append P [] ys first second = second
each_append P (x ∷ xs) ys first second = (first.0, each_append P xs ys first.1 second)

-- the values of a slot
pub each_value : (low n high : ℕ) → low + n ≤ high + 1 → 1 ≤ low → Each ring_ℚ.semiring (λ a. (1 ≤ a) × (a ≤ high)) (range_with_len low n)
each_value low zero high h l = tt
each_value low (suc n) high h l = ((l, omega arith), each_value (low + 1) n high (omega arith) (omega arith))

-- the tuples have a value of each slot
each_tuple : (sizes : List ℕ) → Each ring_ℚ.semiring (AreIn sizes) (tuples sizes)
each_tuple [] = (tt, tt)
each_tuple (n ∷ sizes) = each_first (range_with_len 1 n) (each_value 1 n n (omega arith) (omega arith)) (tuples sizes) (each_tuple sizes)
  where
    each_rest : (a : ℕ) → (1 ≤ a) × (a ≤ n) → (ps : List (List ℕ)) → Each ring_ℚ.semiring (AreIn sizes) ps → Each ring_ℚ.semiring (AreIn (n ∷ sizes)) (map (λ p. a ∷ p) ps)
    each_rest a here [] h = tt
    each_rest a here (p ∷ ps) h = ((here, h.0), each_rest a here ps h.1)

    each_first : (values : List ℕ) → Each ring_ℚ.semiring (λ a. (1 ≤ a) × (a ≤ n)) values → (ps : List (List ℕ)) → Each ring_ℚ.semiring (AreIn sizes) ps
        → Each ring_ℚ.semiring (AreIn (n ∷ sizes)) (flat_map (λ a. map (λ p. a ∷ p) ps) values)
    each_first [] here ps h = tt
    each_first (a ∷ values) here ps h =
        each_append (AreIn (n ∷ sizes)) (map (λ p. a ∷ p) ps) (flat_map (λ a. map (λ p. a ∷ p) ps) values) (each_rest a here.0 ps h) (each_first values here.1 ps h)

-- the values of k slots of one size, and those of the others
pub are_first : (n k : ℕ) (sizes p : List ℕ) → AreIn (replicate k n ++ sizes) p → AreIn (replicate k n) (take k p)
are_first n zero sizes p h = tt
are_first n (suc k) sizes [] h = h
are_first n (suc k) sizes (a ∷ p) h = (h.0, are_first n k sizes p h.1)

pub are_others : (n k : ℕ) (sizes p : List ℕ) → AreIn (replicate k n ++ sizes) p → AreIn sizes (drop k p)
are_others n zero sizes p h = h
are_others n (suc k) sizes [] h = absurd h
are_others n (suc k) sizes (a ∷ p) h = are_others n k sizes p h.1

-- ---- sums

-- equal summands at all tuples
tuples-same : (sizes : List ℕ) (f g : List ℕ → ℚ) → ((p : List ℕ) → AreIn sizes p → f p ≡ g p) → sum ring_ℚ.semiring (tuples sizes) f ≡ sum ring_ℚ.semiring (tuples sizes) g
tuples-same sizes f g h = sum-same_on ring_ℚ.semiring (AreIn sizes) (tuples sizes) f g (each_tuple sizes) h

-- over the first value, then over the others
tuples-cons : (n : ℕ) (sizes : List ℕ) (f : List ℕ → ℚ)
    → sum ring_ℚ.semiring (tuples (n ∷ sizes)) f ≡ sum ring_ℚ.semiring (range_with_len 1 n) (λ a. sum ring_ℚ.semiring (tuples sizes) (λ p. f (a ∷ p)))
tuples-cons n sizes f = sum-pairs ring_ℚ.semiring (λ a p. a ∷ p) (range_with_len 1 n) (tuples sizes) f

-- over k slots of one size, then over the others
tuples-joined : (n k : ℕ) (sizes : List ℕ) (f : List ℕ → ℚ)
    → sum ring_ℚ.semiring (tuples (replicate k n ++ sizes)) f ≡ sum ring_ℚ.semiring (tuples (replicate k n)) (λ p. sum ring_ℚ.semiring (tuples sizes) (λ q. f (p ++ q)))
tuples-joined n zero sizes f = sym (sum-one ring_ℚ.semiring [] (λ p. sum ring_ℚ.semiring (tuples sizes) (λ q. f (p ++ q))))
tuples-joined n (suc k) sizes f =
    tuples-cons n (replicate k n ++ sizes) f
    ∙ ap (sum ring_ℚ.semiring (range_with_len 1 n)) (fun_ext (λ a. tuples-joined n k sizes (λ p. f (a ∷ p))))
    ∙ sym (tuples-cons n (replicate k n) (λ p. sum ring_ℚ.semiring (tuples sizes) (λ q. f (p ++ q))))

-- the sum over the tuples of a representation
over-tuples : (n k : ℕ) (f : List ℕ → ℚ) → over_tuples n k f ≡ sum ring_ℚ.semiring (tuples (replicate k n)) f
over-tuples n zero f = sym (sum-one ring_ℚ.semiring [] f)
over-tuples n (suc k) f =
    below-same ring_ℚ.semiring n (λ i. over_tuples n k (λ p. f (suc i ∷ p))) (λ i. sum ring_ℚ.semiring (tuples (replicate k n)) (λ p. f ((1 + i) ∷ p))) (λ i l. over-tuples n k (λ p. f (suc i ∷ p)) ∙ ap (λ a. sum ring_ℚ.semiring (tuples (replicate k n)) (λ p. f (a ∷ p))) (omega arith))
    ∙ sym (sum-range ring_ℚ.semiring 1 n (λ a. sum ring_ℚ.semiring (tuples (replicate k n)) (λ p. f (a ∷ p))))
    ∙ sym (tuples-cons n (replicate k n) f)

-- the identity leaves one summand
sum-same_as : (sizes p : List ℕ) (f : List ℕ → ℚ) → AreIn sizes p → sum ring_ℚ.semiring (tuples sizes) (λ t. same p t *ℚ f t) ≡ f p
sum-same_as [] [] f h = sum-one ring_ℚ.semiring [] (λ t. same [] t *ℚ f t) ∙ one-*ℚ (f [])
sum-same_as [] (a ∷ p) f h = absurd h
sum-same_as (n ∷ sizes) [] f h = absurd h
sum-same_as (n ∷ sizes) (a ∷ p) f h =
    tuples-cons n sizes (λ t. same (a ∷ p) t *ℚ f t)
    ∙ ap (sum ring_ℚ.semiring (range_with_len 1 n)) (fun_ext (λ b.
    ap (sum ring_ℚ.semiring (tuples sizes)) (fun_ext (λ t. *ℚ_assoc (delta a b) (same p t) (f (b ∷ t))))
    ∙ sum-mul ring_ℚ.semiring (delta a b) (tuples sizes) (λ t. same p t *ℚ f (b ∷ t))
    ∙ ap (λ k. delta a b *ℚ k) (sum-same_as sizes p (λ t. f (b ∷ t)) h.1)))
    ∙ sum-value n a (λ b. delta a b *ℚ f (b ∷ p)) h.0.0 h.0.1 (λ b apart. ap (λ k. k *ℚ f (b ∷ p)) (delta_apart a b apart) ∙ zero-*ℚ (f (b ∷ p)))
    ∙ ap (λ k. k *ℚ f (a ∷ p)) (delta_same a) ∙ one-*ℚ (f (a ∷ p))

-- ---- matrices

-- the product of two matrices on tuples
abbrev pub product_on : List ℕ → Operator → Operator → Operator
product_on sizes A B p q = sum ring_ℚ.semiring (tuples sizes) (λ t. A p t *ℚ B t q)

-- the trace of a matrix
abbrev pub trace_on : List ℕ → Operator → ℚ
trace_on sizes A = sum ring_ℚ.semiring (tuples sizes) (λ p. A p p)

-- two matrices agree at all tuples
abbrev pub Agree : List ℕ → Operator → Operator → Type 0
Agree sizes A B = (p q : List ℕ) → AreIn sizes p → AreIn sizes q → A p q ≡ B p q

-- products and traces of matrices that agree
pub product-agree : (sizes : List ℕ) (A B C D : Operator) → Agree sizes A B → Agree sizes C D → Agree sizes (product_on sizes A C) (product_on sizes B D)
product-agree sizes A B C D first second p q h k =
    tuples-same sizes (λ t. A p t *ℚ C t q) (λ t. B p t *ℚ D t q) (λ t here. ap₂ ◌*ℚ◌ (first p t h here) (second t q here k))

pub trace-agree : (sizes : List ℕ) (A B : Operator) → Agree sizes A B → trace_on sizes A ≡ trace_on sizes B
trace-agree sizes A B agree = tuples-same sizes (λ p. A p p) (λ p. B p p) (λ p h. agree p p h h)

-- the identity changes no matrix
pub same-product : (sizes : List ℕ) (A : Operator) → Agree sizes (product_on sizes same A) A
same-product sizes A p q h k = sum-same_as sizes p (λ t. A t q) h

pub product-same : (sizes : List ℕ) (A : Operator) → Agree sizes (product_on sizes A same) A
product-same sizes A p q h k =
    ap (sum ring_ℚ.semiring (tuples sizes)) (fun_ext (λ t. *ℚ_comm (A p t) (same t q) ∙ ap (λ k. k *ℚ A p t) (same-turned t q)))
    ∙ sum-same_as sizes q (λ t. A p t) k

-- one matrix on the first k slots, times another on the others
abbrev pub joined : ℕ → Operator → Operator → Operator
joined k A B p q = A (take k p) (take k q) *ℚ B (drop k p) (drop k q)

-- the two parts of a joined tuple
front : (n k : ℕ) (t u : List ℕ) → AreIn (replicate k n) t → take k (t ++ u) ≡ t
front n zero [] u h = refl
front n zero (a ∷ t) u h = absurd h
front n (suc k) [] u h = absurd h
front n (suc k) (a ∷ t) u h = ap (λ p. a ∷ p) (front n k t u h.1)

back : (n k : ℕ) (t u : List ℕ) → AreIn (replicate k n) t → drop k (t ++ u) ≡ u
back n zero [] u h = refl
back n zero (a ∷ t) u h = absurd h
back n (suc k) [] u h = absurd h
back n (suc k) (a ∷ t) u h = back n k t u h.1

-- products of such matrices are products of their parts
pub product-joined : (n k : ℕ) (sizes : List ℕ) (A B C D : Operator) (p q : List ℕ)
    → product_on (replicate k n ++ sizes) (joined k A B) (joined k C D) p q ≡ joined k (product_on (replicate k n) A C) (product_on sizes B D) p q
product-joined n k sizes A B C D p q =
    let at = λ (t u : List ℕ). (A (take k p) t *ℚ B (drop k p) u) *ℚ (C t (take k q) *ℚ D u (drop k q)) in
    tuples-joined n k sizes (λ t. joined k A B p t *ℚ joined k C D t q)
    ∙ tuples-same (replicate k n) _ (λ t. sum ring_ℚ.semiring (tuples sizes) (λ u. (A (take k p) t *ℚ C t (take k q)) *ℚ (B (drop k p) u *ℚ D u (drop k q)))) (λ t h.
    ap (sum ring_ℚ.semiring (tuples sizes)) (fun_ext (λ u.
    ap₂ at (front n k t u h) (back n k t u h) ∙ pairs_across ring_ℚ (A (take k p) t) (B (drop k p) u) (C t (take k q)) (D u (drop k q)))))
    ∙ sym (sum_mul_sum ring_ℚ.semiring (tuples (replicate k n)) (tuples sizes) (λ t. A (take k p) t *ℚ C t (take k q)) (λ u. B (drop k p) u *ℚ D u (drop k q)))

-- and so is the trace
pub trace-joined : (n k : ℕ) (sizes : List ℕ) (A B : Operator) → trace_on (replicate k n ++ sizes) (joined k A B) ≡ trace_on (replicate k n) A *ℚ trace_on sizes B
trace-joined n k sizes A B =
    tuples-joined n k sizes (λ t. joined k A B t t)
    ∙ tuples-same (replicate k n) _ (λ t. sum ring_ℚ.semiring (tuples sizes) (λ u. A t t *ℚ B u u)) (λ t h.
    ap (sum ring_ℚ.semiring (tuples sizes)) (fun_ext (λ u. ap₂ (λ x y. A x x *ℚ B y y) (front n k t u h) (back n k t u h))))
    ∙ sym (sum_mul_sum ring_ℚ.semiring (tuples (replicate k n)) (tuples sizes) (λ t. A t t) (λ u. B u u))

-- ---- matrices of a representation

-- products and traces on one representation are those on its slots
pub product-of_rep : (rep : Rep) (n : ℕ) (A B : Operator) (p q : List ℕ) → product rep n A B p q ≡ product_on (replicate (slots rep) n) A B p q
product-of_rep rep n A B p q = over-tuples n (slots rep) (λ t. A p t *ℚ B t q)

pub trace-of_rep : (rep : Rep) (n : ℕ) (A : Operator) → trace rep n A ≡ trace_on (replicate (slots rep) n) A
trace-of_rep rep n A = over-tuples n (slots rep) (λ p. A p p)
