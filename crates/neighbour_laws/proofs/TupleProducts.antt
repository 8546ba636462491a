-- Products of matrices on the tuples of slots, also of matrices that act on the slots of one group alone.
-- These laws stand in `anomaly_check/proofs` (TupleSums, OnGroup) too.
use Rattle.std.proofs.Common.{◌≡◌, ℕ, zero, suc, ◌+◌, ◌-◌, ◌≤◌, true, false, cond, List, [], ◌∷◌, ◌++◌, map, length, take, drop, replicate, refl, sym, subst, ap, ap₂, ◌∙◌, arith, inl, inr}
use Rattle.std.specs.Prelude.{◌≢◌, ⊤, nat_eq}
use Rattle.std.specs.List.{range_with_len}
use Rattle.std.proofs.lemmas.Bool.Decides.{nat_tests}
use mathlib.Core.Path.{fun_ext}
use Rattle.exact_algebra.specs.Ranges.{sum-range}
use Rattle.exact_algebra.specs.Regroup.{pairs_across}
use Rattle.exact_algebra.specs.Sums.{sum, sum-one, sum-pairs, sum-mul, sum_mul_sum, below-same, below-only}
use Rattle.frac128.specs.Rational.{ℚ, zero_ℚ, one_ℚ, ◌*ℚ◌}
use Rattle.frac128.specs.RationalLaws.{ring_ℚ, *ℚ_assoc, one-*ℚ, zero-*ℚ}
use Rattle.su_reps.specs.declared.rep.Rep.{Rep}
use Rattle.su_reps.specs.Tuples.{AreValues, delta, same, slots}
use Rattle.su_reps.specs.Operators.{over_tuples, Operator, product}
use Rattle.model_core.specs.declared.group.Group.{Group}
use Rattle.model_core.specs.Component.{slot_sizes, tuples}
use Rattle.model_core.specs.Generators.{Matrices, on_group}
use Rattle.neighbour_laws.proofs.Members.{IsIn, in-flat_map, in-map, in-range, sum-in}

-- ---- one value

-- all summands but the one at a value are 0
sum-value : (n a : ℕ) (f : ℕ → ℚ) → 1 ≤ a → a ≤ n → ((b : ℕ) → b ≢ a → f b ≡ zero_ℚ) → sum ring_ℚ.semiring (range_with_len 1 n) f ≡ f a
sum-value n a f low high others =
    let back : 1 + (a - 1) ≡ a = omega arith in
    sum-range ring_ℚ.semiring 1 n f
    ∙ below-only ring_ℚ.semiring n (a - 1) (λ i. f (1 + i)) (omega arith) (λ i l apart. others (1 + i) (λ e. apart (omega (arith, e))))
    ∙ ap f back

-- the Kronecker delta is 1 at one value, 0 at two
pub delta_same : (a : ℕ) → delta a a ≡ one_ℚ
delta_same a =
    let test : nat_eq a a ≡ true = grind (arith, nat_tests) in
    ap (λ b. cond b one_ℚ zero_ℚ) test

pub delta_apart : (a b : ℕ) → b ≢ a → delta a b ≡ zero_ℚ
delta_apart a b apart =
    let test : nat_eq a b ≡ false = grind (arith, nat_tests) in
    ap (λ b. cond b one_ℚ zero_ℚ) test

-- ---- tuples

-- a value of each slot
abbrev pub AreIn : List ℕ → List ℕ → Type 0
AreIn [] [] = ⊤
AreIn (n ∷ sizes) (a ∷ p) = ((1 ≤ a) × (a ≤ n)) × AreIn sizes p
AreIn sizes p = ⊥

-- the tuples have them
pub in-tuples : (sizes p : List ℕ) → IsIn p (tuples sizes) → AreIn sizes p
in-tuples [] [] h = tt
in-tuples [] (a ∷ p) (inl e) = let never : ⊥ = cc in never
in-tuples [] (a ∷ p) (inr h) = absurd h
in-tuples (n ∷ sizes) [] h =
    let first = in-flat_map (λ a. map (λ q. a ∷ q) (tuples sizes)) [] (range_with_len 1 n) h in
    let rest = in-map (λ q. first.0 ∷ q) [] (tuples sizes) first.2 in
    let e = rest.2 in
    let never : ⊥ = cc in never
in-tuples (n ∷ sizes) (a ∷ p) h =
    let first = in-flat_map (λ a. map (λ q. a ∷ q) (tuples sizes)) (a ∷ p) (range_with_len 1 n) h in
    let rest = in-map (λ q. first.0 ∷ q) (a ∷ p) (tuples sizes) first.2 in
    let bounds = in-range first.0 1 n first.1 in
    let e = rest.2 in
    let value : a ≡ first.0 = cc in
    let others : rest.0 ≡ p = cc in
    ((omega (arith, bounds.0), omega (arith, bounds.1)), in-tuples sizes p (subst (λ q. IsIn q (tuples sizes)) others rest.1))

-- the values of k slots of one size, and those of the others
pub are_first : (n k : ℕ) (sizes p : List ℕ) → AreIn (replicate k n ++ sizes) p → AreIn (replicate k n) (take k p)
are_first n zero sizes p h = tt
are_first n (suc k) sizes [] h = h
are_first n (suc k) sizes (a ∷ p) h = (h.0, are_first n k sizes p h.1)

pub are_others : (n k : ℕ) (sizes p : List ℕ) → AreIn (replicate k n ++ sizes) p → AreIn sizes (drop k p)
are_others n zero sizes p h = h
are_others n (suc k) sizes [] h = absurd h
are_others n (suc k) sizes (a ∷ p) h = are_others n k sizes p h.1

-- those of slots of one size
pub are_values : (n k : ℕ) (p : List ℕ) → AreIn (replicate k n) p → (length p ≡ k) × AreValues n p
are_values n zero [] h = (refl, tt)
are_values n zero (a ∷ p) h = absurd h
are_values n (suc k) [] h = absurd h
are_values n (suc k) (a ∷ p) h = let rest = are_values n k p h.1 in (ap suc rest.0, (h.0, rest.1))

-- ---- sums

-- equal summands at all tuples
tuples-same : (sizes : List ℕ) (f g : List ℕ → ℚ) → ((p : List ℕ) → AreIn sizes p → f p ≡ g p) → sum ring_ℚ.semiring (tuples sizes) f ≡ sum ring_ℚ.semiring (tuples sizes) g
tuples-same sizes f g h = sum-in (tuples sizes) f g (λ p there. h p (in-tuples sizes p there))

-- over the first value, then over the others
tuples-cons : (n : ℕ) (sizes : List ℕ) (f : List ℕ → ℚ)
    → sum ring_ℚ.semiring (tuples (n ∷ sizes)) f ≡ sum ring_ℚ.semiring (range_with_len 1 n) (λ a. sum ring_ℚ.semiring (tuples sizes) (λ p. f (a ∷ p)))
tuples-cons n sizes f = sum-pairs ring_ℚ.semiring (λ a p. a ∷ p) (range_with_len 1 n) (tuples sizes) f

-- over k slots of one size, then over the others
tuples-joined : (n k : ℕ) (sizes : List ℕ) (f : List ℕ → ℚ)
    → sum ring_ℚ.semiring (tuples (replicate k n ++ sizes)) f ≡ sum ring_ℚ.semiring (tuples (replicate k n)) (λ p. sum ring_ℚ.semiring (tuples sizes) (λ q. f (p ++ q)))
tuples-joined n zero sizes f = sym (sum-one ring_ℚ.semiring [] (λ p. sum ring_ℚ.semiring (tuples sizes) (λ q. f (p ++ q))))
tuples-joined n (suc k) sizes f =
    tuples-cons n (replicate k n ++ sizes) f
    ∙ ap (sum ring_ℚ.semiring (range_with_len 1 n)) (fun_ext (λ a. tuples-joined n k sizes (λ p. f (a ∷ p))))
    ∙ sym (tuples-cons n (replicate k n) (λ p. sum ring_ℚ.semiring (tuples sizes) (λ q. f (p ++ q))))

-- the sum over the tuples of a representation
over-tuples : (n k : ℕ) (f : List ℕ → ℚ) → over_tuples n k f ≡ sum ring_ℚ.semiring (tuples (replicate k n)) f
over-tuples n zero f = sym (sum-one ring_ℚ.semiring [] f)
over-tuples n (suc k) f =
    below-same ring_ℚ.semiring n (λ i. over_tuples n k (λ p. f (suc i ∷ p))) (λ i. sum ring_ℚ.semiring (tuples (replicate k n)) (λ p. f ((1 + i) ∷ p))) (λ i l. over-tuples n k (λ p. f (suc i ∷ p)) ∙ ap (λ a. sum ring_ℚ.semiring (tuples (replicate k n)) (λ p. f (a ∷ p))) (omega arith))
    ∙ sym (sum-range ring_ℚ.semiring 1 n (λ a. sum ring_ℚ.semiring (tuples (replicate k n)) (λ p. f (a ∷ p))))
    ∙ sym (tuples-cons n (replicate k n) f)

-- the identity leaves one summand
sum-same_as : (sizes p : List ℕ) (f : List ℕ → ℚ) → AreIn sizes p → sum ring_ℚ.semiring (tuples sizes) (λ t. same p t *ℚ f t) ≡ f p
sum-same_as [] [] f h = sum-one ring_ℚ.semiring [] (λ t. same [] t *ℚ f t) ∙ one-*ℚ (f [])
sum-same_as [] (a ∷ p) f h = absurd h
sum-same_as (n ∷ sizes) [] f h = absurd h
sum-same_as (n ∷ sizes) (a ∷ p) f h =
    tuples-cons n sizes (λ t. same (a ∷ p) t *ℚ f t)
    ∙ ap (sum ring_ℚ.semiring (range_with_len 1 n)) (fun_ext (λ b.
    ap (sum ring_ℚ.semiring (tuples sizes)) (fun_ext (λ t. *ℚ_assoc (delta a b) (same p t) (f (b ∷ t))))
    ∙ sum-mul ring_ℚ.semiring (delta a b) (tuples sizes) (λ t. same p t *ℚ f (b ∷ t))
    ∙ ap (λ k. delta a b *ℚ k) (sum-same_as sizes p (λ t. f (b ∷ t)) h.1)))
    ∙ sum-value n a (λ b. delta a b *ℚ f (b ∷ p)) h.0.0 h.0.1 (λ b apart. ap (λ k. k *ℚ f (b ∷ p)) (delta_apart a b apart) ∙ zero-*ℚ (f (b ∷ p)))
    ∙ ap (λ k. k *ℚ f (a ∷ p)) (delta_same a) ∙ one-*ℚ (f (a ∷ p))

-- ---- matrices

-- the product of two matrices on tuples
abbrev pub product_on : List ℕ → Operator → Operator → Operator
product_on sizes A B p q = sum ring_ℚ.semiring (tuples sizes) (λ t. A p t *ℚ B t q)

-- one matrix on the first k slots, times another on the others
abbrev pub joined : ℕ → Operator → Operator → Operator
joined k A B p q = A (take k p) (take k q) *ℚ B (drop k p) (drop k q)

-- the two parts of a joined tuple
front : (n k : ℕ) (t u : List ℕ) → AreIn (replicate k n) t → take k (t ++ u) ≡ t
front n zero [] u h = refl
front n zero (a ∷ t) u h = absurd h
front n (suc k) [] u h = absurd h
front n (suc k) (a ∷ t) u h = ap (λ p. a ∷ p) (front n k t u h.1)

back : (n k : ℕ) (t u : List ℕ) → AreIn (replicate k n) t → drop k (t ++ u) ≡ u
back n zero [] u h = refl
back n zero (a ∷ t) u h = absurd h
back n (suc k) [] u h = absurd h
back n (suc k) (a ∷ t) u h = back n k t u h.1

-- products of such matrices are products of their parts
product-joined : (n k : ℕ) (sizes : List ℕ) (A B C D : Operator) (p q : List ℕ)
    → product_on (replicate k n ++ sizes) (joined k A B) (joined k C D) p q ≡ joined k (product_on (replicate k n) A C) (product_on sizes B D) p q
product-joined n k sizes A B C D p q =
    let at = λ (t u : List ℕ). (A (take k p) t *ℚ B (drop k p) u) *ℚ (C t (take k q) *ℚ D u (drop k q)) in
    tuples-joined n k sizes (λ t. joined k A B p t *ℚ joined k C D t q)
    ∙ tuples-same (replicate k n) _ (λ t. sum ring_ℚ.semiring (tuples sizes) (λ u. (A (take k p) t *ℚ C t (take k q)) *ℚ (B (drop k p) u *ℚ D u (drop k q)))) (λ t h.
    ap (sum ring_ℚ.semiring (tuples sizes)) (fun_ext (λ u.
    ap₂ at (front n k t u h) (back n k t u h) ∙ pairs_across ring_ℚ (A (take k p) t) (B (drop k p) u) (C t (take k q)) (D u (drop k q)))))
    ∙ sym (sum_mul_sum ring_ℚ.semiring (tuples (replicate k n)) (tuples sizes) (λ t. A (take k p) t *ℚ C t (take k q)) (λ u. B (drop k p) u *ℚ D u (drop k q)))

-- ---- on the slots of a group

-- the product on each representation
abbrev pub products : Matrices → Matrices → Matrices
products M N rep n = product rep n (M rep n) (N rep n)

-- a product of matrices on one group is the product on it
pub on_group-product : (M N : Matrices) (groups : List Group) (reps : List Rep) (place : ℕ) (p q : List ℕ) → AreIn (slot_sizes groups reps) p
    → product_on (slot_sizes groups reps) (on_group M groups reps place) (on_group N groups reps place) p q ≡ on_group (products M N) groups reps place p q
on_group-product M N [] reps place p q h = sum-one ring_ℚ.semiring [] (λ _. zero_ℚ *ℚ zero_ℚ) ∙ zero-*ℚ zero_ℚ
on_group-product M N (group ∷ groups) [] place p q h = sum-one ring_ℚ.semiring [] (λ _. zero_ℚ *ℚ zero_ℚ) ∙ zero-*ℚ zero_ℚ
on_group-product M N (group ∷ groups) (rep ∷ reps) zero p q h =
    let n = group.n in
    let m = slots rep in
    let sizes = slot_sizes groups reps in
    product-joined n m sizes (M rep n) same (N rep n) same p q
    ∙ ap₂ ◌*ℚ◌ (sym (over-tuples n m (λ t. M rep n (take m p) t *ℚ N rep n t (take m q)))) (sum-same_as sizes (drop m p) (λ t. same t (drop m q)) (are_others n m sizes p h))
on_group-product M N (group ∷ groups) (rep ∷ reps) (suc place) p q h =
    let n = group.n in
    let m = slots rep in
    let sizes = slot_sizes groups reps in
    product-joined n m sizes same (on_group M groups reps place) same (on_group N groups reps place) p q
    ∙ ap₂ ◌*ℚ◌ (sum-same_as (replicate m n) (take m p) (λ t. same t (take m q)) (are_first n m sizes p h)) (on_group-product M N groups reps place (drop m p) (drop m q) (are_others n m sizes p h))
