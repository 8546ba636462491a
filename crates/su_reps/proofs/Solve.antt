-- The solver of sums over index values at the tuples of a representation. An identity is two expressions over names of
-- indices: the names 0 to 3 are four free indices, and the values of the two tuples have the names from 4 on.
use Rattle.std.proofs.Common.{◌≡◌, ℕ, zero, suc, ◌≤◌, arith, List, [], ◌∷◌, ◌++◌, length, pos, true}
use Rattle.exact_algebra.specs.Contraction.{contracted, value, named, settle, expand, is_proper, Expr}
use Rattle.exact_algebra.specs.Contraction.Expr.{◌⊕◌, opposite}
use Rattle.frac128.specs.Rational.{ℚ, whole, reciprocal}
use Rattle.frac128.specs.RationalLaws.{ring_ℚ}
use Rattle.su_reps.specs.declared.rep.Rep.{Rep}
use Rattle.su_reps.specs.Tuples.{slots, AreValues}
use Rattle.su_reps.specs.Laws.{AtPairs}
use Rattle.su_reps.proofs.IndexRange.{values_to}

-- ---- facts of all tuples

-- a fact of all tuples of k values, one value after another
abbrev pub ForTuples : ℕ → ℕ → (List ℕ → Type 0) → Type 0
ForTuples n zero F = F []
ForTuples n (suc k) F = (a : ℕ) → (1 ≤ a) × (a ≤ n) → ForTuples n k (λ p. F (a ∷ p))

pub at_tuple : (n k : ℕ) (F : List ℕ → Type 0) → ForTuples n k F → (p : List ℕ) → length p ≡ k → AreValues n p → F p
at_tuple n zero F f [] e v = f
at_tuple n zero F f (a ∷ p) e v = absurd (omega (arith, e))
at_tuple n (suc k) F f [] e v = absurd (omega (arith, e))
at_tuple n (suc k) F f (a ∷ p) e v = at_tuple n k (λ q. F (a ∷ q)) (f a v.0) p (omega (arith, e)) v.1

pub for_tuples : (n k : ℕ) (F : List ℕ → Type 0) → ((p : List ℕ) → AreValues n p → F p) → ForTuples n k F
for_tuples n zero F f = f [] tt
for_tuples n (suc k) F f = λ a v. for_tuples n k (λ p. F (a ∷ p)) (λ p w. f (a ∷ p) (v, w))

-- a fact of all pairs of tuples of a representation, from one value after another
pub at_pairs : (r : Rep) (n : ℕ) (F : List ℕ → List ℕ → Type 0) → ForTuples n (slots r) (λ p. ForTuples n (slots r) (λ q. F p q)) → AtPairs r n F
at_pairs r n F f p q v w = at_tuple n (slots r) (F p) (at_tuple n (slots r) (λ s. ForTuples n (slots r) (λ q. F s q)) f p v.count v.values) q w.count w.values

values-append : (n : ℕ) (p q : List ℕ) → AreValues n p → AreValues n q → AreValues n (p ++ q)
values-append n [] q v w = w
values-append n (a ∷ p) q v w = (v.0, values-append n p q v.1 w)

-- ---- identities

-- the numbers that an expression may name: 1/2, and 1/6 for tensors of rank three
abbrev pub numbers : List ℚ
numbers = reciprocal (whole (pos 2)) ∷ reciprocal (whole (pos 6)) ∷ []

-- the first names, as far as they are below `fixed`, are the values 1, 2, ..; no sum runs over them
abbrev pub IsProper : (n : ℕ) → 1 ≤ n → ℕ → Expr → Expr → Type 0
IsProper n h fixed s t = is_proper ring_ℚ (values_to n h) fixed numbers (s ⊕ opposite t) ≡ true

-- the expanded difference cancels
abbrev pub Cancels : (n : ℕ) → 1 ≤ n → ℕ → Expr → Expr → Type 0
Cancels n h fixed s t = settle (expand ring_ℚ (values_to n h) fixed numbers (s ⊕ opposite t)) ≡ []

-- both expressions have one value at the indices i, j, l, m and all pairs of tuples of k values
abbrev pub Agree : (n : ℕ) → 1 ≤ n → ℕ → Expr → Expr → ℕ → ℕ → ℕ → ℕ → Type 0
Agree n h k s t i j l m = ForTuples n k (λ p. ForTuples n k (λ q.
    value ring_ℚ (values_to n h) 0 numbers (named 0 0 (i ∷ j ∷ l ∷ m ∷ p ++ q)) s ≡ value ring_ℚ (values_to n h) 0 numbers (named 0 0 (i ∷ j ∷ l ∷ m ∷ p ++ q)) t))

-- with four free indices
pub solved : (n : ℕ) (h : 1 ≤ n) (k : ℕ) (s t : Expr) → IsProper n h 0 s t → Cancels n h 0 s t → (i j l m : ℕ) → AreValues n (i ∷ j ∷ l ∷ m ∷ []) → Agree n h k s t i j l m
solved n h k s t e f i j l m u =
    for_tuples n k _ (λ p v. for_tuples n k _ (λ q w.
    contracted ring_ℚ (values_to n h) 0 numbers h (omega arith) (i ∷ j ∷ l ∷ m ∷ p ++ q) (u.0, (u.1.0, (u.1.1.0, (u.1.1.1.0, values-append n p q v w)))) s t e f))

-- with two free indices
pub solved_pair : (n : ℕ) (h : 1 ≤ n) (k : ℕ) (s t : Expr) → IsProper n h 0 s t → Cancels n h 0 s t → (i j : ℕ) → AreValues n (i ∷ j ∷ []) → Agree n h k s t i j 1 1
solved_pair n h k s t e f i j u = solved n h k s t e f i j 1 1 (u.0, (u.1.0, ((omega arith, h), ((omega arith, h), tt))))

-- without free indices
pub solved_alone : (n : ℕ) (h : 1 ≤ n) (k : ℕ) (s t : Expr) → IsProper n h 0 s t → Cancels n h 0 s t → Agree n h k s t 1 1 1 1
solved_alone n h k s t e f = solved_pair n h k s t e f 1 1 ((omega arith, h), ((omega arith, h), tt))

-- an identity of numbers, without tuples; the names below `fixed` are the values 1, 2, .., all different
pub solved_number : (n : ℕ) (h : 1 ≤ n) (fixed : ℕ) → fixed ≤ n → (s t : Expr) → IsProper n h fixed s t → Cancels n h fixed s t
    → value ring_ℚ (values_to n h) fixed numbers (named fixed fixed []) s ≡ value ring_ℚ (values_to n h) fixed numbers (named fixed fixed []) t
solved_number n h fixed l s t e f = contracted ring_ℚ (values_to n h) fixed numbers h l [] tt s t e f
