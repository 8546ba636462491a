-- The X_ij of an SU(n) on the tuples of all slots of a field obey the Lie algebra.
use Rattle.std.proofs.Common.{◌≡◌, ℕ, zero, suc, ◌≤◌, List, [], ◌∷◌, take, drop, Some, refl, sym, subst, ap, ◌∙◌}
use Rattle.std.specs.Prelude.{slice_get}
use Rattle.exact_algebra.specs.Solver.{identity}
use Rattle.exact_algebra.specs.Solver.Term.{var, ◌⊕◌, ◌⊗◌, opposite}
use Rattle.exact_algebra.specs.Sums.{below, below-mul, below-mul_right, below-none}
use Rattle.frac128.specs.Rational.{ℚ, zero_ℚ, ◌+ℚ◌, ◌-ℚ◌, ◌*ℚ◌, neg_ℚ}
use Rattle.frac128.specs.RationalLaws.{ring_ℚ, *ℚ-zero, zero-*ℚ}
use Rattle.su_reps.specs.declared.rep.Rep.{Rep}
use Rattle.su_reps.specs.Tuples.{AreValues, IsTuple, action, delta, same, slots}
use Rattle.su_reps.specs.Operators.{product}
use Rattle.su_reps.proofs.ActionLaws.{commutators, diagonal_law}
use Rattle.model_core.specs.declared.group.Group.{Group}
use Rattle.model_core.specs.Component.{slot_sizes, tuples}
use Rattle.model_core.specs.Generators.{Matrices, on_group}
use Rattle.neighbour_laws.proofs.ActionSums.{nothing_times}
use Rattle.neighbour_laws.proofs.ListAlgebra.{Family, IsAlgebra, structure}
use Rattle.neighbour_laws.proofs.TupleProducts.{AreIn, are_first, are_others, are_values, in-tuples, on_group-product, products}

-- X_ij on each representation
abbrev pub entries : ℕ → ℕ → Matrices
entries i j rep n = action rep n i j

-- on the tuples of all slots
abbrev pub on_tuples : List Group → List Rep → ℕ → Family (List ℕ)
on_tuples groups reps place i j = on_group (entries i j) groups reps place

-- ---- regrouping

from_difference : (x y c s d t : ℚ) → x -ℚ y ≡ c *ℚ s -ℚ d *ℚ t → x ≡ y +ℚ (c *ℚ s +ℚ neg_ℚ d *ℚ t)
from_difference x y c s d t e =
    identity ring_ℚ (x ∷ y ∷ []) (var 0) (var 1 ⊕ (var 0 ⊕ opposite (var 1))) refl
    ∙ ap (λ k. y +ℚ k) e
    ∙ identity ring_ℚ (y ∷ c ∷ s ∷ d ∷ t ∷ []) (var 0 ⊕ (var 1 ⊗ var 2 ⊕ opposite (var 3 ⊗ var 4))) (var 0 ⊕ (var 1 ⊗ var 2 ⊕ opposite (var 3) ⊗ var 4)) refl

factor_right : (y c s d t f : ℚ) → (y +ℚ (c *ℚ s +ℚ d *ℚ t)) *ℚ f ≡ y *ℚ f +ℚ (c *ℚ (s *ℚ f) +ℚ d *ℚ (t *ℚ f))
factor_right y c s d t f =
    identity ring_ℚ (y ∷ c ∷ s ∷ d ∷ t ∷ f ∷ []) ((var 0 ⊕ (var 1 ⊗ var 2 ⊕ var 3 ⊗ var 4)) ⊗ var 5) (var 0 ⊗ var 5 ⊕ (var 1 ⊗ (var 2 ⊗ var 5) ⊕ var 3 ⊗ (var 4 ⊗ var 5))) refl

factor_left : (f y c s d t : ℚ) → f *ℚ (y +ℚ (c *ℚ s +ℚ d *ℚ t)) ≡ f *ℚ y +ℚ (c *ℚ (f *ℚ s) +ℚ d *ℚ (f *ℚ t))
factor_left f y c s d t =
    identity ring_ℚ (f ∷ y ∷ c ∷ s ∷ d ∷ t ∷ []) (var 0 ⊗ (var 1 ⊕ (var 2 ⊗ var 3 ⊕ var 4 ⊗ var 5))) (var 0 ⊗ var 1 ⊕ (var 2 ⊗ (var 0 ⊗ var 3) ⊕ var 4 ⊗ (var 0 ⊗ var 5))) refl

-- ---- on the slots of a group

-- the first slots have a tuple of their representation
first_tuple : (group : Group) (groups : List Group) (rep : Rep) (reps : List Rep) (p : List ℕ) → AreIn (slot_sizes (group ∷ groups) (rep ∷ reps)) p → IsTuple rep group.n (take (slots rep) p)
first_tuple group groups rep reps p h =
    let parts = are_values group.n (slots rep) (take (slots rep) p) (are_first group.n (slots rep) (slot_sizes groups reps) p h) in
    record { count = parts.0; values = parts.1 }

on_group-bracket : (groups : List Group) (reps : List Rep) (place : ℕ) (group : Group) → slice_get groups place ≡ Some group → 1 ≤ group.n
    → (i j l m : ℕ) → AreValues group.n (i ∷ j ∷ l ∷ m ∷ []) → (p q : List ℕ) → AreIn (slot_sizes groups reps) p → AreIn (slot_sizes groups reps) q
    → on_group (products (entries i j) (entries l m)) groups reps place p q
    ≡ on_group (products (entries l m) (entries i j)) groups reps place p q +ℚ structure (on_tuples groups reps place) i j l m p q
on_group-bracket [] reps place group found positive i j l m values p q h k = nothing_times (delta j l) (neg_ℚ (delta i m))
on_group-bracket (g ∷ groups) [] place group found positive i j l m values p q h k = nothing_times (delta j l) (neg_ℚ (delta i m))
on_group-bracket (g ∷ groups) (rep ∷ reps) zero group found positive i j l m values p q h k =
    let same_group : group ≡ g = cc in
    let n = g.n in
    let first = take (slots rep) p in
    let second = take (slots rep) q in
    let others = same (drop (slots rep) p) (drop (slots rep) q) in
    let turned = product rep n (action rep n l m) (action rep n i j) first second in
    let law = commutators rep n (subst (λ x. 1 ≤ x.n) same_group positive) i j l m (subst (λ x. AreValues x.n (i ∷ j ∷ l ∷ m ∷ [])) same_group values) first second (first_tuple g groups rep reps p h) (first_tuple g groups rep reps q k) in
    ap (λ x. x *ℚ others) (from_difference (product rep n (action rep n i j) (action rep n l m) first second) turned (delta j l) (action rep n i m first second) (delta i m) (action rep n l j first second) law)
    ∙ factor_right turned (delta j l) (action rep n i m first second) (neg_ℚ (delta i m)) (action rep n l j first second) others
on_group-bracket (g ∷ groups) (rep ∷ reps) (suc place) group found positive i j l m values p q h k =
    let sizes = slot_sizes groups reps in
    let count = slots rep in
    let first = same (take count p) (take count q) in
    let on = λ (M : Matrices). on_group M groups reps place (drop count p) (drop count q) in
    ap (λ x. first *ℚ x) (on_group-bracket groups reps place group found positive i j l m values (drop count p) (drop count q) (are_others g.n count sizes p h) (are_others g.n count sizes q k))
    ∙ factor_left first (on (products (entries l m) (entries i j))) (delta j l) (on (entries i m)) (neg_ℚ (delta i m)) (on (entries l j))

on_group-diagonal : (groups : List Group) (reps : List Rep) (place : ℕ) (group : Group) → slice_get groups place ≡ Some group → 1 ≤ group.n
    → (p q : List ℕ) → AreIn (slot_sizes groups reps) p → AreIn (slot_sizes groups reps) q → below ring_ℚ.semiring group.n (λ i. on_tuples groups reps place (suc i) (suc i) p q) ≡ zero_ℚ
on_group-diagonal [] reps place group found positive p q h k = below-none ring_ℚ.semiring group.n (λ i. zero_ℚ) (λ i l. refl)
on_group-diagonal (g ∷ groups) [] place group found positive p q h k = below-none ring_ℚ.semiring group.n (λ i. zero_ℚ) (λ i l. refl)
on_group-diagonal (g ∷ groups) (rep ∷ reps) zero group found positive p q h k =
    let same_group : group ≡ g = cc in
    let n = g.n in
    let first = take (slots rep) p in
    let second = take (slots rep) q in
    let others = same (drop (slots rep) p) (drop (slots rep) q) in
    ap (λ x. below ring_ℚ.semiring x.n (λ i. action rep n (suc i) (suc i) first second *ℚ others)) same_group
    ∙ below-mul_right ring_ℚ.semiring n others (λ i. action rep n (suc i) (suc i) first second)
    ∙ ap (λ x. x *ℚ others) (diagonal_law rep n (subst (λ x. 1 ≤ x.n) same_group positive) first second (first_tuple g groups rep reps p h) (first_tuple g groups rep reps q k))
    ∙ zero-*ℚ others
on_group-diagonal (g ∷ groups) (rep ∷ reps) (suc place) group found positive p q h k =
    let sizes = slot_sizes groups reps in
    let count = slots rep in
    let first = same (take count p) (take count q) in
    below-mul ring_ℚ.semiring group.n first (λ i. on_tuples groups reps place (suc i) (suc i) (drop count p) (drop count q))
    ∙ ap (λ x. first *ℚ x) (on_group-diagonal groups reps place group found positive (drop count p) (drop count q) (are_others g.n count sizes p h) (are_others g.n count sizes q k))
    ∙ *ℚ-zero first

-- the Lie algebra
pub tuple-algebra : (groups : List Group) (reps : List Rep) (place : ℕ) (group : Group) → slice_get groups place ≡ Some group → 1 ≤ group.n
    → IsAlgebra group.n (on_tuples groups reps place) (tuples (slot_sizes groups reps))
tuple-algebra groups reps place group found positive = record {
  bracket = λ i j l m values p q here there.
      let sizes = slot_sizes groups reps in
      let first = in-tuples sizes p here in
      on_group-product (entries i j) (entries l m) groups reps place p q first
      ∙ on_group-bracket groups reps place group found positive i j l m values p q first (in-tuples sizes q there)
      ∙ ap (λ s. s +ℚ structure (on_tuples groups reps place) i j l m p q) (sym (on_group-product (entries l m) (entries i j) groups reps place p q first));
  diagonal = λ p q here there. on_group-diagonal groups reps place group found positive p q (in-tuples (slot_sizes groups reps) p here) (in-tuples (slot_sizes groups reps) q there);
}
