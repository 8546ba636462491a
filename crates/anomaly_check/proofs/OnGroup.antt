-- Matrices on the slots of one group, times the identity on the slots of all others: their products, sums and traces.
use Rattle.std.proofs.Common.{◌≡◌, ℕ, zero, suc, ◌+◌, ◌*◌, ◌≤◌, List, [], ◌∷◌, take, drop, replicate, Some, refl, sym, subst, ap, ap₂, ◌∙◌, arith, pos, inl, inr}
use Rattle.std.specs.Prelude.{◌⊎◌, slice_get}
use mathlib.Core.Path.{fun_ext}
use Rattle.exact_algebra.specs.Sums.{sum, sum-mul, sum-one}
use Rattle.frac128.specs.Rational.{ℚ, whole, zero_ℚ, ◌+ℚ◌, ◌*ℚ◌}
use Rattle.frac128.specs.RationalLaws.{ring_ℚ, *ℚ_comm, *ℚ_assoc, zero-*ℚ, +ℚ-*ℚ, *ℚ-+ℚ, zero-+ℚ}
use Rattle.frac128.specs.Whole.{whole-mul}
use Rattle.su_reps.specs.declared.rep.Rep.{Rep}
use Rattle.su_reps.specs.declared.rep.Rep.TheVariants.{Singlet}
use Rattle.su_reps.specs.Laws.{Dimension}
use Rattle.su_reps.specs.Tuples.{slots, same, projector}
use Rattle.su_reps.specs.Operators.{Operator, product, trace, dimension}
use Rattle.su_reps.proofs.GroupNumbers.{dimension_law}
use Rattle.model_core.specs.declared.group.Group.{Group}
use Rattle.model_core.specs.Component.{slot_sizes, tuples, projector_over}
use Rattle.model_core.specs.Generators.{Matrices, on_group}
use Rattle.model_core.specs.Multiplet.{dimensions}
use Rattle.model_core.proofs.Traces.{AreSpecial, projector_trace}
use Rattle.anomaly_check.proofs.TupleSums.{Agree, are_first, are_others, joined, product-agree, product-joined, product-of_rep, product-same, product_on, same-product, trace-agree, trace-joined, trace-of_rep, trace_on}

-- ---- products

-- the product on each representation
abbrev pub products : Matrices → Matrices → Matrices
products M N rep n = product rep n (M rep n) (N rep n)

-- a product of matrices on one group is the product on it
pub on_group-product : (M N : Matrices) (groups : List Group) (reps : List Rep) (place : ℕ)
    → Agree (slot_sizes groups reps) (product_on (slot_sizes groups reps) (on_group M groups reps place) (on_group N groups reps place)) (on_group (products M N) groups reps place)
on_group-product M N [] reps place p q h k = sum-one ring_ℚ.semiring [] (λ _. zero_ℚ *ℚ zero_ℚ) ∙ zero-*ℚ zero_ℚ
on_group-product M N (group ∷ groups) [] place p q h k = sum-one ring_ℚ.semiring [] (λ _. zero_ℚ *ℚ zero_ℚ) ∙ zero-*ℚ zero_ℚ
on_group-product M N (group ∷ groups) (rep ∷ reps) zero p q h k =
    let n = group.n in
    let m = slots rep in
    let sizes = slot_sizes groups reps in
    product-joined n m sizes (M rep n) same (N rep n) same p q
    ∙ ap₂ ◌*ℚ◌ (sym (product-of_rep rep n (M rep n) (N rep n) (take m p) (take m q))) (same-product sizes same (drop m p) (drop m q) (are_others n m sizes p h) (are_others n m sizes q k))
on_group-product M N (group ∷ groups) (rep ∷ reps) (suc place) p q h k =
    let n = group.n in
    let m = slots rep in
    let sizes = slot_sizes groups reps in
    product-joined n m sizes same (on_group M groups reps place) same (on_group N groups reps place) p q
    ∙ ap₂ ◌*ℚ◌ (same-product (replicate m n) same (take m p) (take m q) (are_first n m sizes p h) (are_first n m sizes q k)) (on_group-product M N groups reps place (drop m p) (drop m q) (are_others n m sizes p h) (are_others n m sizes q k))

-- ---- sums

-- the sum on each representation
abbrev pub sums : Matrices → Matrices → Matrices
sums M N rep n p q = M rep n p q +ℚ N rep n p q

-- a sum of matrices on one group is the sum on it
pub on_group-sum : (M N : Matrices) (groups : List Group) (reps : List Rep) (place : ℕ) (p q : List ℕ)
    → on_group M groups reps place p q +ℚ on_group N groups reps place p q ≡ on_group (sums M N) groups reps place p q
on_group-sum M N [] reps place p q = zero-+ℚ zero_ℚ
on_group-sum M N (group ∷ groups) [] place p q = zero-+ℚ zero_ℚ
on_group-sum M N (group ∷ groups) (rep ∷ reps) zero p q =
    let m = slots rep in
    sym (+ℚ-*ℚ (M rep group.n (take m p) (take m q)) (N rep group.n (take m p) (take m q)) (same (drop m p) (drop m q)))
on_group-sum M N (group ∷ groups) (rep ∷ reps) (suc place) p q =
    let m = slots rep in
    sym (*ℚ-+ℚ (same (take m p) (take m q)) (on_group M groups reps place (drop m p) (drop m q)) (on_group N groups reps place (drop m p) (drop m q)))
    ∙ ap (λ s. same (take m p) (take m q) *ℚ s) (on_group-sum M N groups reps place (drop m p) (drop m q))

-- ---- traces

-- the product of the dimensions under the other groups
abbrev pub others : List Group → List Rep → ℕ → ℕ
others groups reps place = dimensions (take place groups) (take place reps) * dimensions (drop (place + 1) groups) (drop (place + 1) reps)

-- the trace of a matrix with the projector, on one representation
abbrev pub projected : Matrices → Rep → ℕ → ℚ
projected M rep n = trace rep n (product rep n (projector rep n) (M rep n))

-- and over the tuples of all slots
abbrev pub traced : List Group → List Rep → Operator → ℚ
traced groups reps A = trace_on (slot_sizes groups reps) (product_on (slot_sizes groups reps) (projector_over groups reps) A)

-- the same of matrices that agree
pub traced-agree : (groups : List Group) (reps : List Rep) (A B : Operator) → Agree (slot_sizes groups reps) A B → traced groups reps A ≡ traced groups reps B
traced-agree groups reps A B agree =
    let sizes = slot_sizes groups reps in
    trace-agree sizes (product_on sizes (projector_over groups reps) A) (product_on sizes (projector_over groups reps) B)
    (product-agree sizes (projector_over groups reps) (projector_over groups reps) A B (λ p q h k. refl) agree)

-- of the identity it is the number of independent components
pub traced-same : (groups : List Group) (reps : List Rep) → AreSpecial groups reps → traced groups reps same ≡ whole (pos (dimensions groups reps))
traced-same groups reps special =
    let sizes = slot_sizes groups reps in
    trace-agree sizes (product_on sizes (projector_over groups reps) same) (projector_over groups reps) (product-same sizes (projector_over groups reps))
    ∙ projector_trace groups reps special

-- of the identity on one representation it is the dimension
rep_trace : (rep : Rep) (n : ℕ) → (2 ≤ n) ⊎ (rep ≡ Singlet) → trace_on (replicate (slots rep) n) (product_on (replicate (slots rep) n) (projector rep n) same) ≡ whole (pos (dimension rep n))
rep_trace rep n special =
    let sizes = replicate (slots rep) n in
    trace-agree sizes (product_on sizes (projector rep n) same) (projector rep n) (product-same sizes (projector rep n))
    ∙ sym (trace-of_rep rep n (projector rep n)) ∙ slots_trace special
  where
    slots_trace : (2 ≤ n) ⊎ (rep ≡ Singlet) → Dimension rep n
    slots_trace (inl large) = dimension_law rep n large
    slots_trace (inr is) = subst (λ r. Dimension r n) (sym is) refl

-- the trace on one representation over its slots
projected-is : (M : Matrices) (rep : Rep) (n : ℕ) → trace_on (replicate (slots rep) n) (product_on (replicate (slots rep) n) (projector rep n) (M rep n)) ≡ projected M rep n
projected-is M rep n =
    let sizes = replicate (slots rep) n in
    ap (sum ring_ℚ.semiring (tuples sizes)) (fun_ext (λ p. sym (product-of_rep rep n (projector rep n) (M rep n) p p)))
    ∙ sym (trace-of_rep rep n (product rep n (projector rep n) (M rep n)))

-- the first group apart
traced-joined : (group : Group) (groups : List Group) (rep : Rep) (reps : List Rep) (A B : Operator)
    → traced (group ∷ groups) (rep ∷ reps) (joined (slots rep) A B) ≡ trace_on (replicate (slots rep) group.n) (product_on (replicate (slots rep) group.n) (projector rep group.n) A) *ℚ traced groups reps B
traced-joined group groups rep reps A B =
    let n = group.n in
    let m = slots rep in
    let sizes = slot_sizes groups reps in
    ap (sum ring_ℚ.semiring (tuples (slot_sizes (group ∷ groups) (rep ∷ reps)))) (fun_ext (λ p. product-joined n m sizes (projector rep n) (projector_over groups reps) A B p p))
    ∙ trace-joined n m sizes (product_on (replicate m n) (projector rep n) A) (product_on sizes (projector_over groups reps) B)

pub one_times : (n : ℕ) → 1 * n ≡ n
one_times n = omega arith

regroup : (a b c : ℕ) → a * (b * c) ≡ a * b * c
regroup a b c = grind arith

-- of a matrix on one group it is the trace on the representation, as often as the other groups have dimensions
pub traced-on_group : (M : Matrices) (groups : List Group) (reps : List Rep) (place : ℕ) (group : Group) (rep : Rep) → slice_get groups place ≡ Some group → slice_get reps place ≡ Some rep → AreSpecial groups reps
    → traced groups reps (on_group M groups reps place) ≡ whole (pos (others groups reps place)) *ℚ projected M rep group.n
traced-on_group M [] reps place group rep found given special = let never : ⊥ = cc in absurd never
traced-on_group M (g ∷ groups) [] place group rep found given special = let never : ⊥ = cc in absurd never
traced-on_group M (g ∷ groups) (r ∷ reps) zero group rep found given special =
    let same_group : g ≡ group = cc in
    let same_rep : r ≡ rep = cc in
    traced-joined g groups r reps (M r g.n) same
    ∙ ap₂ ◌*ℚ◌ (projected-is M r g.n) (traced-same groups reps special.1)
    ∙ *ℚ_comm (projected M r g.n) (whole (pos (dimensions groups reps)))
    ∙ ap₂ (λ s h. whole (pos (dimensions groups reps)) *ℚ projected M s h.n) same_rep same_group
    ∙ ap (λ k. whole (pos k) *ℚ projected M rep group.n) (sym (one_times (dimensions groups reps)))
traced-on_group M (g ∷ groups) (r ∷ reps) (suc place) group rep found given special =
    let more : suc place + 1 ≡ suc (place + 1) = omega arith in
    let size = dimension r g.n in
    let before = dimensions (take place groups) (take place reps) in
    let after = dimensions (drop (place + 1) groups) (drop (place + 1) reps) in
    traced-joined g groups r reps same (on_group M groups reps place)
    ∙ ap₂ ◌*ℚ◌ (rep_trace r g.n special.0) (traced-on_group M groups reps place group rep found given special.1)
    ∙ sym (*ℚ_assoc (whole (pos size)) (whole (pos (before * after))) (projected M rep group.n))
    ∙ ap (λ k. k *ℚ projected M rep group.n) (sym (whole-mul size (before * after)) ∙ ap (λ k. whole (pos k)) (regroup size before after))
    ∙ ap (λ k. whole (pos (size * before * dimensions (drop k (g ∷ groups)) (drop k (r ∷ reps)))) *ℚ projected M rep group.n) (sym more)

-- ---- a number times a matrix

abbrev pub scaled : ℚ → Operator → Operator
scaled c A p q = c *ℚ A p q

-- a factor moves out of a product
scale_out : (c x y : ℚ) → x *ℚ (c *ℚ y) ≡ c *ℚ (x *ℚ y)
scale_out c x y = sym (*ℚ_assoc x c y) ∙ ap (λ k. k *ℚ y) (*ℚ_comm x c) ∙ *ℚ_assoc c x y

-- it is a factor of the trace
pub traced-scaled : (groups : List Group) (reps : List Rep) (c : ℚ) (A : Operator) → traced groups reps (scaled c A) ≡ c *ℚ traced groups reps A
traced-scaled groups reps c A =
    let sizes = slot_sizes groups reps in
    ap (sum ring_ℚ.semiring (tuples sizes)) (fun_ext (λ p.
    ap (sum ring_ℚ.semiring (tuples sizes)) (fun_ext (λ t. scale_out c (projector_over groups reps p t) (A t p)))
    ∙ sum-mul ring_ℚ.semiring c (tuples sizes) (λ t. projector_over groups reps p t *ℚ A t p)))
    ∙ sum-mul ring_ℚ.semiring c (tuples sizes) (λ p. product_on sizes (projector_over groups reps) A p p)

-- a number times the identity multiplies a matrix by it
pub scaled-product : (sizes : List ℕ) (c : ℚ) (A : Operator) → Agree sizes (product_on sizes (scaled c same) A) (scaled c A)
scaled-product sizes c A p q h k =
    ap (sum ring_ℚ.semiring (tuples sizes)) (fun_ext (λ t. *ℚ_assoc c (same p t) (A t q)))
    ∙ sum-mul ring_ℚ.semiring c (tuples sizes) (λ t. same p t *ℚ A t q)
    ∙ ap (λ k. c *ℚ k) (same-product sizes A p q h k)
