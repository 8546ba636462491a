-- The dense traces over components are products of dimensions.
use Rattle.std.specs.Str.{bytes_eq}
use Rattle.std.proofs.Common.{◌≡◌, ℕ, zero, suc, ◌+◌, ◌*◌, ◌≤◌, true, List, [], ◌∷◌, ◌++◌, map, length, take, drop, replicate, refl, sym, subst, ap, ap₂, ◌∙◌, arith, pos, cond, Bool, false, inl, inr}
use Rattle.std.specs.Prelude.{⊤, ◌⊎◌, ◌&&◌, ◌==◌}
use Rattle.std.proofs.lemmas.Bool.Decides.{nat_tests}
use Rattle.std.specs.List.{flat_map, range_with_len}
use Rattle.std.proofs.Math.Seq.{take-append_seam}
use Rattle.std.proofs.lemmas.Slice.Eq.{bytes_eq-Decides}
use mathlib.Core.Path.{fun_ext}
use Rattle.exact_algebra.specs.Sums.{sum, Each, sum-same_on, sum-flat_map, sum-map, sum-one, sum-append, sum-mul, sum-mul_right, below-same, below-mul}
use Rattle.exact_algebra.specs.Ranges.{sum-range}
use Rattle.frac128.specs.Rational.{ℚ, whole, zero_ℚ, one_ℚ, ◌*ℚ◌, ◌+ℚ◌}
use Rattle.frac128.specs.RationalLaws.{ring_ℚ, *ℚ-one, *ℚ_comm, *ℚ_assoc}
use Rattle.frac128.specs.Whole.{whole-mul, whole-add, counted}
use Rattle.su_reps.specs.declared.rep.Rep.{Rep}
use Rattle.su_reps.specs.declared.rep.Rep.TheVariants.{Singlet}
use Rattle.su_reps.specs.Laws.{Dimension}
use Rattle.su_reps.specs.Tuples.{slots, projector}
use Rattle.su_reps.specs.Operators.{over_values, over_tuples, dimension}
use Rattle.su_reps.proofs.GroupNumbers.{dimension_law}
use Rattle.model_core.specs.declared.group.Group.{Group}
use Rattle.model_core.specs.declared.field.Field.{Field}
use Rattle.model_core.specs.Component.{slot_sizes, tuples, Component, copies_of, components_of, projector_over, projector_at, same_side, are_copies, trace_over}
use Rattle.model_core.specs.Multiplet.{dimensions, field_size, fermion_copies, scalar_copies}
use Rattle.exact_algebra.specs.Ring.{add_mul}
use Rattle.model_core.specs.Scalar.{coordinates_of}

-- ---- sums over tuples

-- the sum over all values of one slot more
over_slot : (n : ℕ) (f : ℕ → ℚ) → sum ring_ℚ.semiring (range_with_len 1 n) f ≡ over_values n f
over_slot n f = sum-range ring_ℚ.semiring 1 n f ∙ below-same ring_ℚ.semiring n (λ i. f (1 + i)) (λ i. f (suc i)) (λ i l. ap f (omega arith))

-- the tuples of k slots of one size, and then of others
pub sum-tuples : (n k : ℕ) (sizes : List ℕ) (f : List ℕ → ℚ)
    → sum ring_ℚ.semiring (tuples (replicate k n ++ sizes)) f ≡ over_tuples n k (λ p. sum ring_ℚ.semiring (tuples sizes) (λ q. f (p ++ q)))
sum-tuples n zero sizes f = refl
sum-tuples n (suc k) sizes f =
    sum-flat_map ring_ℚ.semiring (λ a. map (λ p. a ∷ p) (tuples (replicate k n ++ sizes))) (range_with_len 1 n) f
    ∙ ap (sum ring_ℚ.semiring (range_with_len 1 n)) (fun_ext (λ a. sum-map ring_ℚ.semiring (λ p. a ∷ p) (tuples (replicate k n ++ sizes)) f ∙ sum-tuples n k sizes (λ p. f (a ∷ p))))
    ∙ over_slot n (λ a. over_tuples n k (λ p. sum ring_ℚ.semiring (tuples sizes) (λ q. f (a ∷ (p ++ q)))))

over_tuples-same : (n k : ℕ) (f g : List ℕ → ℚ) → ((p : List ℕ) → length p ≡ k → f p ≡ g p) → over_tuples n k f ≡ over_tuples n k g
over_tuples-same n zero f g same = same [] refl
over_tuples-same n (suc k) f g same =
    below-same ring_ℚ.semiring n _ _ (λ i l. over_tuples-same n k (λ p. f (suc i ∷ p)) (λ p. g (suc i ∷ p)) (λ p e. same (suc i ∷ p) (ap suc e)))

over_tuples-mul : (n k : ℕ) (f : List ℕ → ℚ) (c : ℚ) → over_tuples n k (λ p. c *ℚ f p) ≡ c *ℚ over_tuples n k f
over_tuples-mul n zero f c = refl
over_tuples-mul n (suc k) f c =
    ap (over_values n) (fun_ext (λ a. over_tuples-mul n k (λ p. f (a ∷ p)) c)) ∙ below-mul ring_ℚ.semiring n c (λ i. over_tuples n k (λ p. f (suc i ∷ p)))

over_tuples-mul_right : (n k : ℕ) (f : List ℕ → ℚ) (c : ℚ) → over_tuples n k (λ p. f p *ℚ c) ≡ over_tuples n k f *ℚ c
over_tuples-mul_right n k f c =
    ap (over_tuples n k) (fun_ext (λ p. *ℚ_comm (f p) c)) ∙ over_tuples-mul n k f c ∙ *ℚ_comm c (over_tuples n k f)

-- ---- projectors

-- the first slots' projector on a joined tuple with itself
first_slots : (rep : Rep) (n : ℕ) (p q : List ℕ) → length p ≡ slots rep
    → projector rep n (take (slots rep) (p ++ q)) (take (slots rep) (p ++ q)) ≡ projector rep n p p
first_slots rep n p q e =
    let front : take (slots rep) (p ++ q) ≡ p = ap (λ k. take k (p ++ q)) (sym e) ∙ take-append_seam p q in
    ap (λ t. projector rep n t t) front

drop-append_seam : (p q : List ℕ) → drop (length p) (p ++ q) ≡ q
drop-append_seam [] q = refl
drop-append_seam (a ∷ p) q = drop-append_seam p q

other_slots : (rep : Rep) (groups : List Group) (reps : List Rep) (p q : List ℕ) → length p ≡ slots rep
    → projector_over groups reps (drop (slots rep) (p ++ q)) (drop (slots rep) (p ++ q)) ≡ projector_over groups reps q q
other_slots rep groups reps p q e =
    let back : drop (slots rep) (p ++ q) ≡ q = ap (λ k. drop k (p ++ q)) (sym e) ∙ drop-append_seam p q in
    ap (λ t. projector_over groups reps t t) back

-- for each group n is 2 or more, or the representation is the singlet, whose projector is 1
abbrev pub AreSpecial : List Group → List Rep → Type 0
AreSpecial (group ∷ groups) (rep ∷ reps) = ((2 ≤ group.n) ⊎ (rep ≡ Singlet)) × AreSpecial groups reps
AreSpecial _ _ = ⊤

-- the dimension is the trace of the projector
slots_trace : (rep : Rep) (n : ℕ) → (2 ≤ n) ⊎ (rep ≡ Singlet) → Dimension rep n
slots_trace rep n (inl large) = dimension_law rep n large
slots_trace rep n (inr is) = subst (λ r. Dimension r n) (sym is) refl

-- the trace of a field's projector over its tuples
pub projector_trace : (groups : List Group) (reps : List Rep) → AreSpecial groups reps
    → sum ring_ℚ.semiring (tuples (slot_sizes groups reps)) (λ p. projector_over groups reps p p) ≡ whole (pos (dimensions groups reps))
projector_trace [] reps special = sum-one ring_ℚ.semiring [] (λ _. one_ℚ)
projector_trace (group ∷ groups) [] special = sum-one ring_ℚ.semiring [] (λ _. one_ℚ)
projector_trace (group ∷ groups) (rep ∷ reps) special =
    let n = group.n in
    let rest = whole (pos (dimensions groups reps)) in
    sum-tuples n (slots rep) (slot_sizes groups reps) (λ t. projector_over (group ∷ groups) (rep ∷ reps) t t)
    ∙ over_tuples-same n (slots rep) _ (λ p. projector rep n p p *ℚ rest) (λ p e.
    ap (sum ring_ℚ.semiring (tuples (slot_sizes groups reps))) (fun_ext (λ q. ap₂ ◌*ℚ◌ (first_slots rep n p q e) (other_slots rep groups reps p q e)))
    ∙ sum-mul ring_ℚ.semiring (projector rep n p p) (tuples (slot_sizes groups reps)) (λ q. projector_over groups reps q q)
    ∙ ap (λ s. projector rep n p p *ℚ s) (projector_trace groups reps special.1))
    ∙ over_tuples-mul_right n (slots rep) (λ p. projector rep n p p) rest
    ∙ ap (λ s. s *ℚ rest) (slots_trace rep n special.0)
    ∙ sym (whole-mul (dimension rep n) (dimensions groups reps))

-- ---- traces over components

own_side : (b : Bool) → same_side b b ≡ true
own_side true = refl
own_side false = refl

same_copies : (c : Component) → are_copies c c ≡ true
same_copies c =
    let side : same_side c.conj c.conj ≡ true = own_side c.conj in
    let name : bytes_eq c.field.name c.field.name ≡ true = grind (arith, bytes_eq-Decides) in
    let generation : (c.generation == c.generation) ≡ true = grind (arith, nat_tests) in
    ap₂ ◌&&◌ (ap₂ ◌&&◌ name side) generation

own_projector : (groups : List Group) (c : Component) → projector_at groups c c ≡ projector_over groups c.field.reps c.values c.values
own_projector groups c = ap (λ b. cond b (projector_over groups c.field.reps c.values c.values) zero_ℚ) (same_copies c)

-- the same summand n times
sum-constant : (a n : ℕ) (x : ℚ) → sum ring_ℚ.semiring (range_with_len a n) (λ _. x) ≡ whole (pos n) *ℚ x
sum-constant a n x =
    sum-range ring_ℚ.semiring a n (λ _. x)
    ∙ below-same ring_ℚ.semiring n (λ _. x) (λ _. x *ℚ one_ℚ) (λ i l. sym (*ℚ-one x))
    ∙ below-mul ring_ℚ.semiring n x (λ _. one_ℚ)
    ∙ ap (λ k. x *ℚ k) (counted n)
    ∙ *ℚ_comm x (whole (pos n))

-- a matrix that is one number on the components of each field
pub field_trace : (conj : Bool) (groups : List Group) (field : Field) (number : Field → ℚ) → AreSpecial groups field.reps
    → trace_over groups (copies_of conj groups field) (λ c. number c.field) ≡ whole (pos (field_size groups field)) *ℚ number field
field_trace conj groups field number special =
    let x = number field in
    let size = whole (pos (dimensions groups field.reps)) in
    sum-flat_map ring_ℚ.semiring _ (range_with_len 1 field.generations) _
    ∙ ap (sum ring_ℚ.semiring (range_with_len 1 field.generations)) (fun_ext (λ g.
    sum-map ring_ℚ.semiring (λ p. record { field = field; conj = conj; generation = g; values = p }) (tuples (slot_sizes groups field.reps)) (λ c. projector_at groups c c *ℚ number c.field)
    ∙ ap (sum ring_ℚ.semiring (tuples (slot_sizes groups field.reps))) (fun_ext (λ p. ap (λ k. k *ℚ x) (own_projector groups (record { field = field; conj = conj; generation = g; values = p }))))
    ∙ sum-mul_right ring_ℚ.semiring x (tuples (slot_sizes groups field.reps)) (λ p. projector_over groups field.reps p p)
    ∙ ap (λ k. k *ℚ x) (projector_trace groups field.reps special)))
    ∙ sum-constant 1 field.generations (size *ℚ x)
    ∙ sym (*ℚ_assoc (whole (pos field.generations)) size x)
    ∙ ap (λ k. k *ℚ x) (sym (whole-mul field.generations (dimensions groups field.reps)))

one_times : (n : ℕ) → 1 * n ≡ n
one_times n = omega arith

-- over the coordinates of a scalar: as often as it has copies
pub scalar_trace : (groups : List Group) (field : Field) (number : Field → ℚ) → AreSpecial groups field.reps
    → trace_over groups (coordinates_of groups field) (λ c. number c.field) ≡ whole (pos (scalar_copies field * field_size groups field)) *ℚ number field
scalar_trace groups field number special = by_kind field.real refl
  where
    by_kind : (real : Bool) → field.real ≡ real → trace_over groups (coordinates_of groups field) (λ c. number c.field) ≡ whole (pos (scalar_copies field * field_size groups field)) *ℚ number field
    by_kind true e =
        let once : scalar_copies field * field_size groups field ≡ field_size groups field = ap (λ b. cond b 1 2 * field_size groups field) e ∙ omega arith in
        ap (λ b. trace_over groups (cond b (copies_of false groups field) (copies_of false groups field ++ copies_of true groups field)) (λ c. number c.field)) e
        ∙ field_trace false groups field number special ∙ ap (λ k. whole (pos k) *ℚ number field) (sym once)
    by_kind false e =
        let twice : scalar_copies field * field_size groups field ≡ field_size groups field + field_size groups field = ap (λ b. cond b 1 2 * field_size groups field) e ∙ omega arith in
        ap (λ b. trace_over groups (cond b (copies_of false groups field) (copies_of false groups field ++ copies_of true groups field)) (λ c. number c.field)) e
        ∙ sum-append ring_ℚ.semiring (copies_of false groups field) (copies_of true groups field) (λ c. projector_at groups c c *ℚ number c.field)
        ∙ ap₂ ◌+ℚ◌ (field_trace false groups field number special) (field_trace true groups field number special)
        ∙ sym (add_mul ring_ℚ.semiring (whole (pos (field_size groups field))) (whole (pos (field_size groups field))) (number field))
        ∙ ap (λ k. k *ℚ number field) (sym (whole-add (field_size groups field) (field_size groups field)) ∙ ap (λ k. whole (pos k)) (sym twice))

-- over the coordinates of all scalars
pub scalars_trace : (groups : List Group) (fields : List Field) (matrix : Component → ℚ) (number : Field → ℚ) → ((c : Component) → matrix c ≡ number c.field)
    → Each ring_ℚ.semiring (λ field. AreSpecial groups field.reps) fields
    → trace_over groups (flat_map (coordinates_of groups) fields) matrix ≡ sum ring_ℚ.semiring fields (λ field. whole (pos (scalar_copies field * field_size groups field)) *ℚ number field)
scalars_trace groups fields matrix number same special =
    ap (trace_over groups (flat_map (coordinates_of groups) fields)) (fun_ext same)
    ∙ sum-flat_map ring_ℚ.semiring (coordinates_of groups) fields (λ c. projector_at groups c c *ℚ number c.field)
    ∙ sum-same_on ring_ℚ.semiring (λ field. AreSpecial groups field.reps) fields _ _ special (λ field each. scalar_trace groups field number each)

-- over the components of all fermions
pub fields_trace : (groups : List Group) (fields : List Field) (matrix : Component → ℚ) (number : Field → ℚ) → ((c : Component) → matrix c ≡ number c.field)
    → Each ring_ℚ.semiring (λ field. AreSpecial groups field.reps) fields
    → trace_over groups (flat_map (components_of groups) fields) matrix ≡ sum ring_ℚ.semiring fields (λ field. whole (pos (fermion_copies field * field_size groups field)) *ℚ number field)
fields_trace groups fields matrix number same special =
    ap (trace_over groups (flat_map (components_of groups) fields)) (fun_ext same)
    ∙ sum-flat_map ring_ℚ.semiring (components_of groups) fields (λ c. projector_at groups c c *ℚ number c.field)
    ∙ sum-same_on ring_ℚ.semiring (λ field. AreSpecial groups field.reps) fields _ _ special
    (λ field each. field_trace false groups field number each ∙ ap (λ k. whole (pos k) *ℚ number field) (sym (one_times (field_size groups field))))
