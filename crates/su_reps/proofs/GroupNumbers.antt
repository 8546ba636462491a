-- The group numbers are the traces, and the Casimir operator is a number times the projector, for all n.
use Rattle.std.proofs.Common.{◌≡◌, ℕ, ◌+◌, ◌*◌, ◌-◌, ◌/◌, ◌<◌, ◌≤◌, refl, sym, ◌∙◌, ap, ap₂, arith, pos, ℤ}
use Rattle.std.specs.Prelude.{neg_ℤ, ◌-ℤ◌}
use Rattle.std.proofs.lemmas.Int.{ints}
use native.Mathlib.Nat.{mul-pos}
use Rattle.exact_algebra.specs.Contraction.{Expr}
use Rattle.exact_algebra.specs.Contraction.Expr.{nought, single, count, share, ◌⊕◌, ◌⊗◌, opposite}
use Rattle.frac128.specs.Rational.{ℚ, whole, zero_ℚ, one_ℚ, ◌+ℚ◌, ◌-ℚ◌, ◌*ℚ◌, ◌/ℚ◌, neg_ℚ, reciprocal}
use Rattle.frac128.specs.RationalLaws.{zero-*ℚ, *ℚ_assoc, *ℚ_comm}
use Rattle.frac128.specs.Whole.{whole-add, whole-mul, whole-sub, whole-+ℤ, whole-neg, two, four, over_one, reciprocal-mul, even_product, whole-half, half_and_half, half_of_product}
use Rattle.su_reps.specs.declared.rep.Rep.{Rep}
use Rattle.su_reps.specs.declared.rep.Rep.TheVariants.{Singlet, Fund, Conj, Adjoint, Sym2, Sym2Conj, Anti2, Anti2Conj}
use Rattle.su_reps.specs.Operators.{P, square_sum, casimir, cubic, fraction}
use Rattle.su_reps.specs.Laws.{AtPairs, Dimension, Casimir, DoubledIndex, Index, Cubic, ConjugateNumbers}
use Rattle.su_reps.proofs.Shapes.{x_at, x_P, x_trace, x_square_sum, x_index_trace, x_cubic_trace, x_doubled_index, x_cubic, half, x_two}
use Rattle.su_reps.proofs.Solve.{at_pairs, solved_alone, solved_number}

-- ---- the dimension is the trace of the projector

pub square_less_one : (n : ℕ) → 2 ≤ n → whole (pos (n * n - 1)) ≡ whole (pos n) *ℚ whole (pos n) -ℚ one_ℚ
square_less_one n h =
    let positive : 0 < n = omega arith in
    let square : 0 < n * n = mul-pos positive positive in
    whole-sub (n * n) 1 (omega arith) ∙ ap (λ k. k -ℚ one_ℚ) (whole-mul n n)

pub sym2_dimension : (n : ℕ) → whole (pos n) *ℚ (whole (pos n) +ℚ one_ℚ) /ℚ whole (pos 2) ≡ whole (pos (n * (n + 1) / 2))
sym2_dimension n =
    let even = even_product n in
    sym (whole-half (n * (n + 1)) even.0 even.1 ∙ ap (λ k. k /ℚ whole (pos 2)) (whole-mul n (n + 1) ∙ ap (λ k. whole (pos n) *ℚ k) (whole-add n 1)))

anti2_even : (n : ℕ) → 2 ≤ n → (k : ℕ) × (n * (n - 1) ≡ k + k)
anti2_even n h =
    let even = even_product (n - 1) in
    let back : n - 1 + 1 ≡ n = omega arith in
    (even.0, omega (arith, even.1, ap (λ k. (n - 1) * k) back))

pub anti2_dimension : (n : ℕ) → 2 ≤ n → whole (pos n) *ℚ (whole (pos n) -ℚ one_ℚ) /ℚ whole (pos 2) ≡ whole (pos (n * (n - 1) / 2))
anti2_dimension n h =
    let even = anti2_even n h in
    sym (whole-half (n * (n - 1)) even.0 even.1 ∙ ap (λ k. k /ℚ whole (pos 2)) (whole-mul n (n - 1) ∙ ap (λ k. whole (pos n) *ℚ k) (whole-sub n 1 (omega arith))))

abbrev projector_trace : Rep → Expr
projector_trace r = x_trace r (x_P r)

pub dimension_law : (r : Rep) (n : ℕ) → 2 ≤ n → Dimension r n
dimension_law Singlet n h = solved_number n (omega arith) 0 (omega arith) (projector_trace Singlet) single refl refl
dimension_law Fund n h = solved_number n (omega arith) 0 (omega arith) (projector_trace Fund) count refl refl
dimension_law Conj n h = solved_number n (omega arith) 0 (omega arith) (projector_trace Conj) count refl refl
dimension_law Adjoint n h = solved_number n (omega arith) 0 (omega arith) (projector_trace Adjoint) (count ⊗ count ⊕ opposite single) refl refl ∙ sym (square_less_one n h)
dimension_law Sym2 n h = solved_number n (omega arith) 0 (omega arith) (projector_trace Sym2) (count ⊗ (count ⊕ single) ⊗ half) refl refl ∙ sym2_dimension n
dimension_law Sym2Conj n h = solved_number n (omega arith) 0 (omega arith) (projector_trace Sym2Conj) (count ⊗ (count ⊕ single) ⊗ half) refl refl ∙ sym2_dimension n
dimension_law Anti2 n h = solved_number n (omega arith) 0 (omega arith) (projector_trace Anti2) (count ⊗ (count ⊕ opposite single) ⊗ half) refl refl ∙ anti2_dimension n h
dimension_law Anti2Conj n h = solved_number n (omega arith) 0 (omega arith) (projector_trace Anti2Conj) (count ⊗ (count ⊕ opposite single) ⊗ half) refl refl ∙ anti2_dimension n h

-- ---- one half of the sum of all X_ij X_ji is the Casimir times the projector

-- twice the Casimir of the fundamental representation
abbrev fund_twice : ℕ → ℚ
fund_twice n = (whole (pos n) *ℚ whole (pos n) -ℚ one_ℚ) *ℚ reciprocal (whole (pos n))

fund_casimir : (n : ℕ) → 2 ≤ n → fraction (n * n - 1) (2 * n) ≡ fund_twice n /ℚ whole (pos 2)
fund_casimir n h =
    let top = whole (pos n) *ℚ whole (pos n) -ℚ one_ℚ in
    let half_ℚ = reciprocal (whole (pos 2)) in
    let share_ℚ = reciprocal (whole (pos n)) in
    ap₂ ◌*ℚ◌ (square_less_one n h) (reciprocal-mul 2 n (omega arith) (omega arith) (omega arith) ∙ *ℚ_comm half_ℚ share_ℚ) ∙ sym (*ℚ_assoc top share_ℚ half_ℚ)

adjoint_casimir : (n : ℕ) → fraction n 1 ≡ (whole (pos n) +ℚ whole (pos n)) /ℚ whole (pos 2)
adjoint_casimir n = over_one (whole (pos n)) ∙ sym (half_and_half (whole (pos n)))

-- the Casimir of sym2
abbrev sym2_number : ℕ → ℚ
sym2_number n = (whole (pos n) -ℚ one_ℚ) *ℚ (whole (pos n) +ℚ (one_ℚ +ℚ one_ℚ)) *ℚ reciprocal (whole (pos n))

-- the Casimir of anti2
abbrev anti2_number : ℕ → ℚ
anti2_number n = (whole (pos n) +ℚ one_ℚ) *ℚ (whole (pos n) -ℚ (one_ℚ +ℚ one_ℚ)) *ℚ reciprocal (whole (pos n))

plus_two : (n : ℕ) → whole (pos (n + 2)) ≡ whole (pos n) +ℚ (one_ℚ +ℚ one_ℚ)
plus_two n = whole-add n 2 ∙ ap (λ k. whole (pos n) +ℚ k) two

less_two : (n : ℕ) → 2 ≤ n → whole (pos (n - 2)) ≡ whole (pos n) -ℚ (one_ℚ +ℚ one_ℚ)
less_two n h = whole-sub n 2 h ∙ ap (λ k. whole (pos n) -ℚ k) two

sym2_casimir : (n : ℕ) → 2 ≤ n → fraction ((n - 1) * (n + 2)) n ≡ (sym2_number n +ℚ sym2_number n) /ℚ whole (pos 2)
sym2_casimir n h =
    ap (λ k. k /ℚ whole (pos n)) (whole-mul (n - 1) (n + 2) ∙ ap₂ ◌*ℚ◌ (whole-sub n 1 (omega arith)) (plus_two n)) ∙ sym (half_and_half (sym2_number n))

anti2_casimir : (n : ℕ) → 2 ≤ n → fraction ((n + 1) * (n - 2)) n ≡ (anti2_number n +ℚ anti2_number n) /ℚ whole (pos 2)
anti2_casimir n h =
    ap (λ k. k /ℚ whole (pos n)) (whole-mul (n + 1) (n - 2) ∙ ap₂ ◌*ℚ◌ (whole-add n 1) (less_two n h)) ∙ sym (half_and_half (anti2_number n))

nothing_casimir : fraction 0 1 ≡ zero_ℚ /ℚ whole (pos 2)
nothing_casimir = over_one zero_ℚ ∙ sym (zero-*ℚ (reciprocal (whole (pos 2))))

-- c is one half of k, and the sum of all X_ij X_ji is k times the projector
casimir_from : (r : Rep) (n : ℕ) (c k : ℚ) → c ≡ k /ℚ whole (pos 2) → AtPairs r n (λ p q. square_sum r n p q ≡ k *ℚ P r n p q) → AtPairs r n (λ p q. c *ℚ P r n p q ≡ square_sum r n p q /ℚ whole (pos 2))
casimir_from r n c k e f p q v w = half_of_product c k (P r n p q) (square_sum r n p q) e (f p q v w)

-- twice the Casimir
abbrev x_doubled_casimir : Rep → Expr
x_doubled_casimir Singlet = nought
x_doubled_casimir Fund = (count ⊗ count ⊕ opposite single) ⊗ share
x_doubled_casimir Conj = (count ⊗ count ⊕ opposite single) ⊗ share
x_doubled_casimir Adjoint = count ⊕ count
x_doubled_casimir Sym2 = (count ⊕ opposite single) ⊗ (count ⊕ x_two) ⊗ share ⊕ (count ⊕ opposite single) ⊗ (count ⊕ x_two) ⊗ share
x_doubled_casimir Sym2Conj = (count ⊕ opposite single) ⊗ (count ⊕ x_two) ⊗ share ⊕ (count ⊕ opposite single) ⊗ (count ⊕ x_two) ⊗ share
x_doubled_casimir Anti2 = (count ⊕ single) ⊗ (count ⊕ opposite x_two) ⊗ share ⊕ (count ⊕ single) ⊗ (count ⊕ opposite x_two) ⊗ share
x_doubled_casimir Anti2Conj = (count ⊕ single) ⊗ (count ⊕ opposite x_two) ⊗ share ⊕ (count ⊕ single) ⊗ (count ⊕ opposite x_two) ⊗ share

abbrev all_squares : Rep → Expr
all_squares r = x_at r (x_square_sum r)

abbrev times_projector : Rep → Expr
times_projector r = x_doubled_casimir r ⊗ x_at r (x_P r)

pub casimir_law : (r : Rep) (n : ℕ) → 2 ≤ n → Casimir r n
casimir_law Singlet n h = casimir_from Singlet n (casimir Singlet n) _ nothing_casimir (at_pairs Singlet n _ (solved_alone n (omega arith) 0 (all_squares Singlet) (times_projector Singlet) refl refl))
casimir_law Fund n h = casimir_from Fund n (casimir Fund n) _ (fund_casimir n h) (at_pairs Fund n _ (solved_alone n (omega arith) 1 (all_squares Fund) (times_projector Fund) refl refl))
casimir_law Conj n h = casimir_from Conj n (casimir Conj n) _ (fund_casimir n h) (at_pairs Conj n _ (solved_alone n (omega arith) 1 (all_squares Conj) (times_projector Conj) refl refl))
casimir_law Adjoint n h = casimir_from Adjoint n (casimir Adjoint n) _ (adjoint_casimir n) (at_pairs Adjoint n _ (solved_alone n (omega arith) 2 (all_squares Adjoint) (times_projector Adjoint) refl refl))
casimir_law Sym2 n h = casimir_from Sym2 n (casimir Sym2 n) _ (sym2_casimir n h) (at_pairs Sym2 n _ (solved_alone n (omega arith) 2 (all_squares Sym2) (times_projector Sym2) refl refl))
casimir_law Sym2Conj n h = casimir_from Sym2Conj n (casimir Sym2Conj n) _ (sym2_casimir n h) (at_pairs Sym2Conj n _ (solved_alone n (omega arith) 2 (all_squares Sym2Conj) (times_projector Sym2Conj) refl refl))
casimir_law Anti2 n h = casimir_from Anti2 n (casimir Anti2 n) _ (anti2_casimir n h) (at_pairs Anti2 n _ (solved_alone n (omega arith) 2 (all_squares Anti2) (times_projector Anti2) refl refl))
casimir_law Anti2Conj n h = casimir_from Anti2Conj n (casimir Anti2Conj n) _ (anti2_casimir n h) (at_pairs Anti2Conj n _ (solved_alone n (omega arith) 2 (all_squares Anti2Conj) (times_projector Anti2Conj) refl refl))

-- ---- twice the Dynkin index is the trace of X_12 X_21

pub twice : (n : ℕ) → whole (pos n) +ℚ whole (pos n) ≡ whole (pos (2 * n))
twice n =
    let e : n + n ≡ 2 * n = omega arith in
    sym (whole-add n n) ∙ ap (λ k. whole (pos k)) e

pub doubled_index_law : (r : Rep) (n : ℕ) → 2 ≤ n → DoubledIndex r n
doubled_index_law Singlet n h = solved_number n (omega arith) 2 h (x_index_trace Singlet) (x_doubled_index Singlet) refl refl
doubled_index_law Fund n h = solved_number n (omega arith) 2 h (x_index_trace Fund) (x_doubled_index Fund) refl refl
doubled_index_law Conj n h = solved_number n (omega arith) 2 h (x_index_trace Conj) (x_doubled_index Conj) refl refl
doubled_index_law Adjoint n h = solved_number n (omega arith) 2 h (x_index_trace Adjoint) (x_doubled_index Adjoint) refl refl ∙ twice n
doubled_index_law Sym2 n h = solved_number n (omega arith) 2 h (x_index_trace Sym2) (x_doubled_index Sym2) refl refl ∙ half_and_half (whole (pos n) +ℚ (one_ℚ +ℚ one_ℚ)) ∙ sym (plus_two n)
doubled_index_law Sym2Conj n h = solved_number n (omega arith) 2 h (x_index_trace Sym2Conj) (x_doubled_index Sym2Conj) refl refl ∙ half_and_half (whole (pos n) +ℚ (one_ℚ +ℚ one_ℚ)) ∙ sym (plus_two n)
doubled_index_law Anti2 n h = solved_number n (omega arith) 2 h (x_index_trace Anti2) (x_doubled_index Anti2) refl refl ∙ half_and_half (whole (pos n) -ℚ (one_ℚ +ℚ one_ℚ)) ∙ sym (less_two n h)
doubled_index_law Anti2Conj n h = solved_number n (omega arith) 2 h (x_index_trace Anti2Conj) (x_doubled_index Anti2Conj) refl refl ∙ half_and_half (whole (pos n) -ℚ (one_ℚ +ℚ one_ℚ)) ∙ sym (less_two n h)

pub index_law : (r : Rep) (n : ℕ) → 2 ≤ n → Index r n
index_law r n h = ap (λ k. k /ℚ whole (pos 2)) (sym (doubled_index_law r n h))

-- ---- the anomaly coefficient is the trace of X_12 (X_23 X_31 + X_31 X_23)

-- ---- the anomaly number is the trace of P X_12 (X_23 X_31 + X_31 X_23)
abbrev pub more_by_four : ℕ → ℚ
more_by_four n = whole (pos n) +ℚ (one_ℚ +ℚ one_ℚ +ℚ (one_ℚ +ℚ one_ℚ))

abbrev pub less_by_four : ℕ → ℚ
less_by_four n = whole (pos n) -ℚ (one_ℚ +ℚ one_ℚ +ℚ (one_ℚ +ℚ one_ℚ))

plus_four : (n : ℕ) → more_by_four n ≡ whole (pos (n + 4))
plus_four n = sym (whole-add n 4 ∙ ap (λ k. whole (pos n) +ℚ k) four)

less_four : (n : ℕ) → less_by_four n ≡ whole (pos n -ℤ pos 4)
less_four n = sym (whole-+ℤ (pos n) (neg_ℤ (pos 4)) ∙ ap (λ k. whole (pos n) +ℚ k) (whole-neg (pos 4) ∙ ap neg_ℚ four))

-- one half of a number twice
abbrev pub both_halves : ℚ → ℚ
both_halves x = (x +ℚ x) /ℚ whole (pos 2)

-- the anomaly coefficient as the solver has it
abbrev pub solved_cubic : Rep → ℕ → ℚ
solved_cubic Singlet n = zero_ℚ
solved_cubic Fund n = one_ℚ
solved_cubic Conj n = neg_ℚ one_ℚ
solved_cubic Adjoint n = zero_ℚ
solved_cubic Sym2 n = both_halves (more_by_four n)
solved_cubic Sym2Conj n = both_halves (neg_ℚ (more_by_four n))
solved_cubic Anti2 n = both_halves (less_by_four n)
solved_cubic Anti2Conj n = both_halves (neg_ℚ (less_by_four n))

pub solved_cubic-is : (r : Rep) (n : ℕ) → solved_cubic r n ≡ whole (cubic r n)
solved_cubic-is Singlet n = refl
solved_cubic-is Fund n = refl
solved_cubic-is Conj n = sym (whole-neg (pos 1))
solved_cubic-is Adjoint n = refl
solved_cubic-is Sym2 n = half_and_half (more_by_four n) ∙ plus_four n
solved_cubic-is Sym2Conj n = half_and_half (neg_ℚ (more_by_four n)) ∙ ap neg_ℚ (plus_four n) ∙ sym (whole-neg (pos (n + 4)))
solved_cubic-is Anti2 n = half_and_half (less_by_four n) ∙ less_four n
solved_cubic-is Anti2Conj n = half_and_half (neg_ℚ (less_by_four n)) ∙ ap neg_ℚ (less_four n) ∙ sym (whole-neg (pos n -ℤ pos 4))

pub cubic_law : (r : Rep) (n : ℕ) → 3 ≤ n → Cubic r n
cubic_law Singlet n h = solved_number n (omega arith) 3 h (x_cubic_trace Singlet) (x_cubic Singlet) refl refl ∙ solved_cubic-is Singlet n
cubic_law Fund n h = solved_number n (omega arith) 3 h (x_cubic_trace Fund) (x_cubic Fund) refl refl ∙ solved_cubic-is Fund n
cubic_law Conj n h = solved_number n (omega arith) 3 h (x_cubic_trace Conj) (x_cubic Conj) refl refl ∙ solved_cubic-is Conj n
cubic_law Adjoint n h = solved_number n (omega arith) 3 h (x_cubic_trace Adjoint) (x_cubic Adjoint) refl refl ∙ solved_cubic-is Adjoint n
cubic_law Sym2 n h = solved_number n (omega arith) 3 h (x_cubic_trace Sym2) (x_cubic Sym2) refl refl ∙ solved_cubic-is Sym2 n
cubic_law Sym2Conj n h = solved_number n (omega arith) 3 h (x_cubic_trace Sym2Conj) (x_cubic Sym2Conj) refl refl ∙ solved_cubic-is Sym2Conj n
cubic_law Anti2 n h = solved_number n (omega arith) 3 h (x_cubic_trace Anti2) (x_cubic Anti2) refl refl ∙ solved_cubic-is Anti2 n
cubic_law Anti2Conj n h = solved_number n (omega arith) 3 h (x_cubic_trace Anti2Conj) (x_cubic Anti2Conj) refl refl ∙ solved_cubic-is Anti2Conj n

-- ---- the conjugate representation has the same numbers, and minus the anomaly coefficient

neg_neg : (z : ℤ) → z ≡ neg_ℤ (neg_ℤ z)
neg_neg z = omega (arith, ints)

pub conjugate_numbers : (r : Rep) (n : ℕ) → ConjugateNumbers r n
conjugate_numbers Singlet n = record { same_dimension = refl; same_casimir = refl; same_index = refl; negated_cubic = refl }
conjugate_numbers Fund n = record { same_dimension = refl; same_casimir = refl; same_index = refl; negated_cubic = refl }
conjugate_numbers Conj n = record { same_dimension = refl; same_casimir = refl; same_index = refl; negated_cubic = refl }
conjugate_numbers Adjoint n = record { same_dimension = refl; same_casimir = refl; same_index = refl; negated_cubic = refl }
conjugate_numbers Sym2 n = record { same_dimension = refl; same_casimir = refl; same_index = refl; negated_cubic = refl }
conjugate_numbers Sym2Conj n = record { same_dimension = refl; same_casimir = refl; same_index = refl; negated_cubic = neg_neg (pos (n + 4)) }
conjugate_numbers Anti2 n = record { same_dimension = refl; same_casimir = refl; same_index = refl; negated_cubic = refl }
conjugate_numbers Anti2Conj n = record { same_dimension = refl; same_casimir = refl; same_index = refl; negated_cubic = neg_neg (pos n -ℤ pos 4) }
