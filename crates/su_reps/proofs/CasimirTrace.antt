-- The trace of the quadratic Casimir operator: C(R) d(R) = T(R) d(G), where d(G) = n^2 - 1 is the dimension of the group.
use Rattle.std.proofs.Common.{◌≡◌, ℕ, ◌+◌, ◌*◌, ◌-◌, ◌/◌, ◌≤◌, refl, sym, ◌∙◌, ap, ap₂, arith, [], ◌∷◌, pos}
use Rattle.exact_algebra.specs.Solver.{identity}
use Rattle.exact_algebra.specs.Solver.Term.{var, single, nought, ◌⊕◌, ◌⊗◌, opposite}
use Rattle.frac128.specs.Rational.{ℚ, whole, zero_ℚ, one_ℚ, ◌-ℚ◌, ◌*ℚ◌, ◌/ℚ◌, reciprocal}
use Rattle.frac128.specs.RationalLaws.{ring_ℚ, one-*ℚ}
use Rattle.frac128.specs.Whole.{whole-add, whole-mul, whole-sub, over_one, reciprocal-mul, times_inverse, half_and_half}
use Rattle.su_reps.specs.declared.rep.Rep.{Rep}
use Rattle.su_reps.specs.declared.rep.Rep.TheVariants.{Singlet, Fund, Conj, Adjoint, Sym2, Sym2Conj, Anti2, Anti2Conj}
use Rattle.su_reps.specs.Operators.{fraction}
use Rattle.su_reps.specs.Laws.{CasimirTrace}
use Rattle.su_reps.proofs.GroupNumbers.{square_less_one, sym2_dimension, anti2_dimension, twice}

-- a factor n against its inverse
without_n : (n : ℕ) → 2 ≤ n → (x : ℚ) → (whole (pos n) *ℚ reciprocal (whole (pos n))) *ℚ x ≡ x
without_n n h x = ap (λ k. k *ℚ x) (times_inverse n (omega arith)) ∙ one-*ℚ x

nothing_casimir_trace : (g : ℚ) → one_ℚ *ℚ fraction 0 1 ≡ g *ℚ fraction 0 2
nothing_casimir_trace g =
    one-*ℚ (fraction 0 1) ∙ over_one zero_ℚ ∙ identity ring_ℚ (g ∷ reciprocal (whole (pos 2)) ∷ []) nought (var 0 ⊗ (nought ⊗ var 1)) refl

fund_casimir_trace : (n : ℕ) → 2 ≤ n → whole (pos n) *ℚ fraction (n * n - 1) (2 * n) ≡ whole (pos (n * n - 1)) *ℚ fraction 1 2
fund_casimir_trace n h =
    let group = whole (pos (n * n - 1)) in
    let half = reciprocal (whole (pos 2)) in
    let share_n = reciprocal (whole (pos n)) in
    ap (λ k. whole (pos n) *ℚ (group *ℚ k)) (reciprocal-mul 2 n (omega arith) (omega arith) (omega arith))
    ∙ identity ring_ℚ (whole (pos n) ∷ share_n ∷ half ∷ group ∷ []) (var 0 ⊗ (var 3 ⊗ (var 2 ⊗ var 1))) ((var 0 ⊗ var 1) ⊗ (var 3 ⊗ (single ⊗ var 2))) refl
    ∙ without_n n h (group *ℚ fraction 1 2)

adjoint_casimir_trace : (n : ℕ) → fraction n 1 ≡ fraction (2 * n) 2
adjoint_casimir_trace n = over_one (whole (pos n)) ∙ sym (half_and_half (whole (pos n))) ∙ ap (λ k. k /ℚ whole (pos 2)) (twice n)

sym2_casimir_trace : (n : ℕ) → 2 ≤ n → whole (pos (n * (n + 1) / 2)) *ℚ fraction ((n - 1) * (n + 2)) n ≡ whole (pos (n * n - 1)) *ℚ fraction (n + 2) 2
sym2_casimir_trace n h =
    let N = whole (pos n) in
    let two_more = whole (pos (n + 2)) in
    let half = reciprocal (whole (pos 2)) in
    let share_n = reciprocal N in
    ap₂ ◌*ℚ◌ (sym (sym2_dimension n)) (ap (λ k. k *ℚ share_n) (whole-mul (n - 1) (n + 2) ∙ ap (λ k. k *ℚ two_more) (whole-sub n 1 (omega arith))))
    ∙ identity ring_ℚ (N ∷ share_n ∷ half ∷ two_more ∷ []) (((var 0 ⊗ (var 0 ⊕ single)) ⊗ var 2) ⊗ (((var 0 ⊕ opposite single) ⊗ var 3) ⊗ var 1)) ((var 0 ⊗ var 1) ⊗ ((var 0 ⊗ var 0 ⊕ opposite single) ⊗ (var 3 ⊗ var 2))) refl
    ∙ without_n n h ((N *ℚ N -ℚ one_ℚ) *ℚ fraction (n + 2) 2)
    ∙ ap (λ k. k *ℚ fraction (n + 2) 2) (sym (square_less_one n h))

anti2_casimir_trace : (n : ℕ) → 2 ≤ n → whole (pos (n * (n - 1) / 2)) *ℚ fraction ((n + 1) * (n - 2)) n ≡ whole (pos (n * n - 1)) *ℚ fraction (n - 2) 2
anti2_casimir_trace n h =
    let N = whole (pos n) in
    let two_less = whole (pos (n - 2)) in
    let half = reciprocal (whole (pos 2)) in
    let share_n = reciprocal N in
    ap₂ ◌*ℚ◌ (sym (anti2_dimension n h)) (ap (λ k. k *ℚ share_n) (whole-mul (n + 1) (n - 2) ∙ ap (λ k. k *ℚ two_less) (whole-add n 1)))
    ∙ identity ring_ℚ (N ∷ share_n ∷ half ∷ two_less ∷ []) (((var 0 ⊗ (var 0 ⊕ opposite single)) ⊗ var 2) ⊗ (((var 0 ⊕ single) ⊗ var 3) ⊗ var 1)) ((var 0 ⊗ var 1) ⊗ ((var 0 ⊗ var 0 ⊕ opposite single) ⊗ (var 3 ⊗ var 2))) refl
    ∙ without_n n h ((N *ℚ N -ℚ one_ℚ) *ℚ fraction (n - 2) 2)
    ∙ ap (λ k. k *ℚ fraction (n - 2) 2) (sym (square_less_one n h))

pub casimir_trace_law : (r : Rep) (n : ℕ) → 2 ≤ n → CasimirTrace r n
casimir_trace_law Singlet n h = nothing_casimir_trace (whole (pos (n * n - 1)))
casimir_trace_law Fund n h = fund_casimir_trace n h
casimir_trace_law Conj n h = fund_casimir_trace n h
casimir_trace_law Adjoint n h = ap (λ k. whole (pos (n * n - 1)) *ℚ k) (adjoint_casimir_trace n)
casimir_trace_law Sym2 n h = sym2_casimir_trace n h
casimir_trace_law Sym2Conj n h = sym2_casimir_trace n h
casimir_trace_law Anti2 n h = anti2_casimir_trace n h
casimir_trace_law Anti2Conj n h = anti2_casimir_trace n h
