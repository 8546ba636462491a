-- The generators: their commutators, transposes, conjugates and traces, for all n.
use Rattle.std.proofs.Common.{◌≡◌, ℕ, ◌≤◌, refl, sym, ◌∙◌, ap, arith, [], ◌∷◌}
use Rattle.exact_algebra.specs.Contraction.{Expr}
use Rattle.exact_algebra.specs.Contraction.Expr.{nought, share, ◌⊕◌, ◌⊗◌, opposite, over}
use Rattle.exact_algebra.specs.Contraction.Expr.{delta as x_delta}
use Rattle.frac128.specs.Rational.{zero_ℚ, ◌*ℚ◌}
use Rattle.su_reps.specs.declared.rep.Rep.{Rep}
use Rattle.su_reps.specs.declared.rep.Rep.TheVariants.{Singlet, Fund, Conj, Adjoint, Sym2, Sym2Conj, Anti2, Anti2Conj}
use Rattle.su_reps.specs.Operators.{P, X, over_values}
use Rattle.su_reps.specs.Laws.{Commutators, Transpose, Diagonal, conjugate, partner, Conjugate, ConjugateProjector, NoTrace, pair_number, PairTrace, Traceless, TracelessAction, ProjectedAction}
use Rattle.su_reps.proofs.Shapes.{x_p, x_q, x_at, x_transposed, x_product, x_trace, x_P, x_X, x_index_trace, x_doubled_index}
use Rattle.su_reps.proofs.Solve.{at_pairs, solved, solved_pair, solved_alone, solved_number}

-- ---- X_ij X_lm - X_lm X_ij = δ_jl X_im - δ_im X_lj
abbrev commutator : Rep → Expr
commutator r = x_at r (x_product r 30 (x_X r 0 1) (x_X r 2 3)) ⊕ opposite (x_at r (x_product r 30 (x_X r 2 3) (x_X r 0 1)))

abbrev structure : Rep → Expr
structure r = x_delta 1 2 ⊗ x_at r (x_X r 0 3) ⊕ opposite (x_delta 0 3 ⊗ x_at r (x_X r 2 1))

pub commutators : (r : Rep) (n : ℕ) → 1 ≤ n → Commutators r n
commutators Singlet n h i j l m u = at_pairs Singlet n _ (solved n h 0 (commutator Singlet) (structure Singlet) refl refl i j l m u)
commutators Fund n h i j l m u = at_pairs Fund n _ (solved n h 1 (commutator Fund) (structure Fund) refl refl i j l m u)
commutators Conj n h i j l m u = at_pairs Conj n _ (solved n h 1 (commutator Conj) (structure Conj) refl refl i j l m u)
commutators Adjoint n h i j l m u = at_pairs Adjoint n _ (solved n h 2 (commutator Adjoint) (structure Adjoint) refl refl i j l m u)
commutators Sym2 n h i j l m u = at_pairs Sym2 n _ (solved n h 2 (commutator Sym2) (structure Sym2) refl refl i j l m u)
commutators Sym2Conj n h i j l m u = at_pairs Sym2Conj n _ (solved n h 2 (commutator Sym2Conj) (structure Sym2Conj) refl refl i j l m u)
commutators Anti2 n h i j l m u = at_pairs Anti2 n _ (solved n h 2 (commutator Anti2) (structure Anti2) refl refl i j l m u)
commutators Anti2Conj n h i j l m u = at_pairs Anti2Conj n _ (solved n h 2 (commutator Anti2Conj) (structure Anti2Conj) refl refl i j l m u)

-- ---- the transpose of X_ij is X_ji
pub transpose_law : (r : Rep) (n : ℕ) → 1 ≤ n → Transpose r n
transpose_law Singlet n h i j u = at_pairs Singlet n _ (solved_pair n h 0 (x_transposed Singlet (x_X Singlet 0 1)) (x_at Singlet (x_X Singlet 1 0)) refl refl i j u)
transpose_law Fund n h i j u = at_pairs Fund n _ (solved_pair n h 1 (x_transposed Fund (x_X Fund 0 1)) (x_at Fund (x_X Fund 1 0)) refl refl i j u)
transpose_law Conj n h i j u = at_pairs Conj n _ (solved_pair n h 1 (x_transposed Conj (x_X Conj 0 1)) (x_at Conj (x_X Conj 1 0)) refl refl i j u)
transpose_law Adjoint n h i j u = at_pairs Adjoint n _ (solved_pair n h 2 (x_transposed Adjoint (x_X Adjoint 0 1)) (x_at Adjoint (x_X Adjoint 1 0)) refl refl i j u)
transpose_law Sym2 n h i j u = at_pairs Sym2 n _ (solved_pair n h 2 (x_transposed Sym2 (x_X Sym2 0 1)) (x_at Sym2 (x_X Sym2 1 0)) refl refl i j u)
transpose_law Sym2Conj n h i j u = at_pairs Sym2Conj n _ (solved_pair n h 2 (x_transposed Sym2Conj (x_X Sym2Conj 0 1)) (x_at Sym2Conj (x_X Sym2Conj 1 0)) refl refl i j u)
transpose_law Anti2 n h i j u = at_pairs Anti2 n _ (solved_pair n h 2 (x_transposed Anti2 (x_X Anti2 0 1)) (x_at Anti2 (x_X Anti2 1 0)) refl refl i j u)
transpose_law Anti2Conj n h i j u = at_pairs Anti2Conj n _ (solved_pair n h 2 (x_transposed Anti2Conj (x_X Anti2Conj 0 1)) (x_at Anti2Conj (x_X Anti2Conj 1 0)) refl refl i j u)

-- ---- the X_ii add up to 0
pub diagonal_law : (r : Rep) (n : ℕ) → 1 ≤ n → Diagonal r n
diagonal_law Singlet n h = at_pairs Singlet n _ (solved_alone n h 0 (over 20 (x_at Singlet (x_X Singlet 20 20))) nought refl refl)
diagonal_law Fund n h = at_pairs Fund n _ (solved_alone n h 1 (over 20 (x_at Fund (x_X Fund 20 20))) nought refl refl)
diagonal_law Conj n h = at_pairs Conj n _ (solved_alone n h 1 (over 20 (x_at Conj (x_X Conj 20 20))) nought refl refl)
diagonal_law Adjoint n h = at_pairs Adjoint n _ (solved_alone n h 2 (over 20 (x_at Adjoint (x_X Adjoint 20 20))) nought refl refl)
diagonal_law Sym2 n h = at_pairs Sym2 n _ (solved_alone n h 2 (over 20 (x_at Sym2 (x_X Sym2 20 20))) nought refl refl)
diagonal_law Sym2Conj n h = at_pairs Sym2Conj n _ (solved_alone n h 2 (over 20 (x_at Sym2Conj (x_X Sym2Conj 20 20))) nought refl refl)
diagonal_law Anti2 n h = at_pairs Anti2 n _ (solved_alone n h 2 (over 20 (x_at Anti2 (x_X Anti2 20 20))) nought refl refl)
diagonal_law Anti2Conj n h = at_pairs Anti2Conj n _ (solved_alone n h 2 (over 20 (x_at Anti2Conj (x_X Anti2Conj 20 20))) nought refl refl)

-- ---- a generator of the conjugate representation is minus the transpose
abbrev conjugate_generator : Rep → Expr
conjugate_generator r = x_X (conjugate r) 0 1 (partner r (x_p r)) (partner r (x_q r))

abbrev negated_transpose : Rep → Expr
negated_transpose r = opposite (x_transposed r (x_X r 0 1))

pub conjugate_law : (r : Rep) (n : ℕ) → 1 ≤ n → Conjugate r n
conjugate_law Singlet n h i j u = at_pairs Singlet n _ (solved_pair n h 0 (conjugate_generator Singlet) (negated_transpose Singlet) refl refl i j u)
conjugate_law Fund n h i j u = at_pairs Fund n _ (solved_pair n h 1 (conjugate_generator Fund) (negated_transpose Fund) refl refl i j u)
conjugate_law Conj n h i j u = at_pairs Conj n _ (solved_pair n h 1 (conjugate_generator Conj) (negated_transpose Conj) refl refl i j u)
conjugate_law Adjoint n h i j u = at_pairs Adjoint n _ (solved_pair n h 2 (conjugate_generator Adjoint) (negated_transpose Adjoint) refl refl i j u)
conjugate_law Sym2 n h i j u = at_pairs Sym2 n _ (solved_pair n h 2 (conjugate_generator Sym2) (negated_transpose Sym2) refl refl i j u)
conjugate_law Sym2Conj n h i j u = at_pairs Sym2Conj n _ (solved_pair n h 2 (conjugate_generator Sym2Conj) (negated_transpose Sym2Conj) refl refl i j u)
conjugate_law Anti2 n h i j u = at_pairs Anti2 n _ (solved_pair n h 2 (conjugate_generator Anti2) (negated_transpose Anti2) refl refl i j u)
conjugate_law Anti2Conj n h i j u = at_pairs Anti2Conj n _ (solved_pair n h 2 (conjugate_generator Anti2Conj) (negated_transpose Anti2Conj) refl refl i j u)

abbrev conjugate_projector : Rep → Expr
conjugate_projector r = x_P (conjugate r) (partner r (x_p r)) (partner r (x_q r))

pub conjugate_projector_law : (r : Rep) (n : ℕ) → 1 ≤ n → ConjugateProjector r n
conjugate_projector_law Singlet n h = at_pairs Singlet n _ (solved_alone n h 0 (conjugate_projector Singlet) (x_at Singlet (x_P Singlet)) refl refl)
conjugate_projector_law Fund n h = at_pairs Fund n _ (solved_alone n h 1 (conjugate_projector Fund) (x_at Fund (x_P Fund)) refl refl)
conjugate_projector_law Conj n h = at_pairs Conj n _ (solved_alone n h 1 (conjugate_projector Conj) (x_at Conj (x_P Conj)) refl refl)
conjugate_projector_law Adjoint n h = at_pairs Adjoint n _ (solved_alone n h 2 (conjugate_projector Adjoint) (x_at Adjoint (x_P Adjoint)) refl refl)
conjugate_projector_law Sym2 n h = at_pairs Sym2 n _ (solved_alone n h 2 (conjugate_projector Sym2) (x_at Sym2 (x_P Sym2)) refl refl)
conjugate_projector_law Sym2Conj n h = at_pairs Sym2Conj n _ (solved_alone n h 2 (conjugate_projector Sym2Conj) (x_at Sym2Conj (x_P Sym2Conj)) refl refl)
conjugate_projector_law Anti2 n h = at_pairs Anti2 n _ (solved_alone n h 2 (conjugate_projector Anti2) (x_at Anti2 (x_P Anti2)) refl refl)
conjugate_projector_law Anti2Conj n h = at_pairs Anti2Conj n _ (solved_alone n h 2 (conjugate_projector Anti2Conj) (x_at Anti2Conj (x_P Anti2Conj)) refl refl)

-- ---- a generator has no trace
abbrev generator_trace : Rep → Expr
generator_trace r = x_trace r (x_product r 30 (x_P r) (x_X r 0 1))

pub trace_law : (r : Rep) (n : ℕ) → 1 ≤ n → NoTrace r n
trace_law Singlet n h i j u = solved_pair n h 0 (generator_trace Singlet) nought refl refl i j u
trace_law Fund n h i j u = solved_pair n h 0 (generator_trace Fund) nought refl refl i j u
trace_law Conj n h i j u = solved_pair n h 0 (generator_trace Conj) nought refl refl i j u
trace_law Adjoint n h i j u = solved_pair n h 0 (generator_trace Adjoint) nought refl refl i j u
trace_law Sym2 n h i j u = solved_pair n h 0 (generator_trace Sym2) nought refl refl i j u
trace_law Sym2Conj n h i j u = solved_pair n h 0 (generator_trace Sym2Conj) nought refl refl i j u
trace_law Anti2 n h i j u = solved_pair n h 0 (generator_trace Anti2) nought refl refl i j u
trace_law Anti2Conj n h i j u = solved_pair n h 0 (generator_trace Anti2Conj) nought refl refl i j u

-- ---- the trace of two generators is that of X_12 X_21 times the trace in the fundamental representation
abbrev pair_trace : Rep → Expr
pair_trace r = x_trace r (x_product r 30 (x_P r) (x_product r 40 (x_X r 0 1) (x_X r 2 3)))

abbrev x_pair_number : Expr
x_pair_number = x_delta 0 3 ⊗ x_delta 1 2 ⊕ opposite (x_delta 0 1 ⊗ x_delta 2 3 ⊗ share)

pub pair_trace_law : (r : Rep) (n : ℕ) → 2 ≤ n → PairTrace r n
pair_trace_law Singlet n h i j l m u =
    solved n (omega arith) 0 (pair_trace Singlet) (x_doubled_index Singlet ⊗ x_pair_number) refl refl i j l m u
    ∙ ap (λ k. k *ℚ pair_number n i j l m) (sym (solved_number n (omega arith) 2 h (x_index_trace Singlet) (x_doubled_index Singlet) refl refl))
pair_trace_law Fund n h i j l m u =
    solved n (omega arith) 0 (pair_trace Fund) (x_doubled_index Fund ⊗ x_pair_number) refl refl i j l m u
    ∙ ap (λ k. k *ℚ pair_number n i j l m) (sym (solved_number n (omega arith) 2 h (x_index_trace Fund) (x_doubled_index Fund) refl refl))
pair_trace_law Conj n h i j l m u =
    solved n (omega arith) 0 (pair_trace Conj) (x_doubled_index Conj ⊗ x_pair_number) refl refl i j l m u
    ∙ ap (λ k. k *ℚ pair_number n i j l m) (sym (solved_number n (omega arith) 2 h (x_index_trace Conj) (x_doubled_index Conj) refl refl))
pair_trace_law Adjoint n h i j l m u =
    solved n (omega arith) 0 (pair_trace Adjoint) (x_doubled_index Adjoint ⊗ x_pair_number) refl refl i j l m u
    ∙ ap (λ k. k *ℚ pair_number n i j l m) (sym (solved_number n (omega arith) 2 h (x_index_trace Adjoint) (x_doubled_index Adjoint) refl refl))
pair_trace_law Sym2 n h i j l m u =
    solved n (omega arith) 0 (pair_trace Sym2) (x_doubled_index Sym2 ⊗ x_pair_number) refl refl i j l m u
    ∙ ap (λ k. k *ℚ pair_number n i j l m) (sym (solved_number n (omega arith) 2 h (x_index_trace Sym2) (x_doubled_index Sym2) refl refl))
pair_trace_law Sym2Conj n h i j l m u =
    solved n (omega arith) 0 (pair_trace Sym2Conj) (x_doubled_index Sym2Conj ⊗ x_pair_number) refl refl i j l m u
    ∙ ap (λ k. k *ℚ pair_number n i j l m) (sym (solved_number n (omega arith) 2 h (x_index_trace Sym2Conj) (x_doubled_index Sym2Conj) refl refl))
pair_trace_law Anti2 n h i j l m u =
    solved n (omega arith) 0 (pair_trace Anti2) (x_doubled_index Anti2 ⊗ x_pair_number) refl refl i j l m u
    ∙ ap (λ k. k *ℚ pair_number n i j l m) (sym (solved_number n (omega arith) 2 h (x_index_trace Anti2) (x_doubled_index Anti2) refl refl))
pair_trace_law Anti2Conj n h i j l m u =
    solved n (omega arith) 0 (pair_trace Anti2Conj) (x_doubled_index Anti2Conj ⊗ x_pair_number) refl refl i j l m u
    ∙ ap (λ k. k *ℚ pair_number n i j l m) (sym (solved_number n (omega arith) 2 h (x_index_trace Anti2Conj) (x_doubled_index Anti2Conj) refl refl))

-- ---- the adjoint has no trace part

pub traceless : (n : ℕ) → 1 ≤ n → Traceless n
traceless n h p v = at_pairs Adjoint n (λ p q. over_values n (λ a. P Adjoint n p (a ∷ a ∷ [])) ≡ zero_ℚ) (solved_alone n h 2 (over 20 (x_P Adjoint (x_p Adjoint) (20 ∷ 20 ∷ []))) nought refl refl) p p v v

pub traceless_action : (n : ℕ) → 1 ≤ n → TracelessAction n
traceless_action n h i j u p v = at_pairs Adjoint n (λ p q. over_values n (λ a. X Adjoint n i j p (a ∷ a ∷ [])) ≡ zero_ℚ) (solved_pair n h 2 (over 20 (x_X Adjoint 0 1 (x_p Adjoint) (20 ∷ 20 ∷ []))) nought refl refl i j u) p p v v

pub projected_action : (n : ℕ) → 1 ≤ n → ProjectedAction n
projected_action n h i j u = at_pairs Adjoint n _ (solved_pair n h 2 (x_at Adjoint (x_product Adjoint 30 (x_P Adjoint) (x_X Adjoint 0 1))) (x_at Adjoint (x_X Adjoint 0 1)) refl refl i j u)
