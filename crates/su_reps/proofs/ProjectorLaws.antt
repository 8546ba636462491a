-- The projectors are idempotent, symmetric and commute with the generators, for all n.
use Rattle.std.proofs.Common.{◌≡◌, ℕ, ◌≤◌, refl, ◌∙◌, pos}
use Rattle.exact_algebra.specs.Contraction.{Expr}
use Rattle.frac128.specs.Rational.{whole, ◌+ℚ◌, ◌/ℚ◌}
use Rattle.su_reps.specs.declared.rep.Rep.{Rep}
use Rattle.su_reps.specs.declared.rep.Rep.TheVariants.{Singlet, Fund, Conj, Adjoint, Sym2, Sym2Conj, Anti2, Anti2Conj}
use Rattle.su_reps.specs.Laws.{AtPairs, Idempotent, Symmetric, Commutes}
use Rattle.su_reps.specs.Operators.{Operator}
use Rattle.frac128.specs.Whole.{half_and_half}
use Rattle.su_reps.proofs.Shapes.{x_at, x_transposed, x_product, x_P, x_X, halves}
use Rattle.su_reps.proofs.Solve.{at_pairs, solved_alone, solved_pair}

-- ---- P P = P
abbrev squared : Rep → Expr
squared r = x_at r (x_product r 30 (x_P r) (x_P r))

abbrev once : Rep → Expr
once r = x_at r (x_P r)

-- one half of an operator twice
without_halves : (r : Rep) (n : ℕ) (A B : Operator) → AtPairs r n (λ p q. A p q ≡ (B p q +ℚ B p q) /ℚ whole (pos 2)) → AtPairs r n (λ p q. A p q ≡ B p q)
without_halves r n A B f p q v w = f p q v w ∙ half_and_half (B p q)

pub idempotent : (r : Rep) (n : ℕ) → 1 ≤ n → Idempotent r n
idempotent Singlet n h = at_pairs Singlet n _ (solved_alone n h 0 (squared Singlet) (once Singlet) refl refl)
idempotent Fund n h = at_pairs Fund n _ (solved_alone n h 1 (squared Fund) (once Fund) refl refl)
idempotent Conj n h = at_pairs Conj n _ (solved_alone n h 1 (squared Conj) (once Conj) refl refl)
idempotent Adjoint n h = at_pairs Adjoint n _ (solved_alone n h 2 (squared Adjoint) (once Adjoint) refl refl)
idempotent Sym2 n h = without_halves Sym2 n _ _ (at_pairs Sym2 n _ (solved_alone n h 2 (squared Sym2) (halves (once Sym2)) refl refl))
idempotent Sym2Conj n h = without_halves Sym2Conj n _ _ (at_pairs Sym2Conj n _ (solved_alone n h 2 (squared Sym2Conj) (halves (once Sym2Conj)) refl refl))
idempotent Anti2 n h = without_halves Anti2 n _ _ (at_pairs Anti2 n _ (solved_alone n h 2 (squared Anti2) (halves (once Anti2)) refl refl))
idempotent Anti2Conj n h = without_halves Anti2Conj n _ _ (at_pairs Anti2Conj n _ (solved_alone n h 2 (squared Anti2Conj) (halves (once Anti2Conj)) refl refl))

-- ---- the transpose of P is P
pub symmetric : (r : Rep) (n : ℕ) → 1 ≤ n → Symmetric r n
symmetric Singlet n h = at_pairs Singlet n _ (solved_alone n h 0 (once Singlet) (x_transposed Singlet (x_P Singlet)) refl refl)
symmetric Fund n h = at_pairs Fund n _ (solved_alone n h 1 (once Fund) (x_transposed Fund (x_P Fund)) refl refl)
symmetric Conj n h = at_pairs Conj n _ (solved_alone n h 1 (once Conj) (x_transposed Conj (x_P Conj)) refl refl)
symmetric Adjoint n h = at_pairs Adjoint n _ (solved_alone n h 2 (once Adjoint) (x_transposed Adjoint (x_P Adjoint)) refl refl)
symmetric Sym2 n h = at_pairs Sym2 n _ (solved_alone n h 2 (once Sym2) (x_transposed Sym2 (x_P Sym2)) refl refl)
symmetric Sym2Conj n h = at_pairs Sym2Conj n _ (solved_alone n h 2 (once Sym2Conj) (x_transposed Sym2Conj (x_P Sym2Conj)) refl refl)
symmetric Anti2 n h = at_pairs Anti2 n _ (solved_alone n h 2 (once Anti2) (x_transposed Anti2 (x_P Anti2)) refl refl)
symmetric Anti2Conj n h = at_pairs Anti2Conj n _ (solved_alone n h 2 (once Anti2Conj) (x_transposed Anti2Conj (x_P Anti2Conj)) refl refl)

-- ---- P X_ij = X_ij P
abbrev before : Rep → Expr
before r = x_at r (x_product r 30 (x_P r) (x_X r 0 1))

abbrev after : Rep → Expr
after r = x_at r (x_product r 30 (x_X r 0 1) (x_P r))

pub commutes : (r : Rep) (n : ℕ) → 1 ≤ n → Commutes r n
commutes Singlet n h i j u = at_pairs Singlet n _ (solved_pair n h 0 (before Singlet) (after Singlet) refl refl i j u)
commutes Fund n h i j u = at_pairs Fund n _ (solved_pair n h 1 (before Fund) (after Fund) refl refl i j u)
commutes Conj n h i j u = at_pairs Conj n _ (solved_pair n h 1 (before Conj) (after Conj) refl refl i j u)
commutes Adjoint n h i j u = at_pairs Adjoint n _ (solved_pair n h 2 (before Adjoint) (after Adjoint) refl refl i j u)
commutes Sym2 n h i j u = at_pairs Sym2 n _ (solved_pair n h 2 (before Sym2) (after Sym2) refl refl i j u)
commutes Sym2Conj n h i j u = at_pairs Sym2Conj n _ (solved_pair n h 2 (before Sym2Conj) (after Sym2Conj) refl refl i j u)
commutes Anti2 n h i j u = at_pairs Anti2 n _ (solved_pair n h 2 (before Anti2) (after Anti2) refl refl i j u)
commutes Anti2Conj n h i j u = at_pairs Anti2Conj n _ (solved_pair n h 2 (before Anti2Conj) (after Anti2Conj) refl refl i j u)
