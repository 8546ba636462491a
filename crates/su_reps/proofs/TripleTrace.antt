-- The trace of any three generators is the anomaly coefficient times the one in the fundamental representation, for all n.
use Rattle.std.proofs.Common.{ℕ, ◌≤◌, refl, ◌∙◌, ap}
use Rattle.exact_algebra.specs.Contraction.{Expr}
use Rattle.exact_algebra.specs.Contraction.Expr.{◌⊗◌}
use Rattle.frac128.specs.Rational.{◌*ℚ◌}
use Rattle.su_reps.specs.declared.rep.Rep.{Rep}
use Rattle.su_reps.specs.declared.rep.Rep.TheVariants.{Singlet, Fund, Conj, Adjoint, Sym2, Sym2Conj, Anti2, Anti2Conj}
use Rattle.su_reps.specs.Operators.{triple_trace}
use Rattle.su_reps.specs.Laws.{TripleTrace}
use Rattle.su_reps.proofs.Shapes.{x_triple_trace, x_cubic}
use Rattle.su_reps.proofs.Solve.{solved}
use Rattle.su_reps.proofs.GroupNumbers.{solved_cubic-is}

-- six free indices: the last two are the values of two tuples of one value
abbrev left : Rep → Expr
left r = x_triple_trace r 0 1 2 3 4 5

abbrev right : Rep → Expr
right r = x_cubic r ⊗ x_triple_trace Fund 0 1 2 3 4 5

pub triple_trace_law : (r : Rep) (n : ℕ) → 1 ≤ n → TripleTrace r n
triple_trace_law Singlet n h i j l m a b u =
    solved n h 1 (left Singlet) (right Singlet) refl refl i j l m (u.0, (u.1.0, (u.1.1.0, (u.1.1.1.0, tt)))) a u.1.1.1.1.0 b u.1.1.1.1.1.0
    ∙ ap (λ k. k *ℚ triple_trace Fund n i j l m a b) (solved_cubic-is Singlet n)
triple_trace_law Fund n h i j l m a b u =
    solved n h 1 (left Fund) (right Fund) refl refl i j l m (u.0, (u.1.0, (u.1.1.0, (u.1.1.1.0, tt)))) a u.1.1.1.1.0 b u.1.1.1.1.1.0
    ∙ ap (λ k. k *ℚ triple_trace Fund n i j l m a b) (solved_cubic-is Fund n)
triple_trace_law Conj n h i j l m a b u =
    solved n h 1 (left Conj) (right Conj) refl refl i j l m (u.0, (u.1.0, (u.1.1.0, (u.1.1.1.0, tt)))) a u.1.1.1.1.0 b u.1.1.1.1.1.0
    ∙ ap (λ k. k *ℚ triple_trace Fund n i j l m a b) (solved_cubic-is Conj n)
triple_trace_law Adjoint n h i j l m a b u =
    solved n h 1 (left Adjoint) (right Adjoint) refl refl i j l m (u.0, (u.1.0, (u.1.1.0, (u.1.1.1.0, tt)))) a u.1.1.1.1.0 b u.1.1.1.1.1.0
    ∙ ap (λ k. k *ℚ triple_trace Fund n i j l m a b) (solved_cubic-is Adjoint n)
triple_trace_law Sym2 n h i j l m a b u =
    solved n h 1 (left Sym2) (right Sym2) refl refl i j l m (u.0, (u.1.0, (u.1.1.0, (u.1.1.1.0, tt)))) a u.1.1.1.1.0 b u.1.1.1.1.1.0
    ∙ ap (λ k. k *ℚ triple_trace Fund n i j l m a b) (solved_cubic-is Sym2 n)
triple_trace_law Sym2Conj n h i j l m a b u =
    solved n h 1 (left Sym2Conj) (right Sym2Conj) refl refl i j l m (u.0, (u.1.0, (u.1.1.0, (u.1.1.1.0, tt)))) a u.1.1.1.1.0 b u.1.1.1.1.1.0
    ∙ ap (λ k. k *ℚ triple_trace Fund n i j l m a b) (solved_cubic-is Sym2Conj n)
triple_trace_law Anti2 n h i j l m a b u =
    solved n h 1 (left Anti2) (right Anti2) refl refl i j l m (u.0, (u.1.0, (u.1.1.0, (u.1.1.1.0, tt)))) a u.1.1.1.1.0 b u.1.1.1.1.1.0
    ∙ ap (λ k. k *ℚ triple_trace Fund n i j l m a b) (solved_cubic-is Anti2 n)
triple_trace_law Anti2Conj n h i j l m a b u =
    solved n h 1 (left Anti2Conj) (right Anti2Conj) refl refl i j l m (u.0, (u.1.0, (u.1.1.0, (u.1.1.1.0, tt)))) a u.1.1.1.1.0 b u.1.1.1.1.1.0
    ∙ ap (λ k. k *ℚ triple_trace Fund n i j l m a b) (solved_cubic-is Anti2Conj n)
