-- Anomaly coefficients are small.
use Rattle.std.proofs.Common.{ℕ, ◌≤◌, arith}
use Rattle.std.specs.Prelude.{unsigned_abs}
use Rattle.std.proofs.lemmas.Int.{ints}
use Rattle.su_reps.specs.declared.rep.Rep.{Rep}
use Rattle.su_reps.specs.declared.rep.Rep.TheVariants.{Singlet, Fund, Conj, Adjoint, Sym2, Sym2Conj, Anti2, Anti2Conj}
use Rattle.su_reps.specs.Operators.{cubic}

-- for n up to 6 an anomaly coefficient is at most 10 in size
pub cubic_small : (rep : Rep) (n : ℕ) → n ≤ 6 → unsigned_abs (cubic rep n) ≤ 10
cubic_small Singlet n high = omega (arith, ints)
cubic_small Fund n high = omega (arith, ints)
cubic_small Conj n high = omega (arith, ints)
cubic_small Adjoint n high = omega (arith, ints)
cubic_small Sym2 n high = omega (arith, ints)
cubic_small Sym2Conj n high = omega (arith, ints)
cubic_small Anti2 n high = omega (arith, ints)
cubic_small Anti2Conj n high = omega (arith, ints)
