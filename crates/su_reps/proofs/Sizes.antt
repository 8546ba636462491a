-- Dimensions and Dynkin indices are small.
use Rattle.std.proofs.Common.{ℕ, ◌+◌, ◌-◌, ◌*◌, ◌/◌, ◌≤◌, arith}
use native.Mathlib.Nat.{mul-le-mul}
use Rattle.su_reps.specs.declared.rep.Rep.{Rep}
use Rattle.su_reps.specs.declared.rep.Rep.TheVariants.{Singlet, Fund, Conj, Adjoint, Sym2, Sym2Conj, Anti2, Anti2Conj}
use Rattle.su_reps.specs.Operators.{dimension, doubled_index}

halved : (m : ℕ) → m ≤ 6 * 7 → m / 2 ≤ 36
halved m h = omega arith

-- for n up to 6 a dimension is at most 36
pub dimension_small : (rep : Rep) (n : ℕ) → 2 ≤ n → n ≤ 6 → dimension rep n ≤ 36
dimension_small Singlet n low high = omega arith
dimension_small Fund n low high = omega arith
dimension_small Conj n low high = omega arith
dimension_small Adjoint n low high = let square : n * n ≤ 6 * 6 = mul-le-mul high high in omega arith
dimension_small Sym2 n low high = halved (n * (n + 1)) (let next : n + 1 ≤ 7 = omega arith in mul-le-mul high next)
dimension_small Sym2Conj n low high = halved (n * (n + 1)) (let next : n + 1 ≤ 7 = omega arith in mul-le-mul high next)
dimension_small Anti2 n low high = halved (n * (n - 1)) (let next : n - 1 ≤ 7 = omega arith in mul-le-mul high next)
dimension_small Anti2Conj n low high = halved (n * (n - 1)) (let next : n - 1 ≤ 7 = omega arith in mul-le-mul high next)

-- and twice a Dynkin index at most 12
pub doubled_index_small : (rep : Rep) (n : ℕ) → 2 ≤ n → n ≤ 6 → doubled_index rep n ≤ 12
doubled_index_small Singlet n low high = omega arith
doubled_index_small Fund n low high = omega arith
doubled_index_small Conj n low high = omega arith
doubled_index_small Adjoint n low high = omega arith
doubled_index_small Sym2 n low high = omega arith
doubled_index_small Sym2Conj n low high = omega arith
doubled_index_small Anti2 n low high = omega arith
doubled_index_small Anti2Conj n low high = omega arith
