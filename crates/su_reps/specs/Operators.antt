-- Operators on the index tuples of a representation, as matrices, with their products and traces, and the group numbers.
-- The numbers are the published tables, and `Laws` states that they are traces. The fundamental representation has the
-- Dynkin index 1/2 and the anomaly coefficient 1: then the sum over generators of T ⊗ T is one half of the sum of
-- X_ij ⊗ X_ji over all i and j.
use Rattle.std.specs.Prelude.{ℕ, zero, suc, ◌+◌, ◌-◌, ◌*◌, ◌/◌, List, [], ◌∷◌, ℤ, pos, ◌-ℤ◌, neg_ℤ}
use Rattle.exact_algebra.specs.Sums.{below}
use Rattle.frac128.specs.Rational.{ℚ, whole, ◌+ℚ◌, ◌*ℚ◌, ◌/ℚ◌}
use Rattle.frac128.specs.RationalLaws.{ring_ℚ}
use Rattle.su_reps.specs.declared.rep.Rep.{Rep}
use Rattle.su_reps.specs.declared.rep.Rep.TheVariants.{Singlet, Fund, Conj, Adjoint, Sym2, Sym2Conj, Anti2, Anti2Conj}
use Rattle.su_reps.specs.Tuples.{slots, projector, action}

-- the sum over the values from 1 to n
abbrev pub over_values : ℕ → (ℕ → ℚ) → ℚ
over_values n f = below ring_ℚ.semiring n (λ a. f (suc a))

-- the sum over all tuples of a number of values
abbrev pub over_tuples : ℕ → ℕ → (List ℕ → ℚ) → ℚ
over_tuples n zero f = f []
over_tuples n (suc k) f = over_values n (λ a. over_tuples n k (λ p. f (a ∷ p)))

-- a matrix, whose rows and columns are tuples
abbrev pub Operator : Type 0
Operator = List ℕ → List ℕ → ℚ

module _ (r : Rep) (n : ℕ) where
  -- the sum over all tuples of the representation
  abbrev pub over : (List ℕ → ℚ) → ℚ
  over f = over_tuples n (slots r) f

  abbrev pub product : Operator → Operator → Operator
  product A B p q = over (λ t. A p t *ℚ B t q)

  abbrev pub sum : Operator → Operator → Operator
  sum A B p q = A p q +ℚ B p q

  abbrev pub trace : Operator → ℚ
  trace A = over (λ p. A p p)

  -- the projector
  abbrev pub P : Operator
  P = projector r n

  -- the generators
  abbrev pub X : ℕ → ℕ → Operator
  X i j = action r n i j

  -- the sum over all i and j of P X_ij X_ji: twice the Casimir operator
  abbrev pub square_sum : Operator
  square_sum p q = over_values n (λ i. over_values n (λ j. product P (product (X i j) (X j i)) p q))

  -- the trace of P X_12 X_21
  abbrev pub index_trace : ℚ
  index_trace = trace (product P (product (X 1 2) (X 2 1)))

  -- the trace of P X_ij (X_lm X_ab + X_ab X_lm)
  abbrev pub triple_trace : ℕ → ℕ → ℕ → ℕ → ℕ → ℕ → ℚ
  triple_trace i j l m a b = trace (product P (product (X i j) (sum (product (X l m) (X a b)) (product (X a b) (X l m)))))

  -- the trace of P X_12 (X_23 X_31 + X_31 X_23)
  abbrev pub cubic_trace : ℚ
  cubic_trace = triple_trace 1 2 2 3 3 1

-- ---- group numbers

-- the dimension d(R)
abbrev pub dimension : Rep → ℕ → ℕ
dimension Singlet n = 1
dimension Fund n = n
dimension Conj n = n
dimension Adjoint n = n * n - 1
dimension Sym2 n = n * (n + 1) / 2
dimension Sym2Conj n = n * (n + 1) / 2
dimension Anti2 n = n * (n - 1) / 2
dimension Anti2Conj n = n * (n - 1) / 2

-- a fraction of natural numbers
abbrev pub fraction : ℕ → ℕ → ℚ
fraction a b = whole (pos a) /ℚ whole (pos b)

-- the quadratic Casimir C(R)
abbrev pub casimir : Rep → ℕ → ℚ
casimir Singlet n = fraction 0 1
casimir Fund n = fraction (n * n - 1) (2 * n)
casimir Conj n = fraction (n * n - 1) (2 * n)
casimir Adjoint n = fraction n 1
casimir Sym2 n = fraction ((n - 1) * (n + 2)) n
casimir Sym2Conj n = fraction ((n - 1) * (n + 2)) n
casimir Anti2 n = fraction ((n + 1) * (n - 2)) n
casimir Anti2Conj n = fraction ((n + 1) * (n - 2)) n

-- twice the Dynkin index, a whole number
abbrev pub doubled_index : Rep → ℕ → ℕ
doubled_index Singlet n = 0
doubled_index Fund n = 1
doubled_index Conj n = 1
doubled_index Adjoint n = 2 * n
doubled_index Sym2 n = n + 2
doubled_index Sym2Conj n = n + 2
doubled_index Anti2 n = n - 2
doubled_index Anti2Conj n = n - 2

-- the Dynkin index T(R)
abbrev pub index : Rep → ℕ → ℚ
index r n = fraction (doubled_index r n) 2

-- the anomaly coefficient A(R), which changes its sign in the conjugate representation
abbrev pub cubic : Rep → ℕ → ℤ
cubic Singlet n = pos 0
cubic Fund n = pos 1
cubic Conj n = neg_ℤ (pos 1)
cubic Adjoint n = pos 0
cubic Sym2 n = pos (n + 4)
cubic Sym2Conj n = neg_ℤ (pos (n + 4))
cubic Anti2 n = pos n -ℤ pos 4
cubic Anti2Conj n = neg_ℤ (pos n -ℤ pos 4)
