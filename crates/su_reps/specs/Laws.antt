-- The laws of the representations of SU(n), with projectors P and generators X_ij. Here stand the statements; which n
-- they hold for, all from 1, 2 or 3 on, stands in the clauses of `representations_of_su_n`.
use Rattle.std.specs.Prelude.{◌≡◌, ℕ, ◌-◌, ◌*◌, List, [], ◌∷◌, pos, neg_ℤ}
use Rattle.frac128.specs.Rational.{ℚ, whole, zero_ℚ, ◌-ℚ◌, ◌*ℚ◌, ◌/ℚ◌, neg_ℚ}
use Rattle.su_reps.specs.declared.rep.Rep.{Rep}
use Rattle.su_reps.specs.declared.rep.Rep.TheVariants.{Singlet, Fund, Conj, Adjoint, Sym2, Sym2Conj, Anti2, Anti2Conj}
use Rattle.su_reps.specs.Tuples.{IsTuple, AreValues, delta, swapped}
use Rattle.su_reps.specs.Operators.{product, P, X, trace, over_values, square_sum, index_trace, triple_trace, cubic_trace, dimension, casimir, doubled_index, index, cubic}

-- a fact of all pairs of tuples of a representation
abbrev pub AtPairs : Rep → ℕ → (List ℕ → List ℕ → Type 0) → Type 0
AtPairs r n F = (p q : List ℕ) → IsTuple r n p → IsTuple r n q → F p q

-- ---- projectors

-- a projector: P P = P
abbrev pub Idempotent : Rep → ℕ → Type 0
Idempotent r n = AtPairs r n (λ p q. product r n (P r n) (P r n) p q ≡ P r n p q)

-- it is symmetric
abbrev pub Symmetric : Rep → ℕ → Type 0
Symmetric r n = AtPairs r n (λ p q. P r n p q ≡ P r n q p)

-- it commutes with every generator: P X_ij = X_ij P
abbrev pub Commutes : Rep → ℕ → Type 0
Commutes r n = (i j : ℕ) → AreValues n (i ∷ j ∷ []) → AtPairs r n (λ p q.
    product r n (P r n) (X r n i j) p q ≡ product r n (X r n i j) (P r n) p q)

-- ---- generators

-- the Lie algebra: [X_ij, X_lm] = δ_jl X_im - δ_im X_lj
abbrev pub Commutators : Rep → ℕ → Type 0
Commutators r n = (i j l m : ℕ) → AreValues n (i ∷ j ∷ l ∷ m ∷ []) → AtPairs r n (λ p q.
    product r n (X r n i j) (X r n l m) p q -ℚ product r n (X r n l m) (X r n i j) p q
    ≡ delta j l *ℚ X r n i m p q -ℚ delta i m *ℚ X r n l j p q)

-- the transpose of X_ij is X_ji
abbrev pub Transpose : Rep → ℕ → Type 0
Transpose r n = (i j : ℕ) → AreValues n (i ∷ j ∷ []) → AtPairs r n (λ p q. X r n i j q p ≡ X r n j i p q)

-- the X_ii add up to 0
abbrev pub Diagonal : Rep → ℕ → Type 0
Diagonal r n = AtPairs r n (λ p q. over_values n (λ i. X r n i i p q) ≡ zero_ℚ)

-- the conjugate representation: lower indices in place of upper ones and the other way round; the adjoint is real
abbrev pub conjugate : Rep → Rep
conjugate Singlet = Singlet
conjugate Fund = Conj
conjugate Conj = Fund
conjugate Adjoint = Adjoint
conjugate Sym2 = Sym2Conj
conjugate Sym2Conj = Sym2
conjugate Anti2 = Anti2Conj
conjugate Anti2Conj = Anti2

-- a tuple as one of the conjugate representation: the adjoint's two values change places
abbrev pub partner : Rep → List ℕ → List ℕ
partner Singlet p = p
partner Fund p = p
partner Conj p = p
partner Adjoint p = swapped p
partner Sym2 p = p
partner Sym2Conj p = p
partner Anti2 p = p
partner Anti2Conj p = p

-- a generator of the conjugate representation is minus the transpose
abbrev pub Conjugate : Rep → ℕ → Type 0
Conjugate r n = (i j : ℕ) → AreValues n (i ∷ j ∷ []) → AtPairs r n (λ p q.
    X (conjugate r) n i j (partner r p) (partner r q) ≡ neg_ℚ (X r n i j q p))

-- and its projector is the same one
abbrev pub ConjugateProjector : Rep → ℕ → Type 0
ConjugateProjector r n = AtPairs r n (λ p q. P (conjugate r) n (partner r p) (partner r q) ≡ P r n p q)

-- ---- the adjoint

-- the projector leaves no trace part: its entries vanish where the upper and the lower index are contracted
abbrev pub Traceless : ℕ → Type 0
Traceless n = (p : List ℕ) → IsTuple Adjoint n p → over_values n (λ a. P Adjoint n p (a ∷ a ∷ [])) ≡ zero_ℚ

-- nor does any generator
abbrev pub TracelessAction : ℕ → Type 0
TracelessAction n = (i j : ℕ) → AreValues n (i ∷ j ∷ []) → (p : List ℕ) → IsTuple Adjoint n p → over_values n (λ a. X Adjoint n i j p (a ∷ a ∷ [])) ≡ zero_ℚ

-- so a generator is unchanged by the projector: P X_ij = X_ij
abbrev pub ProjectedAction : ℕ → Type 0
ProjectedAction n = (i j : ℕ) → AreValues n (i ∷ j ∷ []) → AtPairs Adjoint n (λ p q. product Adjoint n (P Adjoint n) (X Adjoint n i j) p q ≡ X Adjoint n i j p q)

-- ---- traces

-- a generator has no trace
abbrev pub NoTrace : Rep → ℕ → Type 0
NoTrace r n = (i j : ℕ) → AreValues n (i ∷ j ∷ []) →
    trace r n (product r n (P r n) (X r n i j)) ≡ zero_ℚ

-- the trace of X_ij X_lm in the fundamental representation: δ_im δ_jl - δ_ij δ_lm / n
abbrev pub pair_number : ℕ → ℕ → ℕ → ℕ → ℕ → ℚ
pair_number n i j l m = delta i m *ℚ delta j l -ℚ delta i j *ℚ delta l m /ℚ whole (pos n)

-- in every other one it is that times the trace of X_12 X_21
abbrev pub PairTrace : Rep → ℕ → Type 0
PairTrace r n = (i j l m : ℕ) → AreValues n (i ∷ j ∷ l ∷ m ∷ []) →
    trace r n (product r n (P r n) (product r n (X r n i j) (X r n l m))) ≡ index_trace r n *ℚ pair_number n i j l m

-- ---- group numbers

-- the dimension is the trace of the projector
abbrev pub Dimension : Rep → ℕ → Type 0
Dimension r n = trace r n (P r n) ≡ whole (pos (dimension r n))

-- the quadratic Casimir operator, one half of the sum of X_ij X_ji over all i and j, is a number times the identity
abbrev pub IsCasimir : Rep → ℕ → ℚ → Type 0
IsCasimir r n c = AtPairs r n (λ p q. c *ℚ P r n p q ≡ square_sum r n p q /ℚ whole (pos 2))

-- the quadratic Casimir is that number
abbrev pub Casimir : Rep → ℕ → Type 0
Casimir r n = IsCasimir r n (casimir r n)

-- twice the Dynkin index is the trace of X_12 X_21
abbrev pub DoubledIndex : Rep → ℕ → Type 0
DoubledIndex r n = index_trace r n ≡ whole (pos (doubled_index r n))

-- and the Dynkin index one half of it
abbrev pub Index : Rep → ℕ → Type 0
Index r n = index r n ≡ index_trace r n /ℚ whole (pos 2)

-- the trace of the Casimir operator: d(R) C(R) = d(G) T(R), where d(G) = n^2 - 1 is the dimension of the group
abbrev pub CasimirTrace : Rep → ℕ → Type 0
CasimirTrace r n = whole (pos (dimension r n)) *ℚ casimir r n ≡ whole (pos (n * n - 1)) *ℚ index r n

-- the anomaly coefficient is the trace of X_12 (X_23 X_31 + X_31 X_23)
abbrev pub Cubic : Rep → ℕ → Type 0
Cubic r n = cubic_trace r n ≡ whole (cubic r n)

-- and that of any three generators is the anomaly coefficient times the one in the fundamental representation
abbrev pub TripleTrace : Rep → ℕ → Type 0
TripleTrace r n = (i j l m a b : ℕ) → AreValues n (i ∷ j ∷ l ∷ m ∷ a ∷ b ∷ []) →
    triple_trace r n i j l m a b ≡ whole (cubic r n) *ℚ triple_trace Fund n i j l m a b

-- the conjugate representation has the same numbers, but for the sign of the anomaly coefficient
pub record ConjugateNumbers (r : Rep) (n : ℕ) : Type 0 where
  pub same_dimension : dimension (conjugate r) n ≡ dimension r n
  pub same_casimir : casimir (conjugate r) n ≡ casimir r n
  pub same_index : index (conjugate r) n ≡ index r n
  pub negated_cubic : cubic (conjugate r) n ≡ neg_ℤ (cubic r n)
