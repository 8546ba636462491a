-- The definitions of projectors, generators and traces once more, as expressions for the solver over names of indices.
-- `x_name` has the value that the definition `name` has, by computation.
use Rattle.std.specs.Prelude.{ℕ, zero, suc, ◌+◌, List, [], ◌∷◌}
use Rattle.exact_algebra.specs.Contraction.{Expr}
use Rattle.exact_algebra.specs.Contraction.Expr.{var, nought, single, count, share, delta, ◌⊕◌, ◌⊗◌, opposite, over}
use Rattle.su_reps.specs.declared.rep.Rep.{Rep}
use Rattle.su_reps.specs.declared.rep.Rep.TheVariants.{Singlet, Fund, Conj, Adjoint, Sym2, Sym2Conj, Anti2, Anti2Conj}
use Rattle.su_reps.specs.declared.rep.Side.{Side}
use Rattle.su_reps.specs.declared.rep.Side.TheVariants.{Upper, Lower}
use Rattle.su_reps.specs.Tuples.{sides, slots, swapped}

-- ---- projectors

abbrev pub x_same : List ℕ → List ℕ → Expr
x_same [] [] = single
x_same [] (b ∷ q) = nought
x_same (a ∷ p) [] = nought
x_same (a ∷ p) (b ∷ q) = delta a b ⊗ x_same p q

abbrev pub x_trace_part : List ℕ → List ℕ → Expr
x_trace_part (a ∷ b ∷ []) (c ∷ d ∷ []) = delta a b ⊗ delta c d
x_trace_part p q = nought

abbrev pub x_traceless : List ℕ → List ℕ → Expr
x_traceless p q = x_same p q ⊕ opposite (x_trace_part p q ⊗ share)

-- the number 0 is 1/2
abbrev pub half : Expr
half = var 0

abbrev pub x_symmetrised : List ℕ → List ℕ → Expr
x_symmetrised p q = (x_same p q ⊕ x_same p (swapped q)) ⊗ half

abbrev pub x_antisymmetrised : List ℕ → List ℕ → Expr
x_antisymmetrised p q = (x_same p q ⊕ opposite (x_same p (swapped q))) ⊗ half

abbrev pub x_projector : Rep → List ℕ → List ℕ → Expr
x_projector Singlet p q = x_same p q
x_projector Fund p q = x_same p q
x_projector Conj p q = x_same p q
x_projector Adjoint p q = x_traceless p q
x_projector Sym2 p q = x_symmetrised p q
x_projector Sym2Conj p q = x_symmetrised p q
x_projector Anti2 p q = x_antisymmetrised p q
x_projector Anti2Conj p q = x_antisymmetrised p q

-- ---- generators

abbrev pub x_generator : ℕ → ℕ → ℕ → ℕ → Expr
x_generator i j a b = delta a i ⊗ delta b j ⊕ opposite (delta i j ⊗ delta a b ⊗ share)

abbrev pub x_slot_action : Side → ℕ → ℕ → ℕ → ℕ → Expr
x_slot_action Upper i j a b = x_generator i j a b
x_slot_action Lower i j a b = opposite (x_generator i j b a)

abbrev pub x_slots_action : List Side → ℕ → ℕ → List ℕ → List ℕ → Expr
x_slots_action [] i j p q = nought
x_slots_action (s ∷ ss) i j [] q = nought
x_slots_action (s ∷ ss) i j (a ∷ p) [] = nought
x_slots_action (s ∷ ss) i j (a ∷ p) (b ∷ q) = x_slot_action s i j a b ⊗ x_same p q ⊕ delta a b ⊗ x_slots_action ss i j p q

abbrev pub x_action : Rep → ℕ → ℕ → List ℕ → List ℕ → Expr
x_action r i j p q = x_slots_action (sides r) i j p q

-- ---- products and traces

-- the sum over all tuples, whose values have the names from `first` on
abbrev pub x_over_tuples : ℕ → ℕ → (List ℕ → Expr) → Expr
x_over_tuples zero first f = f []
x_over_tuples (suc k) first f = over first (x_over_tuples k (suc first) (λ p. f (first ∷ p)))

-- k names from `first` on
abbrev pub names : ℕ → ℕ → List ℕ
names zero first = []
names (suc k) first = first ∷ names k (suc first)

module _ (r : Rep) where
  -- the names of the two tuples of an identity, after four free indices
  abbrev pub x_p : List ℕ
  x_p = names (slots r) 4

  abbrev pub x_q : List ℕ
  x_q = names (slots r) (4 + slots r)

  -- an operator at these two tuples, and its transpose
  abbrev pub x_at : (List ℕ → List ℕ → Expr) → Expr
  x_at A = A x_p x_q

  abbrev pub x_transposed : (List ℕ → List ℕ → Expr) → Expr
  x_transposed A = A x_q x_p

  -- a product, summed over a tuple with the names from `first` on
  abbrev pub x_product : ℕ → (List ℕ → List ℕ → Expr) → (List ℕ → List ℕ → Expr) → List ℕ → List ℕ → Expr
  x_product first A B p q = x_over_tuples (slots r) first (λ t. A p t ⊗ B t q)

  abbrev pub x_trace : (List ℕ → List ℕ → Expr) → Expr
  x_trace A = x_over_tuples (slots r) 10 (λ p. A p p)

  abbrev pub x_P : List ℕ → List ℕ → Expr
  x_P = x_projector r

  abbrev pub x_X : ℕ → ℕ → List ℕ → List ℕ → Expr
  x_X i j = x_action r i j

  abbrev pub x_square_sum : List ℕ → List ℕ → Expr
  x_square_sum p q = over 20 (over 21 (x_product 30 x_P (x_product 40 (x_X 20 21) (x_X 21 20)) p q))

  abbrev pub x_index_trace : Expr
  x_index_trace = x_trace (x_product 30 x_P (x_product 40 (x_X 0 1) (x_X 1 0)))

  abbrev pub x_triple_trace : ℕ → ℕ → ℕ → ℕ → ℕ → ℕ → Expr
  x_triple_trace i j l m a b = x_trace (x_product 30 x_P (x_product 40 (x_X i j) (λ p q. x_product 50 (x_X l m) (x_X a b) p q ⊕ x_product 50 (x_X a b) (x_X l m) p q)))

  abbrev pub x_cubic_trace : Expr
  x_cubic_trace = x_triple_trace 0 1 1 2 2 0

-- ---- numbers

-- one half of a number twice: the solver knows no 2 * 1/2 = 1
abbrev pub halves : Expr → Expr
halves e = (e ⊕ e) ⊗ half

abbrev pub x_two : Expr
x_two = single ⊕ single

abbrev pub x_four : Expr
x_four = single ⊕ single ⊕ (single ⊕ single)

-- twice the Dynkin index
abbrev pub x_doubled_index : Rep → Expr
x_doubled_index Singlet = nought
x_doubled_index Fund = single
x_doubled_index Conj = single
x_doubled_index Adjoint = count ⊕ count
x_doubled_index Sym2 = halves (count ⊕ x_two)
x_doubled_index Sym2Conj = halves (count ⊕ x_two)
x_doubled_index Anti2 = halves (count ⊕ opposite x_two)
x_doubled_index Anti2Conj = halves (count ⊕ opposite x_two)

-- the anomaly coefficient
abbrev pub x_cubic : Rep → Expr
x_cubic Singlet = nought
x_cubic Fund = single
x_cubic Conj = opposite single
x_cubic Adjoint = nought
x_cubic Sym2 = halves (count ⊕ x_four)
x_cubic Sym2Conj = halves (opposite (count ⊕ x_four))
x_cubic Anti2 = halves (count ⊕ opposite x_four)
x_cubic Anti2Conj = halves (opposite (count ⊕ opposite x_four))
