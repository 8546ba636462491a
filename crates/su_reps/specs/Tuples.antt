-- Representations of SU(n) on tensors with upper and lower indices: the index tuples of components, the projector on the
-- tensors of a representation, and the action of the generators X_ij = E_ij - (δ_ij / n) 1 with the matrix unit E_ij.
use Rattle.std.specs.Prelude.{◌≡◌, ℕ, ◌≤◌, List, [], ◌∷◌, length, cond, nat_eq, pos, ⊤}
use Rattle.frac128.specs.Rational.{ℚ, whole, zero_ℚ, one_ℚ, ◌+ℚ◌, ◌-ℚ◌, ◌*ℚ◌, ◌/ℚ◌, neg_ℚ}
use Rattle.su_reps.specs.declared.rep.Side.{Side}
use Rattle.su_reps.specs.declared.rep.Side.TheVariants.{Upper, Lower}
use Rattle.su_reps.specs.declared.rep.Rep.{Rep}
use Rattle.su_reps.specs.declared.rep.Rep.TheVariants.{Singlet, Fund, Conj, Adjoint, Sym2, Sym2Conj, Anti2, Anti2Conj}

-- ---- index tuples

-- the indices of a tensor: an upper one belongs to the fundamental representation, a lower one to its conjugate
abbrev pub sides : Rep → List Side
sides Singlet = []
sides Fund = Upper ∷ []
sides Conj = Lower ∷ []
sides Adjoint = Upper ∷ Lower ∷ []
sides Sym2 = Upper ∷ Upper ∷ []
sides Sym2Conj = Lower ∷ Lower ∷ []
sides Anti2 = Upper ∷ Upper ∷ []
sides Anti2Conj = Lower ∷ Lower ∷ []

-- the number of indices
abbrev pub slots : Rep → ℕ
slots r = length (sides r)

-- values of indices, each from 1 to n
abbrev pub AreValues : ℕ → List ℕ → Type 0
AreValues n [] = ⊤
AreValues n (a ∷ p) = ((1 ≤ a) × (a ≤ n)) × AreValues n p

-- an index tuple of a component: one value for each index
pub record IsTuple (r : Rep) (n : ℕ) (p : List ℕ) : Type 0 where
  pub count : length p ≡ slots r
  pub values : AreValues n p

-- ---- projectors

-- the Kronecker delta
abbrev pub delta : ℕ → ℕ → ℚ
delta a b = cond (nat_eq a b) one_ℚ zero_ℚ

-- the identity on tuples: the product of the deltas of their values
abbrev pub same : List ℕ → List ℕ → ℚ
same [] [] = one_ℚ
same [] (b ∷ q) = zero_ℚ
same (a ∷ p) [] = zero_ℚ
same (a ∷ p) (b ∷ q) = delta a b *ℚ same p q

-- the first two values in the other order
abbrev pub swapped : List ℕ → List ℕ
swapped [] = []
swapped (a ∷ []) = a ∷ []
swapped (a ∷ b ∷ p) = b ∷ a ∷ p

-- the trace part: δ_ab δ_cd at the tuples (a, b) and (c, d)
abbrev pub trace_part : List ℕ → List ℕ → ℚ
trace_part (a ∷ b ∷ []) (c ∷ d ∷ []) = delta a b *ℚ delta c d
trace_part p q = zero_ℚ

-- the identity minus the trace part over n
abbrev pub traceless : ℕ → List ℕ → List ℕ → ℚ
traceless n p q = same p q -ℚ trace_part p q /ℚ whole (pos n)

-- half of both orders added
abbrev pub symmetrised : List ℕ → List ℕ → ℚ
symmetrised p q = (same p q +ℚ same p (swapped q)) /ℚ whole (pos 2)

-- half of both orders subtracted
abbrev pub antisymmetrised : List ℕ → List ℕ → ℚ
antisymmetrised p q = (same p q -ℚ same p (swapped q)) /ℚ whole (pos 2)

-- the entry at two tuples of the projector on the tensors of a representation
abbrev pub projector : Rep → ℕ → List ℕ → List ℕ → ℚ
projector Singlet n p q = same p q
projector Fund n p q = same p q
projector Conj n p q = same p q
projector Adjoint n p q = traceless n p q
projector Sym2 n p q = symmetrised p q
projector Sym2Conj n p q = symmetrised p q
projector Anti2 n p q = antisymmetrised p q
projector Anti2Conj n p q = antisymmetrised p q

-- ---- generators

-- the entry of X_ij itself: δ_ai δ_bj - δ_ij δ_ab / n
abbrev pub generator : ℕ → ℕ → ℕ → ℕ → ℕ → ℚ
generator n i j a b = delta a i *ℚ delta b j -ℚ delta i j *ℚ delta a b /ℚ whole (pos n)

-- X_ij acts on an upper index as itself, on a lower one as minus its transpose
abbrev pub slot_action : Side → ℕ → ℕ → ℕ → ℕ → ℕ → ℚ
slot_action Upper n i j a b = generator n i j a b
slot_action Lower n i j a b = neg_ℚ (generator n i j b a)

-- on several indices as the sum over them, with the identity on the others
abbrev pub slots_action : List Side → ℕ → ℕ → ℕ → List ℕ → List ℕ → ℚ
slots_action [] n i j p q = zero_ℚ
slots_action (s ∷ ss) n i j [] q = zero_ℚ
slots_action (s ∷ ss) n i j (a ∷ p) [] = zero_ℚ
slots_action (s ∷ ss) n i j (a ∷ p) (b ∷ q) =
    slot_action s n i j a b *ℚ same p q +ℚ delta a b *ℚ slots_action ss n i j p q

-- the entry of X_ij at two tuples of a representation
abbrev pub action : Rep → ℕ → ℕ → ℕ → List ℕ → List ℕ → ℚ
action r n i j p q = slots_action (sides r) n i j p q
