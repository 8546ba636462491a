-- The entries of projectors and generators in whole numbers over one denominator, as the code computes them.
use Rattle.std.specs.Prelude.{ℕ, List, [], ◌∷◌, Bool, false, cond, nat_eq, ◌&&◌, ℤ, pos, ◌+ℤ◌, ◌-ℤ◌, neg_ℤ}
use Rattle.std.specs.Str.{bytes_eq}
use Rattle.su_reps.specs.declared.rep.Side.{Side}
use Rattle.su_reps.specs.declared.rep.Side.TheVariants.{Upper, Lower}
use Rattle.su_reps.specs.declared.rep.Rep.{Rep}
use Rattle.su_reps.specs.declared.rep.Rep.TheVariants.{Singlet, Fund, Conj, Adjoint, Sym2, Sym2Conj, Anti2, Anti2Conj}

-- whether one pair is the other with its values swapped
abbrev pub are_swapped : List ℕ → List ℕ → Bool
are_swapped (a ∷ b ∷ []) (c ∷ d ∷ []) = nat_eq a d && nat_eq b c
are_swapped p q = false

-- whether the two values of each pair are equal
abbrev pub are_diagonal : List ℕ → List ℕ → Bool
are_diagonal (a ∷ b ∷ []) (c ∷ d ∷ []) = nat_eq a b && nat_eq c d
are_diagonal p q = false

-- a number where something holds, else 0
abbrev pub number_if : Bool → ℤ → ℤ
number_if holds z = cond holds z (pos 0)

abbrev pub one_if : Bool → ℤ
one_if holds = number_if holds (pos 1)

-- n times the entry of X_ij itself
abbrev pub generator_numerator : ℕ → ℕ → ℕ → ℕ → ℕ → ℤ
generator_numerator n i j a b = number_if (nat_eq a i && nat_eq b j) (pos n) -ℤ one_if (nat_eq i j && nat_eq a b)

-- n times its entry at one index
abbrev pub slot_numerator : Side → ℕ → ℕ → ℕ → ℕ → ℕ → ℤ
slot_numerator Upper n i j a b = generator_numerator n i j a b
slot_numerator Lower n i j a b = neg_ℤ (generator_numerator n i j b a)

-- n times its entry at two tuples
abbrev pub slots_numerator : List Side → ℕ → ℕ → ℕ → List ℕ → List ℕ → ℤ
slots_numerator [] n i j p q = pos 0
slots_numerator (s ∷ ss) n i j [] q = pos 0
slots_numerator (s ∷ ss) n i j (a ∷ p) [] = pos 0
slots_numerator (s ∷ ss) n i j (a ∷ p) (b ∷ q) =
    number_if (bytes_eq p q) (slot_numerator s n i j a b) +ℤ number_if (nat_eq a b) (slots_numerator ss n i j p q)

-- a denominator of all entries of the projector
abbrev pub projector_denominator : Rep → ℕ → ℕ
projector_denominator Singlet n = 1
projector_denominator Fund n = 1
projector_denominator Conj n = 1
projector_denominator Adjoint n = n
projector_denominator Sym2 n = 2
projector_denominator Sym2Conj n = 2
projector_denominator Anti2 n = 2
projector_denominator Anti2Conj n = 2

-- the projector's entry times that denominator
abbrev pub projector_numerator : Rep → ℕ → List ℕ → List ℕ → ℤ
projector_numerator Singlet n p q = one_if (bytes_eq p q)
projector_numerator Fund n p q = one_if (bytes_eq p q)
projector_numerator Conj n p q = one_if (bytes_eq p q)
projector_numerator Adjoint n p q = number_if (bytes_eq p q) (pos n) -ℤ one_if (are_diagonal p q)
projector_numerator Sym2 n p q = one_if (bytes_eq p q) +ℤ one_if (are_swapped p q)
projector_numerator Sym2Conj n p q = one_if (bytes_eq p q) +ℤ one_if (are_swapped p q)
projector_numerator Anti2 n p q = one_if (bytes_eq p q) -ℤ one_if (are_swapped p q)
projector_numerator Anti2Conj n p q = one_if (bytes_eq p q) -ℤ one_if (are_swapped p q)
