-- The rest of a slice behind its first element, as a slice pattern gives it.
use Rattle.std.proofs.Common.{◌≡◌, suc, ◌-◌, ◌≤◌, List, [], ◌∷◌, length, take, drop, get_or, sym, ap, ◌∙◌, arith}
use Rattle.std.proofs.Math.Seq.{take-length}

-- all but the first element
abbrev pub tail : {A : Type 0} → List A → List A
tail xs = take (length xs - 1) (drop 1 xs)

pub tail-cons : {A : Type 0} (x : A) (xs : List A) → tail (x ∷ xs) ≡ xs
tail-cons x xs =
    let less : suc (length xs) - 1 ≡ length xs = omega arith in
    ap (λ k. take k xs) less ∙ take-length xs

-- a list that has a first element
pub cons_tail : {A : Type 0} (xs : List A) (d : A) → 1 ≤ length xs → xs ≡ get_or xs 0 d ∷ tail xs
cons_tail [] d h = absurd (omega arith)
cons_tail (x ∷ xs) d h = ap (λ ys. x ∷ ys) (sym (tail-cons x xs))

-- one element less
pub length-tail : {A : Type 0} (xs : List A) → 1 ≤ length xs → length xs ≡ suc (length (tail xs))
length-tail [] h = absurd (omega arith)
length-tail (x ∷ xs) h = ap (λ ys. suc (length ys)) (sym (tail-cons x xs))
