-- The place of a tuple with the two values of each pair swapped.
use Rattle.std.proofs.Common.{◌≡◌, ℕ, zero, suc, ◌+◌, ◌-◌, ◌*◌, ◌/◌, ◌%◌, ◌<◌, ◌≤◌, true, List, [], ◌∷◌, length, take, drop, get_or, mul_assoc, mul-zero, mul-suc, subst, ◌^◌, refl, sym, ap, ap₂, ◌∙◌, arith}
use Rattle.std.specs.Prelude.{◌==◌, ◌&&◌}
use Rattle.std.specs.List.{list_all}
use Rattle.std.proofs.lemmas.Bool.Decides.{nat_tests}
use Rattle.std.proofs.lemmas.Nat.{div-mul-add}
use Rattle.std.proofs.Math.Nat.{div-lt_iff_lt-mul}
use Rattle.std.proofs.Math.Seq.{take-length}
use native.Mathlib.Nat.{mul_comm, mul-le-mul_right}
use Rattle.su_reps.specs.declared.rep.Rep.{Rep}
use Rattle.su_reps.specs.declared.rep.Rep.TheVariants.{Singlet, Fund, Conj, Adjoint, Sym2, Sym2Conj, Anti2, Anti2Conj}
use Rattle.model_core.specs.declared.group.Group.{Group}
use Rattle.model_core.specs.Component.{slot_sizes, tuples}
use Rattle.model_core.specs.Place.{tuple_at, are_pairs}
use Rattle.model_core.specs.Scalar.{swapped_pairs}
use Rattle.model_core.specs.Groups.{is_between}
use Rattle.model_core.specs.Valid.{is_real_rep}
use Rattle.model_core.proofs.ValidLaws.{both, first_passes, between}
use Rattle.model_core.proofs.TupleLaws.{length-tuples, product_bound, twelve_fit}

-- quotient and remainder of a number that is given by them
pub quotient : (a m z : ℕ) → z < m → (a * m + z) / m ≡ a
quotient a m z h = div-mul-add a m z h

pub remainder : (a m z : ℕ) → z < m → (a * m + z) % m ≡ z
remainder a m z h =
    let split : m * ((a * m + z) / m) + (a * m + z) % m ≡ a * m + z = omega arith in
    omega (arith, split, ap (λ k. m * k) (quotient a m z h), mul_comm m a)

-- the tuple at a place that is given by its first value
pub tuple_at-place : (n a z : ℕ) (sizes : List ℕ) → z < length (tuples sizes) → tuple_at (n ∷ sizes) (a * length (tuples sizes) + z) ≡ (a + 1) ∷ tuple_at sizes z
tuple_at-place n a z sizes h =
    let m = length (tuples sizes) in
    ap₂ (λ q r. (q + 1) ∷ tuple_at sizes r) (quotient a m z h) (remainder a m z h)

regroup : (a n b m r : ℕ) → (a * n + b) * m + r ≡ a * (n * m) + (b * m + r)
regroup a n b m r = grind arith

pub less_pair : (b m r n : ℕ) → b < n → r < m → b * m + r < n * m
less_pair b m r n h k =
    let next : b + 1 ≤ n = omega arith in
    let most : (b + 1) * m ≤ n * m = mul-le-mul_right m next in
    let one_more : (b + 1) * m ≡ b * m + m = grind arith in
    omega (arith, most, one_more)

-- the tuple at a place that is given by its first two values
pub tuple_at-pair : (n a b z : ℕ) (sizes : List ℕ) → b < n → z < length (tuples sizes) → tuple_at (n ∷ n ∷ sizes) ((a * n + b) * length (tuples sizes) + z) ≡ (a + 1) ∷ (b + 1) ∷ tuple_at sizes z
tuple_at-pair n a b z sizes h k =
    let m = length (tuples sizes) in
    let counted : length (tuples (n ∷ sizes)) ≡ n * m = length-tuples n sizes in
    let inner : b * m + z < length (tuples (n ∷ sizes)) = omega (arith, counted, less_pair b m z n h k) in
    ap (tuple_at (n ∷ n ∷ sizes)) (regroup a n b m z ∙ ap (λ c. a * c + (b * m + z)) (sym counted))
    ∙ tuple_at-place n a (b * m + z) (n ∷ sizes) inner
    ∙ ap (λ t. (a + 1) ∷ t) (tuple_at-place n b z sizes k)

positive_inner : (n m place : ℕ) → place < n * (n * m) → (1 ≤ n) × (1 ≤ m)
positive_inner zero m place h = absurd (omega (arith, h))
positive_inner (suc n) zero place h = absurd (omega (arith, h, simp (mul-zero) at h))
positive_inner (suc n) (suc m) place h = (omega arith, omega arith)

-- the sizes behind the first two
abbrev pub behind_two : {A : Type 0} → List A → List A
behind_two xs = take (length xs - 2) (drop 2 xs)

pub two_and_rest : (sizes : List ℕ) → 2 ≤ length sizes → are_pairs sizes ≡ true → sizes ≡ get_or sizes 0 0 ∷ get_or sizes 0 0 ∷ behind_two sizes
two_and_rest [] h pairs = absurd (omega arith)
two_and_rest (n ∷ []) h pairs = absurd (omega arith)
two_and_rest (n ∷ m ∷ rest) h pairs =
    let test : (n == m) ≡ true = (both (n == m) (are_pairs rest) pairs).0 in
    let same : n ≡ m = grind (arith, nat_tests) in
    let less : length (n ∷ m ∷ rest) - 2 ≡ length rest = omega arith in
    ap (λ k. n ∷ k ∷ rest) (sym same) ∙ ap (λ r. n ∷ n ∷ r) (sym (ap (λ k. take k rest) less ∙ take-length rest))

-- one pair more: the swapped tuple's place from the swapped place of the rest
pub pair_step : (n place s : ℕ) (rest : List ℕ) → place < length (tuples (n ∷ n ∷ rest)) → s < length (tuples rest) → tuple_at rest s ≡ swapped_pairs (tuple_at rest (place % length (tuples rest)))
    → (tuple_at (n ∷ n ∷ rest) ((place / length (tuples rest) % n * n + place / length (tuples rest) / n) * length (tuples rest) + s) ≡ swapped_pairs (tuple_at (n ∷ n ∷ rest) place))
    × ((place / length (tuples rest) % n * n + place / length (tuples rest) / n) * length (tuples rest) + s < length (tuples (n ∷ n ∷ rest)))
pair_step n place s rest within below swapped =
    let m = length (tuples rest) in
    let q = place / m in
    let a = q / n in
    let b = q % n in
    let r = place % m in
    let counted : length (tuples (n ∷ n ∷ rest)) ≡ n * (n * m) = length-tuples n (n ∷ rest) ∙ ap (λ k. n * k) (length-tuples n rest) in
    let inside : place < n * (n * m) = omega (arith, counted, within) in
    let positive = positive_inner n m place inside in
    let grouped : n * (n * m) ≡ n * n * m = sym (mul_assoc n n m) in
    let quotient_small : q < n * n = (div-lt_iff_lt-mul {x = place} {y = n * n} positive.1).1 (omega (arith, grouped, inside)) in
    let first : a < n = (div-lt_iff_lt-mul {x = q} {y = n} positive.0).1 quotient_small in
    let second : b < n = omega arith in
    let third : r < m = omega arith in
    let whole_q : a * n + b ≡ q = omega (arith, mul_comm n a) in
    let whole_place : (a * n + b) * m + r ≡ place = ap (λ k. k * m + r) whole_q ∙ omega (arith, mul_comm m q) in
    let pair_small : b * n + a < n * n = less_pair b n a n second first in
    let product_small : (b * n + a) * m + s < n * n * m = less_pair (b * n + a) m s (n * n) pair_small below in (
      tuple_at-pair n b a s rest first below
          ∙ ap (λ t. (b + 1) ∷ (a + 1) ∷ t) swapped
          ∙ ap swapped_pairs (sym (tuple_at-pair n a b r rest second third) ∙ ap (tuple_at (n ∷ n ∷ rest)) whole_place),
      omega (arith, counted, grouped, product_small),
    )

-- the same for sizes that come in pairs
pub swapped_step : (sizes : List ℕ) (place s m k : ℕ) → 2 ≤ length sizes → are_pairs sizes ≡ true → m ≡ length (tuples (behind_two sizes)) → k ≡ get_or sizes 0 0 → place < length (tuples sizes)
    → s < length (tuples (behind_two sizes)) → tuple_at (behind_two sizes) s ≡ swapped_pairs (tuple_at (behind_two sizes) (place % m))
    → (tuple_at sizes ((place / m % k * k + place / m / k) * m + s) ≡ swapped_pairs (tuple_at sizes place)) × ((place / m % k * k + place / m / k) * m + s < length (tuples sizes))
swapped_step sizes place s m k two pairs counted first within below swapped =
    let n = get_or sizes 0 0 in
    let rest = behind_two sizes in
    let split : sizes ≡ n ∷ n ∷ rest = two_and_rest sizes two pairs in
    let x = (place / length (tuples rest) % n * n + place / length (tuples rest) / n) * length (tuples rest) + s in
    let P : List ℕ → Type 0 = λ z. (tuple_at z x ≡ swapped_pairs (tuple_at z place)) × (x < length (tuples z)) in
    let Q : ℕ → ℕ → Type 0 = λ c h. (tuple_at sizes ((place / c % h * h + place / c / h) * c + s) ≡ swapped_pairs (tuple_at sizes place)) × ((place / c % h * h + place / c / h) * c + s < length (tuples sizes)) in
    subst (λ c. Q c k) (sym counted) (subst (Q (length (tuples rest))) (sym first)
    (subst P (sym split) (pair_step n place s rest (subst (λ z. place < length (tuples z)) split within) below (swapped ∙ ap (λ c. swapped_pairs (tuple_at rest (place % c))) counted))))

-- the numbers on the way are below the number of tuples
pub swapped_small : (sizes : List ℕ) (place m k : ℕ) → 2 ≤ length sizes → are_pairs sizes ≡ true → m ≡ length (tuples (behind_two sizes)) → k ≡ get_or sizes 0 0 → place < length (tuples sizes)
    → (place / m % k * k + place / m / k ≤ (place / m % k * k + place / m / k) * m) × ((place / m % k * k + place / m / k) * m < length (tuples sizes))
swapped_small sizes place m k two pairs counted first within =
    let n = get_or sizes 0 0 in
    let split : sizes ≡ n ∷ n ∷ behind_two sizes = two_and_rest sizes two pairs in
    let total : length (tuples sizes) ≡ k * (k * m) = ap (λ z. length (tuples z)) split ∙ length-tuples n (n ∷ behind_two sizes) ∙ ap (λ c. n * c) (length-tuples n (behind_two sizes)) ∙ ap₂ (λ h c. h * (h * c)) (sym first) (sym counted) in
    let inside : place < k * (k * m) = omega (arith, total, within) in
    let positive = positive_inner k m place inside in
    let grouped : k * (k * m) ≡ k * k * m = sym (mul_assoc k k m) in
    let quotient_small : place / m < k * k = (div-lt_iff_lt-mul {x = place} {y = k * k} positive.1).1 (omega (arith, grouped, inside)) in
    let first_small : place / m / k < k = (div-lt_iff_lt-mul {x = place / m} {y = k} positive.0).1 quotient_small in
    let second_small : place / m % k < k = omega arith in
    let pair_small : place / m % k * k + place / m / k < k * k = less_pair (place / m % k) k (place / m / k) k second_small first_small in
    let product_small : (place / m % k * k + place / m / k) * m + 0 < k * k * m = less_pair (place / m % k * k + place / m / k) m 0 (k * k) pair_small positive.1 in
    (times_more (place / m % k * k + place / m / k) m positive.1, omega (arith, total, grouped, product_small))
  where
    times_more : (x m : ℕ) → 1 ≤ m → x ≤ x * m
    times_more x zero h = absurd (omega arith)
    times_more x (suc m) h = omega (arith, mul-suc x m)

-- the tuples of at most 12 slots of at most 6 values fit in 32 bits
tuples_bound : (sizes : List ℕ) → list_all (is_between 1 6) sizes ≡ true → length (tuples sizes) ≤ 6 ^ length sizes
tuples_bound [] small = omega arith
tuples_bound (n ∷ sizes) small =
    let parts = first_passes (is_between 1 6) n sizes small in
    rw (length-tuples n sizes) (product_bound n (length (tuples sizes)) (length sizes) (length (n ∷ sizes)) (between 1 6 n parts.0).1 (tuples_bound sizes parts.1) refl)

pub tuples_fit : (sizes : List ℕ) → list_all (is_between 1 6) sizes ≡ true → length sizes ≤ 12 → length (tuples sizes) < 2 ^ 32
tuples_fit sizes small few = omega (arith, tuples_bound sizes small, twelve_fit (length sizes) few)

-- the sizes of real representations come in pairs
pub real_sizes : (groups : List Group) (reps : List Rep) → list_all is_real_rep reps ≡ true → are_pairs (slot_sizes groups reps) ≡ true
real_sizes [] reps real = refl
real_sizes (g ∷ groups) [] real = refl
real_sizes (g ∷ groups) (Singlet ∷ reps) real = real_sizes groups reps (first_passes is_real_rep Singlet reps real).1
real_sizes (g ∷ groups) (Adjoint ∷ reps) real =
    let same : (g.n == g.n) ≡ true = grind (arith, nat_tests) in
    ap₂ ◌&&◌ same (real_sizes groups reps (first_passes is_real_rep Adjoint reps real).1)
real_sizes (g ∷ groups) (Fund ∷ reps) real = let never : ⊥ = cc in absurd never
real_sizes (g ∷ groups) (Conj ∷ reps) real = let never : ⊥ = cc in absurd never
real_sizes (g ∷ groups) (Sym2 ∷ reps) real = let never : ⊥ = cc in absurd never
real_sizes (g ∷ groups) (Sym2Conj ∷ reps) real = let never : ⊥ = cc in absurd never
real_sizes (g ∷ groups) (Anti2 ∷ reps) real = let never : ⊥ = cc in absurd never
real_sizes (g ∷ groups) (Anti2Conj ∷ reps) real = let never : ⊥ = cc in absurd never
