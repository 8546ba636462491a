-- How many tuples there are, and which stands at a place.
use Rattle.std.proofs.Common.{◌≡◌, ℕ, zero, suc, ◌+◌, ◌*◌, ◌/◌, ◌%◌, ◌^◌, ◌<◌, ◌≤◌, true, List, [], ◌∷◌, length, get_or, Some, refl, sym, ap, ◌∙◌, arith}
use Rattle.std.specs.Prelude.{slice_get}
use Rattle.std.specs.List.{list_all, range_with_len}
use Rattle.std.proofs.lemmas.List.FromFn.{length-range_with_len}
use Rattle.su_reps.specs.declared.rep.Rep.{Rep}
use Rattle.su_reps.specs.declared.rep.Rep.TheVariants.{Singlet, Fund, Conj, Adjoint, Sym2, Sym2Conj, Anti2, Anti2Conj}
use Rattle.su_reps.specs.Tuples.{slots}
use Rattle.model_core.specs.declared.group.Group.{Group}
use Rattle.model_core.specs.Component.{slot_sizes, tuples}
use Rattle.model_core.specs.Place.{tuple_at}
use Rattle.std.proofs.Math.Nat.{div-lt_iff_lt-mul}
use native.Mathlib.Nat.{mul_comm, mul-le-mul, pow-succ', pow-le-pow_right}
use Rattle.model_core.specs.Groups.{is_between}
use Rattle.exact_algebra.specs.Blocks.{length-blocks, block_at}
use Rattle.exact_algebra.specs.Slices.{tail, cons_tail}
use Rattle.model_core.proofs.ValidLaws.{between, first_passes}

pub slots_few : (rep : Rep) → slots rep ≤ 2
slots_few Singlet = omega arith
slots_few Fund = omega arith
slots_few Conj = omega arith
slots_few Adjoint = omega arith
slots_few Sym2 = omega arith
slots_few Sym2Conj = omega arith
slots_few Anti2 = omega arith
slots_few Anti2Conj = omega arith

-- one slot more
pub length-tuples : (n : ℕ) (sizes : List ℕ) → length (tuples (n ∷ sizes)) ≡ n * length (tuples sizes)
length-tuples n sizes = length-blocks (λ a p. a ∷ p) (tuples sizes) (range_with_len 1 n) ∙ ap (λ k. k * length (tuples sizes)) (length-range_with_len 1 n)

pub range_at : (a n i : ℕ) → i < n → slice_get (range_with_len a n) i ≡ Some (i + a)
range_at a zero i h = absurd (omega arith)
range_at a (suc n) zero h = ap Some (omega arith)
range_at a (suc n) (suc i) h = range_at (a + 1) n i (omega arith) ∙ ap Some (omega arith)

-- ---- the tuple at a place

pub by_parts : (n m place : ℕ) → 1 ≤ m → place < n * m → (place / m < n) × (place % m < m) × (place / m * m + place % m ≡ place)
by_parts n m place positive h = ((div-lt_iff_lt-mul positive).1 h, omega arith, omega (arith, ap (λ k. k) (mul_comm m (place / m))))

pub tuples_positive : (n : ℕ) (sizes : List ℕ) (place : ℕ) → place < length (tuples (n ∷ sizes)) → 1 ≤ length (tuples sizes)
tuples_positive n sizes place h = positive_factor n (length (tuples sizes)) place (omega (arith, h, length-tuples n sizes))
  where
    positive_factor : (n m place : ℕ) → place < n * m → 1 ≤ m
    positive_factor n zero place h = absurd (omega (arith, h))
    positive_factor n (suc m) place h = omega arith

pub tuple_at_place : (sizes : List ℕ) (place : ℕ) → place < length (tuples sizes) → slice_get (tuples sizes) place ≡ Some (tuple_at sizes place)
tuple_at_place [] zero h = refl
tuple_at_place [] (suc place) h = absurd (omega arith)
tuple_at_place (n ∷ sizes) place h =
    let m = length (tuples sizes) in
    let parts = by_parts n m place (tuples_positive n sizes place h) (omega (arith, h, length-tuples n sizes)) in
    ap (slice_get (tuples (n ∷ sizes))) (sym parts.2)
    ∙ block_at (λ a p. a ∷ p) (tuples sizes) (range_with_len 1 n) (place / m) (place % m) (place / m + 1) (tuple_at sizes (place % m)) (range_at 1 n (place / m) parts.0) (tuple_at_place sizes (place % m) parts.1)

-- ---- the steps of the code over its slices

pub tuple_count-step : (sizes : List ℕ) → 1 ≤ length sizes → get_or sizes 0 0 * length (tuples (tail sizes)) ≡ length (tuples sizes)
tuple_count-step sizes h = sym (length-tuples (get_or sizes 0 0) (tail sizes)) ∙ ap (λ s. length (tuples s)) (sym (cons_tail sizes 0 h))

pub first_small : (sizes : List ℕ) → 1 ≤ length sizes → list_all (is_between 1 6) sizes ≡ true → (1 ≤ get_or sizes 0 0) × (get_or sizes 0 0 ≤ 6)
first_small [] h small = absurd (omega arith)
first_small (n ∷ sizes) h small = between 1 6 n (first_passes (is_between 1 6) n sizes small).0

-- one slot more, of at most 6 values
pub product_bound : (n m k l : ℕ) → n ≤ 6 → m ≤ 6 ^ k → l ≡ suc k → n * m ≤ 6 ^ l
product_bound n m k l small bound e = rw e (rw (pow-succ' 6 k) (mul-le-mul small bound))

-- the products of at most 12 sizes fit in 32 bits
pub twelve_fit : (l : ℕ) → l ≤ 12 → 6 ^ l < 2 ^ 32
twelve_fit l few =
    let bound : 6 ^ l ≤ 6 ^ 12 = pow-le-pow_right (omega arith) few in
    omega arith

pub slot_sizes-no_group : (groups : List Group) (reps : List Rep) → length groups < 1 → slot_sizes groups reps ≡ []
slot_sizes-no_group [] reps h = refl
slot_sizes-no_group (g ∷ groups) reps h = absurd (omega arith)

pub slot_sizes-no_rep : (groups : List Group) (reps : List Rep) → length reps < 1 → slot_sizes groups reps ≡ []
slot_sizes-no_rep [] reps h = refl
slot_sizes-no_rep (g ∷ groups) [] h = refl
slot_sizes-no_rep (g ∷ groups) (r ∷ reps) h = absurd (omega arith)
