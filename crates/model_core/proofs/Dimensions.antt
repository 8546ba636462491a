-- The sizes of dimensions and Dynkin indices, and the steps of the code over its slices.
use Rattle.std.proofs.Common.{◌≡◌, ℕ, zero, suc, ◌*◌, ◌^◌, ◌≤◌, true, List, [], ◌∷◌, take, drop, Some, refl, sym, ap, ap₂, ◌∙◌, arith}
use Rattle.std.specs.Prelude.{◌&&◌, slice_get}
use Rattle.std.proofs.lemmas.Option.{slice_get_within, get_or_from_slice_get}
use native.Mathlib.Nat.{mul-le-mul, pow-succ', pow-le-pow_right}
use Rattle.su_reps.specs.declared.rep.Rep.{Rep}
use Rattle.su_reps.specs.Operators.{doubled_index}
use Rattle.su_reps.proofs.Sizes.{doubled_index_small}
use Rattle.model_core.specs.declared.group.Group.{Group}
use Rattle.model_core.specs.Valid.{is_group, is_rep, are_reps, are_groups}
use Rattle.model_core.proofs.ValidLaws.{both, between, groups_pass}
use Rattle.model_core.proofs.CountLaws.{passes_at}

-- one group more
pub product_bound : (d m k l : ℕ) → d ≤ 36 → m ≤ 36 ^ k → l ≡ suc k → d * m ≤ 36 ^ l
product_bound d m k l small bound e = rw e (rw (pow-succ' 36 k) (mul-le-mul small bound))

pub four_fit : (l : ℕ) → l ≤ 4 → 36 ^ l ≤ 1679616
four_fit l few =
    let bound : 36 ^ l ≤ 36 ^ 4 = pow-le-pow_right (omega arith) few in
    omega arith

pub positive_power : (l : ℕ) → 1 ≤ 36 ^ l
positive_power zero = omega arith
positive_power (suc l) = let before = positive_power l in rw (pow-succ' 36 l) (omega (arith, before))

pub index_bound : (t n : ℕ) (rep : Rep) → t ≡ doubled_index rep n → 2 ≤ n → n ≤ 6 → t ≤ 12
index_bound t n rep is low high = omega (arith, is, doubled_index_small rep n low high)

-- a group among valid ones
pub group_passes_at : (groups : List Group) (i : ℕ) (g : Group) → are_groups groups ≡ true → slice_get groups i ≡ Some g → is_group g ≡ true
group_passes_at groups i g valid found =
    ap is_group (sym (get_or_from_slice_get groups i g g found)) ∙ passes_at is_group groups i g (groups_pass groups valid) (slice_get_within groups i g found)

pub group_limit_at : (groups : List Group) (i : ℕ) (g : Group) → are_groups groups ≡ true → slice_get groups i ≡ Some g → g.n ≤ 6
group_limit_at groups i g valid found = (between 1 6 g.n (group_passes_at groups i g valid found)).1

-- the representations under the groups before a place, and under those from a place on
pub are_reps-take : (groups : List Group) (reps : List Rep) (i : ℕ) → are_reps groups reps ≡ true → are_reps (take i groups) (take i reps) ≡ true
are_reps-take groups reps zero valid = refl
are_reps-take [] [] (suc i) valid = refl
are_reps-take [] (r ∷ reps) (suc i) valid = let never : ⊥ = cc in absurd never
are_reps-take (g ∷ groups) [] (suc i) valid = let never : ⊥ = cc in absurd never
are_reps-take (g ∷ groups) (r ∷ reps) (suc i) valid =
    let parts = both (is_rep g r) (are_reps groups reps) valid in
    ap₂ ◌&&◌ parts.0 (are_reps-take groups reps i parts.1)

pub are_reps-drop : (groups : List Group) (reps : List Rep) (i : ℕ) → are_reps groups reps ≡ true → are_reps (drop i groups) (drop i reps) ≡ true
are_reps-drop groups reps zero valid = valid
are_reps-drop [] [] (suc i) valid = refl
are_reps-drop [] (r ∷ reps) (suc i) valid = let never : ⊥ = cc in absurd never
are_reps-drop (g ∷ groups) [] (suc i) valid = let never : ⊥ = cc in absurd never
are_reps-drop (g ∷ groups) (r ∷ reps) (suc i) valid = are_reps-drop groups reps i (both (is_rep g r) (are_reps groups reps) valid).1

pub others_bound : (a b : ℕ) → a ≤ 1679616 → b ≤ 1679616 → a * b ≤ 1679616 * 1679616
others_bound a b first second = mul-le-mul first second

pub multiplicity_bound : (g o : ℕ) → g ≤ 6 → o ≤ 1679616 * 1679616 → g * o ≤ 6 * (1679616 * 1679616)
multiplicity_bound g o few most = mul-le-mul few most

pub field_index_bound : (m t : ℕ) → m ≤ 6 * (1679616 * 1679616) → t ≤ 12 → m * t ≤ 2 ^ 50
field_index_bound m t most small =
    let product : m * t ≤ 16926659444736 * 12 = mul-le-mul most small in
    omega arith

pub field_size_bound : (g m k : ℕ) → g ≤ 6 → k ≤ 4 → m ≤ 36 ^ k → g * m ≤ 10077696
field_size_bound g m k few short bound =
    let most : m ≤ 1679616 = omega (arith, bound, four_fit k short) in
    mul-le-mul few most
