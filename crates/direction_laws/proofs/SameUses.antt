-- Monomials of one content have the same fields in some order.
use Rattle.std.proofs.Common.{◌≡◌, ℕ, suc, ◌+◌, Bool, true, false, cond, List, [], ◌∷◌, length, refl, sym, subst, ap, ◌∙◌, arith}
use Rattle.std.specs.Prelude.{◌==◌, ◌&&◌}
use Rattle.std.specs.List.{AllByRecursion, count_by, list_all}
use Rattle.std.proofs.lemmas.Bool.Decides.{nat_tests}
use Rattle.std.proofs.lemmas.List.Sums.{sum_by-cons}
use Rattle.exact_algebra.specs.Orders.{Rearranged, same, keep, swap, then as thereafter}
use Rattle.model_core.specs.declared.content.FieldUse.{FieldUse}
use Rattle.model_core.specs.declared.term.Generation.{Generation}
use Rattle.model_core.specs.declared.term.Generation.TheVariants.{Fixed, Row, Column}
use Rattle.model_core.specs.declared.term.TermKind.{TermKind}
use Rattle.model_core.specs.declared.term.TermKind.TheVariants.{Fermion, Scalar}
use Rattle.model_core.specs.Component.{same_side}
use Rattle.model_core.specs.Content.{same_kind, same_generation, same_use, equally_often, same_uses}
use Rattle.model_core.proofs.ValidLaws.{both}
use Rattle.direction_laws.proofs.Sorting.{all_weaker}

-- ---- the test

kinds_alike : (a b : TermKind) → same_kind a b ≡ true → a ≡ b
kinds_alike Fermion Fermion h = refl
kinds_alike Fermion Scalar h = let never : ⊥ = cc in absurd never
kinds_alike Scalar Fermion h = let never : ⊥ = cc in absurd never
kinds_alike Scalar Scalar h = refl

pub sides_alike : (a b : Bool) → same_side a b ≡ true → a ≡ b
sides_alike true true h = refl
sides_alike true false h = let never : ⊥ = cc in absurd never
sides_alike false true h = let never : ⊥ = cc in absurd never
sides_alike false false h = refl

pub numbers_alike : (a b : ℕ) → (a == b) ≡ true → a ≡ b
numbers_alike a b h = grind (arith, nat_tests)

generations_alike : (a b : Generation) → same_generation a b ≡ true → a ≡ b
generations_alike (Fixed a) (Fixed b) h = ap Fixed (numbers_alike a b h)
generations_alike (Fixed a) Row h = let never : ⊥ = cc in absurd never
generations_alike (Fixed a) Column h = let never : ⊥ = cc in absurd never
generations_alike Row (Fixed b) h = let never : ⊥ = cc in absurd never
generations_alike Row Row h = refl
generations_alike Row Column h = let never : ⊥ = cc in absurd never
generations_alike Column (Fixed b) h = let never : ⊥ = cc in absurd never
generations_alike Column Row h = let never : ⊥ = cc in absurd never
generations_alike Column Column h = refl

uses_alike : (a b : FieldUse) → same_use a b ≡ true → a ≡ b
uses_alike a b h =
    let first = both ((same_kind a.kind b.kind && a.field == b.field) && same_side a.conj b.conj) (same_generation a.generation b.generation) h in
    let second = both (same_kind a.kind b.kind && a.field == b.field) (same_side a.conj b.conj) first.0 in
    let third = both (same_kind a.kind b.kind) (a.field == b.field) second.0 in
    λ i. record {
      kind = kinds_alike a.kind b.kind third.0 i;
      field = numbers_alike a.field b.field third.1 i;
      conj = sides_alike a.conj b.conj second.1 i;
      generation = generations_alike a.generation b.generation first.1 i;
    }

kind_itself : (a : TermKind) → same_kind a a ≡ true
kind_itself Fermion = refl
kind_itself Scalar = refl

pub side_itself : (b : Bool) → same_side b b ≡ true
side_itself true = refl
side_itself false = refl

pub number_itself : (n : ℕ) → (n == n) ≡ true
number_itself n = grind (arith, nat_tests)

generation_itself : (a : Generation) → same_generation a a ≡ true
generation_itself (Fixed a) = number_itself a
generation_itself Row = refl
generation_itself Column = refl

use_itself : (a : FieldUse) → same_use a a ≡ true
use_itself a =
    λ i. ((kind_itself a.kind i && number_itself a.field i) && side_itself a.conj i) && generation_itself a.generation i

-- ---- counts

abbrev one_if : Bool → ℕ
one_if b = cond b 1 0

count-cons : (p : FieldUse → Bool) (x : FieldUse) (xs : List FieldUse) → count_by p (x ∷ xs) ≡ one_if (p x) + count_by p xs
count-cons p x xs = sum_by-cons (λ (y : FieldUse). cond (p y) 1 0) x xs

count-rearranged : (p : FieldUse → Bool) {xs ys : List FieldUse} → Rearranged xs ys → count_by p xs ≡ count_by p ys
count-rearranged p same = refl
count-rearranged p (keep {x = x} {xs = xs} {ys = ys} r) = count-cons p x xs ∙ ap (λ n. one_if (p x) + n) (count-rearranged p r) ∙ sym (count-cons p x ys)
count-rearranged p (swap {x = x} {y = y} {xs = xs}) =
    let first = count-cons p x (y ∷ xs) in
    let second = count-cons p y xs in
    let third = count-cons p y (x ∷ xs) in
    let fourth = count-cons p x xs in
    omega (arith, first, second, third, fourth)
count-rearranged p (thereafter r s) = count-rearranged p r ∙ count-rearranged p s

length-rearranged : {xs ys : List FieldUse} → Rearranged xs ys → length xs ≡ length ys
length-rearranged same = refl
length-rearranged (keep r) = ap suc (length-rearranged r)
length-rearranged swap = refl
length-rearranged (thereafter r s) = length-rearranged r ∙ length-rearranged s

-- one that stands somewhere, taken out
picked : (x : FieldUse) (ys : List FieldUse) (n : ℕ) → count_by (same_use x) ys ≡ suc n → (rest : List FieldUse) × Rearranged (x ∷ rest) ys
picked x [] n h = let never : ⊥ = omega (arith, h) in absurd never
picked x (y ∷ ys) n h = by_test (same_use x y) refl (λ later. picked x ys n later)
  where
    by_test : (b : Bool) → same_use x y ≡ b → (count_by (same_use x) ys ≡ suc n → (rest : List FieldUse) × Rearranged (x ∷ rest) ys) → (rest : List FieldUse) × Rearranged (x ∷ rest) (y ∷ ys)
    by_test true e others = (ys, subst (λ z. Rearranged (x ∷ ys) (z ∷ ys)) (uses_alike x y e) same)
    by_test false e others =
        let zero_here : one_if (same_use x y) ≡ 0 = ap one_if e in
        let counted = count-cons (same_use x) y ys in
        let later : count_by (same_use x) ys ≡ suc n = omega (arith, h, zero_here, counted) in
        let more = others later in
        (y ∷ more.0, thereafter swap (keep more.1))

-- each field of the first list stands as often in the second one
rearranged_from : (a b : List FieldUse) → length a ≡ length b → AllByRecursion (λ y. count_by (same_use y) a ≡ count_by (same_use y) b) a → Rearranged a b
rearranged_from [] [] long each = same
rearranged_from [] (y ∷ b) long each = let never : ⊥ = omega (arith, long) in absurd never
rearranged_from (x ∷ a) b long each =
    let one : one_if (same_use x x) ≡ 1 = ap one_if (use_itself x) in
    let counted = count-cons (same_use x) x a in
    let first = each.0 in
    let here : count_by (same_use x) b ≡ suc (count_by (same_use x) a) = omega (arith, one, counted, first) in
    let found = picked x b (count_by (same_use x) a) here in
    let longer = length-rearranged found.1 in
    let still : length a ≡ length found.0 = omega (arith, long, longer) in
    thereafter (keep (rearranged_from a found.0 still (all_weaker (λ y. count_by (same_use y) (x ∷ a) ≡ count_by (same_use y) b) (λ y. count_by (same_use y) a ≡ count_by (same_use y) found.0) a (λ y e. less_one y found.0 found.1 e) each.1))) found.1
  where
    less_one : (y : FieldUse) (rest : List FieldUse) → Rearranged (x ∷ rest) b → count_by (same_use y) (x ∷ a) ≡ count_by (same_use y) b → count_by (same_use y) a ≡ count_by (same_use y) rest
    less_one y rest r e =
        let first = count-cons (same_use y) x a in
        let second = count-cons (same_use y) x rest in
        let third = count-rearranged (same_use y) r in
        omega (arith, first, second, third, e)

pub each_passes : {A : Type 0} (test : A → Bool) (xs : List A) → list_all test xs ≡ true → AllByRecursion (λ x. test x ≡ true) xs
each_passes test [] h = tt
each_passes test (x ∷ xs) h = let parts = both (test x) (list_all test xs) h in (parts.0, each_passes test xs parts.1)

pub same_fields : (a b : List FieldUse) → same_uses a b ≡ true → Rearranged a b
same_fields a b h =
    let parts = both (length a == length b) (list_all (equally_often a b) a) h in
    rearranged_from a b (numbers_alike (length a) (length b) parts.0)
    (all_weaker (λ y. equally_often a b y ≡ true) (λ y. count_by (same_use y) a ≡ count_by (same_use y) b) a (λ y e. numbers_alike (count_by (same_use y) a) (count_by (same_use y) b) e) (each_passes (equally_often a b) a parts.1))
