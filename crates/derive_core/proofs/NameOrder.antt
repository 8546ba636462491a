-- The order of names, and names that are the same.
use Rattle.std.proofs.Common.{◌≡◌, ℕ, Bool, true, false, List, [], ◌∷◌, Ordering, Less, Equal, Greater, refl, sym, ap, ◌∙◌, arith}
use Rattle.std.specs.Prelude.{◌==◌, ◌&&◌}
use Rattle.std.specs.Cmp.{IsTotalOrder, nat_cmp_total, on_total, back_total, then_total, bool_cmp_total}
use Rattle.std.specs.Cmp.Lexicographic.{lists_total}
use Rattle.std.specs.Ordering.{nat_cmp, bool_cmp, ordering_then, ordering_reverse}
use Rattle.std.proofs.lemmas.Bool.Decides.{nat_tests}
use Rattle.exact_algebra.specs.Sums.{nat_equal}
use Rattle.term_expand.specs.declared.token.Token.{Token}
use Rattle.span_solver.specs.BlockDirections.{same_bool, same_token, same_name}
use Rattle.derive_core.specs.BlockBetas.{order_of_token, name_cmp}

-- ---- a total order

pub tokens_total : IsTotalOrder order_of_token
tokens_total =
    then_total (on_total (λ (t : Token). t.dummy) bool_cmp_total) (then_total (back_total (on_total (λ (t : Token). t.fermion) bool_cmp_total))
    (then_total (on_total (λ (t : Token). t.field) nat_cmp_total) (then_total (on_total (λ (t : Token). t.conj) bool_cmp_total) (on_total (λ (t : Token). t.generation) nat_cmp_total))))

pub names_total : IsTotalOrder name_cmp
names_total = lists_total tokens_total

pub greater_less : (a b : List Token) → name_cmp a b ≡ Greater → name_cmp b a ≡ Less
greater_less a b greater = names_total.antisymm b a ∙ ap ordering_reverse greater

-- ---- the same name

both_true : (a b : Bool) → (a && b) ≡ true → (a ≡ true) × (b ≡ true)
both_true true b same = (refl, same)
both_true false b same = let never : ⊥ = cc in absurd never

bool_same : (a b : Bool) → same_bool a b ≡ true → a ≡ b
bool_same true true same = refl
bool_same true false same = let never : ⊥ = cc in absurd never
bool_same false true same = let never : ⊥ = cc in absurd never
bool_same false false same = refl

bool_itself : (a : Bool) → same_bool a a ≡ true
bool_itself true = refl
bool_itself false = refl

number_same : (m n : ℕ) → (m == n) ≡ true → m ≡ n
number_same m n same = grind (arith, nat_tests)

number_itself : (n : ℕ) → (n == n) ≡ true
number_itself n = grind (arith, nat_tests)

pub token_same : (a b : Token) → same_token a b ≡ true → a ≡ b
token_same a b same =
    let first = both_true (same_bool a.fermion b.fermion) _ same in
    let second = both_true (a.field == b.field) _ first.1 in
    let third = both_true (same_bool a.conj b.conj) _ second.1 in
    let fourth = both_true (a.generation == b.generation) _ third.1 in
    λ i. record {
      fermion = bool_same a.fermion b.fermion first.0 i;
      field = number_same a.field b.field second.0 i;
      conj = bool_same a.conj b.conj third.0 i;
      generation = number_same a.generation b.generation fourth.0 i;
      dummy = bool_same a.dummy b.dummy fourth.1 i;
    }

token_itself : (a : Token) → same_token a a ≡ true
token_itself a =
    λ i. bool_itself a.fermion i && (number_itself a.field i && (bool_itself a.conj i && (number_itself a.generation i && bool_itself a.dummy i)))

pub name_same : (a b : List Token) → same_name a b ≡ true → a ≡ b
name_same [] [] same = refl
name_same [] (y ∷ ys) same = let never : ⊥ = cc in absurd never
name_same (x ∷ xs) [] same = let never : ⊥ = cc in absurd never
name_same (x ∷ xs) (y ∷ ys) same =
    let parts = both_true (same_token x y) (same_name xs ys) same in λ i. token_same x y parts.0 i ∷ name_same xs ys parts.1 i

pub name_itself : (a : List Token) → same_name a a ≡ true
name_itself [] = refl
name_itself (x ∷ xs) = λ i. token_itself x i && name_itself xs i

-- names that compare alike are the same
then_equal : (o r : Ordering) → ordering_then o r ≡ Equal → (o ≡ Equal) × (r ≡ Equal)
then_equal Less r same = let never : ⊥ = cc in absurd never
then_equal Equal r same = (refl, same)
then_equal Greater r same = let never : ⊥ = cc in absurd never

bool_equal : (a b : Bool) → bool_cmp a b ≡ Equal → a ≡ b
bool_equal false false same = refl
bool_equal false true same = let never : ⊥ = cc in absurd never
bool_equal true false same = let never : ⊥ = cc in absurd never
bool_equal true true same = refl

token_equal : (a b : Token) → order_of_token a b ≡ Equal → a ≡ b
token_equal a b same =
    let first = then_equal (bool_cmp a.dummy b.dummy) _ same in
    let second = then_equal (bool_cmp b.fermion a.fermion) _ first.1 in
    let third = then_equal (nat_cmp a.field b.field) _ second.1 in
    let fourth = then_equal (bool_cmp a.conj b.conj) _ third.1 in
    λ i. record {
      fermion = sym (bool_equal b.fermion a.fermion second.0) i;
      field = nat_equal a.field b.field third.0 i;
      conj = bool_equal a.conj b.conj fourth.0 i;
      generation = nat_equal a.generation b.generation fourth.1 i;
      dummy = bool_equal a.dummy b.dummy first.0 i;
    }

pub name_equal : (a b : List Token) → name_cmp a b ≡ Equal → a ≡ b
name_equal [] [] same = refl
name_equal [] (y ∷ ys) same = let never : ⊥ = cc in absurd never
name_equal (x ∷ xs) [] same = let never : ⊥ = cc in absurd never
name_equal (x ∷ xs) (y ∷ ys) same =
    let parts = then_equal (order_of_token x y) (name_cmp xs ys) same in λ i. token_equal x y parts.0 i ∷ name_equal xs ys parts.1 i
