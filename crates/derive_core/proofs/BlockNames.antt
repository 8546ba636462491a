-- Names of blocks that are the same, and blocks that are named alike.
use Rattle.std.specs.Prelude.{◌≡◌, ◌==◌, ◌&&◌, ◌-◌, ℕ, zero, suc, Bool, true, false, List, [], ◌∷◌, ◌++◌, map, length, replicate}
use Rattle.std.proofs.Common.{refl, sym, ap, ap₂, ◌∙◌, arith, true≢false}
use Rattle.std.proofs.lemmas.Bool.Decides.{nat_tests}
use Rattle.model_core.specs.declared.content.FieldToken.{FieldToken}
use Rattle.model_core.specs.declared.term.TermKind.{TermKind}
use Rattle.model_core.specs.declared.term.TermKind.TheVariants.{Fermion, Scalar}
use Rattle.model_core.specs.Content.{is_fermionic}
use Rattle.model_core.specs.Directions.{Direction}
use Rattle.model_core.proofs.ValidLaws.{both}
use Rattle.term_expand.specs.declared.token.Token.{Token}
use Rattle.term_expand.specs.Texts.{leg_count}
use Rattle.term_expand.specs.Tokens.{token_of, dummy_token}
use Rattle.span_solver.specs.BlockDirections.{same_bool, same_token, same_name}
use Rattle.derive_core.specs.Blocks.{name_of}

-- ---- the test

bool_tied : (b : Bool) → same_bool b b ≡ true
bool_tied true = refl
bool_tied false = refl

nat_tied : (n : ℕ) → (n == n) ≡ true
nat_tied n = grind (arith, nat_tests)

token_tied : (t : Token) → same_token t t ≡ true
token_tied t = ap₂ ◌&&◌ (bool_tied t.fermion) (ap₂ ◌&&◌ (nat_tied t.field) (ap₂ ◌&&◌ (bool_tied t.conj) (ap₂ ◌&&◌ (nat_tied t.generation) (bool_tied t.dummy))))

pub name_tied : (name : List Token) → same_name name name ≡ true
name_tied [] = refl
name_tied (t ∷ name) = ap₂ ◌&&◌ (token_tied t) (name_tied name)

bool_same : (a b : Bool) → same_bool a b ≡ true → a ≡ b
bool_same true true same = refl
bool_same true false same = absurd (true≢false (sym same))
bool_same false true same = absurd (true≢false (sym same))
bool_same false false same = refl

pub nat_same : (m n : ℕ) → (m == n) ≡ true → m ≡ n
nat_same m n same = grind (arith, nat_tests)

token_same : (a b : Token) → same_token a b ≡ true → a ≡ b
token_same a b same =
    let first = both (same_bool a.fermion b.fermion) _ same in
    let second = both (a.field == b.field) _ first.1 in
    let third = both (same_bool a.conj b.conj) _ second.1 in
    let fourth = both (a.generation == b.generation) (same_bool a.dummy b.dummy) third.1 in
    λ i. record {
      fermion = bool_same a.fermion b.fermion first.0 i;
      field = nat_same a.field b.field second.0 i;
      conj = bool_same a.conj b.conj third.0 i;
      generation = nat_same a.generation b.generation fourth.0 i;
      dummy = bool_same a.dummy b.dummy fourth.1 i;
    }

pub name_same : (a b : List Token) → same_name a b ≡ true → a ≡ b
name_same [] [] same = refl
name_same [] (y ∷ b) same = absurd (true≢false (sym same))
name_same (x ∷ a) [] same = absurd (true≢false (sym same))
name_same (x ∷ a) (y ∷ b) same =
    let parts = both (same_token x y) (same_name a b) same in
    ap₂ ◌∷◌ (token_same x y parts.0) (name_same a b parts.1)

-- ---- blocks of one name

abbrev first_or : Token → List Token → Token
first_or d [] = d
first_or d (x ∷ xs) = x

abbrev others : List Token → List Token
others [] = []
others (x ∷ xs) = xs

kind_by : (a b : TermKind) → is_fermionic a ≡ is_fermionic b → a ≡ b
kind_by Fermion Fermion same = refl
kind_by Fermion Scalar same = absurd (true≢false same)
kind_by Scalar Fermion same = absurd (true≢false (sym same))
kind_by Scalar Scalar same = refl

field_token : (x y : FieldToken) → token_of x ≡ token_of y → x ≡ y
field_token x y same =
    λ i. record {
      kind = kind_by x.kind y.kind (ap (λ t. t.fermion) same) i;
      field = ap (λ t. t.field) same i;
      conj = ap (λ t. t.conj) same i;
      generation = ap (λ t. t.generation) same i;
    }

abbrev filled : List FieldToken → ℕ → List Token
filled block count = map token_of block ++ replicate count dummy_token

-- a field is no dummy
no_dummy : (x : FieldToken) (rest : List Token) (count : ℕ) → token_of x ∷ rest ≡ replicate count dummy_token → ⊥
no_dummy x rest zero same = true≢false (ap (λ ts. (first_or dummy_token ts).dummy) (sym same) ∙ refl)
no_dummy x rest (suc count) same = true≢false (sym (ap (λ ts. (first_or dummy_token ts).dummy) same))

block_alike : (a b : List FieldToken) (m n : ℕ) → filled a m ≡ filled b n → a ≡ b
block_alike [] [] m n same = refl
block_alike [] (y ∷ b) m n same = absurd (no_dummy y (filled b n) m (sym same))
block_alike (x ∷ a) [] m n same = absurd (no_dummy x (filled a m) n same)
block_alike (x ∷ a) (y ∷ b) m n same =
    ap₂ ◌∷◌ (field_token x y (ap (first_or dummy_token) same)) (block_alike a b m n (ap others same))

pub blocks_alike : (a b : Direction) → name_of a ≡ name_of b → a.block ≡ b.block
blocks_alike a b same = block_alike a.block b.block (leg_count a.kind - length a.block) (leg_count b.kind - length b.block) same
