-- Where each term after earlier ones leaves few directions, all together do.
use Rattle.std.proofs.Common.{◌≡◌, ℕ, Bool, true, false, cond, List, [], ◌∷◌, ◌++◌, Ordering, Less, Equal, Greater, refl, sym, ap, subst, ◌∙◌, arith, inl, inr, is_eq}
use Rattle.std.specs.Prelude.{◌||◌, not, nat_le, if◌then◌else◌}
use Rattle.std.specs.List.{filter, list_all, list_any}
use Rattle.std.specs.Ordering.{nat_cmp, bool_cmp, ordering_then}
use Rattle.std.proofs.lemmas.Bool.{cases_Bool}
use Rattle.std.proofs.lemmas.Bool.Decides.{nat_tests}
use Rattle.std.proofs.lemmas.List.Sums.{sum_by-append}
use Rattle.std.proofs.lemmas.List.Folds.{list_all-append}
use Rattle.exact_algebra.specs.Sums.{nat_equal}
use Rattle.model_core.specs.declared.fault.FaultPlace.{FaultPlace}
use Rattle.model_core.specs.declared.term.TermKind.{TermKind}
use Rattle.model_core.specs.declared.term.TermKind.TheVariants.{Fermion, Scalar}
use Rattle.model_core.specs.declared.content.FieldToken.{FieldToken}
use Rattle.model_core.specs.declared.content.SymbolBlock.{SymbolBlock}
use Rattle.model_core.specs.Fault.{key_place}
use Rattle.model_core.specs.Content.{kind_cmp, token_cmp, content_cmp, same_block, directions_in, block_directions, is_few, have_few_directions}
use Rattle.model_core.specs.TermWalk.{is_overfull, first_block, overfull_places, block_places}
use Rattle.model_core.proofs.ValidLaws.{both}

-- ---- contents that compare alike are the same

then_equal : (o r : Ordering) → ordering_then o r ≡ Equal → (o ≡ Equal) × (r ≡ Equal)
then_equal Less r same = let never : ⊥ = cc in absurd never
then_equal Equal r same = (refl, same)
then_equal Greater r same = let never : ⊥ = cc in absurd never

kind_equal : (a b : TermKind) → kind_cmp a b ≡ Equal → a ≡ b
kind_equal Fermion Fermion same = refl
kind_equal Fermion Scalar same = let never : ⊥ = cc in absurd never
kind_equal Scalar Fermion same = let never : ⊥ = cc in absurd never
kind_equal Scalar Scalar same = refl

bool_equal : (a b : Bool) → bool_cmp a b ≡ Equal → a ≡ b
bool_equal false false same = refl
bool_equal false true same = let never : ⊥ = cc in absurd never
bool_equal true false same = let never : ⊥ = cc in absurd never
bool_equal true true same = refl

token_equal : (a b : FieldToken) → token_cmp a b ≡ Equal → a ≡ b
token_equal a b same =
    let first = then_equal (kind_cmp a.kind b.kind) (ordering_then (nat_cmp a.field b.field) (ordering_then (bool_cmp a.conj b.conj) (nat_cmp a.generation b.generation))) same in
    let second = then_equal (nat_cmp a.field b.field) (ordering_then (bool_cmp a.conj b.conj) (nat_cmp a.generation b.generation)) first.1 in
    let third = then_equal (bool_cmp a.conj b.conj) (nat_cmp a.generation b.generation) second.1 in
    λ i. record { kind = kind_equal a.kind b.kind first.0 i; field = nat_equal a.field b.field second.0 i; conj = bool_equal a.conj b.conj third.0 i; generation = nat_equal a.generation b.generation third.1 i }

content_equal : (a b : List FieldToken) → content_cmp a b ≡ Equal → a ≡ b
content_equal [] [] same = refl
content_equal [] (y ∷ ys) same = let never : ⊥ = cc in absurd never
content_equal (x ∷ xs) [] same = let never : ⊥ = cc in absurd never
content_equal (x ∷ xs) (y ∷ ys) same =
    let parts = then_equal (token_cmp x y) (content_cmp xs ys) same in
    λ i. token_equal x y parts.0 i ∷ content_equal xs ys parts.1 i

is_equal : (o : Ordering) → is_eq o ≡ true → o ≡ Equal
is_equal Less same = let never : ⊥ = cc in absurd never
is_equal Equal same = refl
is_equal Greater same = let never : ⊥ = cc in absurd never

-- ---- directions of a block after more blocks

no_directions : (other : Bool) (count : ℕ) → other ≡ false → (if other then count else 0) ≡ 0
no_directions true count none = let never : ⊥ = cc in absurd never
no_directions false count none = refl

either_false : (a b : Bool) → (a || b) ≡ false → (a ≡ false) × (b ≡ false)
either_false false b none = (refl, none)
either_false true b none = let never : ⊥ = cc in absurd never

none_added : (block : List FieldToken) (more : List SymbolBlock) → list_any (λ other. same_block block other.block) more ≡ false → block_directions more block ≡ 0
none_added block [] none = refl
none_added block (other ∷ more) none =
    let parts = either_false (same_block block other.block) (list_any (λ other. same_block block other.block) more) none in
    rw (no_directions (same_block block other.block) other.directions parts.0) (none_added block more parts.1)

-- a block that is one of these is few where they are
few_alike : (all : List SymbolBlock) (block : SymbolBlock) (more : List SymbolBlock) → list_any (λ other. same_block block.block other.block) more ≡ true
    → list_all (is_few all) more ≡ true → is_few all block ≡ true
few_alike all block [] some few = let never : ⊥ = cc in absurd never
few_alike all block (other ∷ more) some few =
    let parts = both (is_few all other) (list_all (is_few all) more) few in
    elim (cases_Bool (same_block block.block other.block)) [
      | inl same ↦
          let equal = content_equal block.block other.block (is_equal (content_cmp block.block other.block) same) in
          subst (λ content. nat_le (block_directions all content) 4 ≡ true) (sym equal) parts.0
      | inr differs ↦
          let later : list_any (λ other. same_block block.block other.block) more ≡ true = sym (ap (λ here. here || list_any (λ other. same_block block.block other.block) more) differs) ∙ some in
          few_alike all block more later parts.1
    ]

few_still : (earlier more : List SymbolBlock) (block : SymbolBlock) → is_few earlier block ≡ true → list_all (is_few (earlier ++ more)) more ≡ true → is_few (earlier ++ more) block ≡ true
few_still earlier more block before few = elim (cases_Bool (list_any (λ other. same_block block.block other.block) more)) [
  | inl some ↦ few_alike (earlier ++ more) block more some few
  | inr none ↦
      let sum = sum_by-append (directions_in block.block) earlier more in
      let added = none_added block.block more none in
      grind (arith, nat_tests)
]

all_still : (earlier more some : List SymbolBlock) → list_all (is_few earlier) some ≡ true → list_all (is_few (earlier ++ more)) more ≡ true → list_all (is_few (earlier ++ more)) some ≡ true
all_still earlier more [] before few = refl
all_still earlier more (block ∷ some) before few =
    let parts = both (is_few earlier block) (list_all (is_few earlier) some) before in
    rw (few_still earlier more block parts.0 few) (all_still earlier more some parts.1 few)

-- ---- no bad place

none_overfull : (all blocks : List SymbolBlock) → filter (is_overfull all) blocks ≡ [] → list_all (is_few all) blocks ≡ true
none_overfull all [] none = refl
none_overfull all (block ∷ blocks) none = elim (cases_Bool (is_few all block)) [
  | inl few ↦
      let rest : filter (is_overfull all) blocks ≡ [] = sym (ap (λ here. cond (not here) (block ∷ filter (is_overfull all) blocks) (filter (is_overfull all) blocks)) few) ∙ none in
      rw few (none_overfull all blocks rest)
  | inr many ↦
      let some : block ∷ filter (is_overfull all) blocks ≡ [] = sym (ap (λ here. cond (not here) (block ∷ filter (is_overfull all) blocks) (filter (is_overfull all) blocks)) many) ∙ none in
      let never : ⊥ = cc in
      absurd never
]

none_first : (all : List SymbolBlock) (place : FaultPlace) (blocks : List SymbolBlock) → overfull_places all place (first_block blocks) ≡ [] → blocks ≡ []
none_first all place [] none = refl
none_first all place (block ∷ blocks) none = let never : ⊥ = cc in absurd never

-- a term's blocks without a bad place leave few directions
pub few_after : (earlier : List SymbolBlock) (place : FaultPlace) (blocks : List SymbolBlock) → have_few_directions earlier ≡ true → block_places earlier place blocks ≡ []
    → have_few_directions (earlier ++ blocks) ≡ true
unfolding block_places
few_after earlier place blocks before none =
    let few = none_overfull (earlier ++ blocks) blocks (none_first (earlier ++ blocks) (key_place place 0) (filter (is_overfull (earlier ++ blocks)) blocks) none) in
    list_all-append (is_few (earlier ++ blocks)) earlier blocks ∙ rw (all_still earlier blocks earlier before few) few
