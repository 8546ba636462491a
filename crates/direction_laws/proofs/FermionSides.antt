-- A content with fermions comes before its conjugate, so that it is the block's own.
use Rattle.std.proofs.Common.{◌≡◌, Bool, true, false, List, [], ◌∷◌, map, Ordering, Less, Equal, Greater, refl, sym, ap, ap₂, ◌∙◌}
use Rattle.std.specs.Prelude.{if◌then◌else◌, not, ◌&&◌, slice_get}
use Rattle.std.specs.List.{AllByRecursion}
use Rattle.std.specs.Ordering.{bool_cmp, nat_cmp, is_eq, ordering_then}
use Rattle.std.specs.Cmp.{tied_itself}
use Rattle.exact_algebra.specs.Orders.{Rearranged, Rearranged-sym}
use Rattle.model_core.specs.declared.content.FieldToken.{FieldToken}
use Rattle.model_core.specs.declared.model.Model.{Model}
use Rattle.model_core.specs.declared.term.TermKind.{TermKind}
use Rattle.model_core.specs.declared.term.TermKind.TheVariants.{Fermion, Scalar}
use Rattle.model_core.specs.Content.{is_fermionic, is_real, kind_cmp, token_cmp, is_before, sorted, conjugate_token, conjugate_content, content_cmp, block_of}
use Rattle.model_core.specs.BlockSide.{side_of}
use Rattle.direction_laws.proofs.Sorting.{tokens_total, before, sorted_is, all_rearranged, all_weaker, IsLowFirst, sorted_low}
use Rattle.direction_laws.proofs.Blocks.{content_itself}

-- a fermion isn't conjugated
abbrev pub IsPlain : FieldToken → Type 0
IsPlain t = t.kind ≡ Fermion → t.conj ≡ false

abbrev pub IsScalar : FieldToken → Type 0
IsScalar t = t.kind ≡ Scalar

-- of two fermions the conjugated one comes later, where the other isn't behind it
later : (o r s : Ordering) → is_before (ordering_then o r) ≡ false → ordering_then o (ordering_then Greater s) ≡ Greater
later Less r s h = let never : ⊥ = cc in absurd never
later Equal r s h = refl
later Greater r s h = refl

turned : (model : Model) (u : FieldToken) → u.kind ≡ Fermion → conjugate_token model u ≡ record { kind = u.kind; field = u.field; conj = not u.conj; generation = u.generation }
turned model u h =
    ap (λ (k : TermKind). if not (is_fermionic k) && is_real (slice_get model.scalars u.field) then u else record u { conj = not u.conj }) h

conjugate_later : (model : Model) (u h : FieldToken) → u.kind ≡ Fermion → h.kind ≡ Fermion → u.conj ≡ false → h.conj ≡ false → before u h ≡ false → token_cmp (conjugate_token model u) h ≡ Greater
conjugate_later model u h ku kh cu ch low =
    let rest = ordering_then (bool_cmp u.conj h.conj) (nat_cmp u.generation h.generation) in
    let short : token_cmp u h ≡ ordering_then (nat_cmp u.field h.field) rest = ap₂ (λ k l. ordering_then (kind_cmp k l) (ordering_then (nat_cmp u.field h.field) rest)) ku kh in
    let behind : is_before (ordering_then (nat_cmp u.field h.field) rest) ≡ false = ap is_before (sym short) ∙ low in
    ap (λ t. token_cmp t h) (turned model u ku)
    ∙ ap₂ (λ k l. ordering_then (kind_cmp k l) (ordering_then (nat_cmp u.field h.field) (ordering_then (bool_cmp (not u.conj) h.conj) (nat_cmp u.generation h.generation)))) ku kh
    ∙ ap₂ (λ c d. ordering_then (nat_cmp u.field h.field) (ordering_then (bool_cmp (not c) d) (nat_cmp u.generation h.generation))) cu ch
    ∙ later (nat_cmp u.field h.field) rest (nat_cmp u.generation h.generation) behind

-- a scalar has no fermion behind it
scalar_behind : (u h : FieldToken) → h.kind ≡ Scalar → before u h ≡ false → IsScalar u
scalar_behind u h kh low = by_kind u.kind refl
  where
    rest : Ordering
    rest = ordering_then (nat_cmp u.field h.field) (ordering_then (bool_cmp u.conj h.conj) (nat_cmp u.generation h.generation))

    by_kind : (k : TermKind) → u.kind ≡ k → IsScalar u
    by_kind Scalar e = e
    by_kind Fermion e =
        let first : token_cmp u h ≡ Less = ap₂ (λ k l. ordering_then (kind_cmp k l) rest) e kh in
        let never : true ≡ false = ap is_before (sym first) ∙ low in cc

kind_kept : (model : Model) (u : FieldToken) → (conjugate_token model u).kind ≡ u.kind
kind_kept model u = by_real (not (is_fermionic u.kind) && is_real (slice_get model.scalars u.field))
  where
    by_real : (b : Bool) → (if b then u else record u { conj = not u.conj }).kind ≡ u.kind
    by_real true = refl
    by_real false = refl

-- what holds of the conjugates of tokens
all_map : (P Q : FieldToken → Type 0) (f : FieldToken → FieldToken) (ts : List FieldToken) → ((t : FieldToken) → P t → Q (f t)) → AllByRecursion P ts → AllByRecursion Q (map f ts)
all_map P Q f [] step h = tt
all_map P Q f (t ∷ ts) step h = (step t h.0, all_map P Q f ts step h.1)

all_unmap : (P Q : FieldToken → Type 0) (f : FieldToken → FieldToken) (ts : List FieldToken) → ((t : FieldToken) → Q (f t) → P t) → AllByRecursion Q (map f ts) → AllByRecursion P ts
all_unmap P Q f [] step h = tt
all_unmap P Q f (t ∷ ts) step h = (step t h.0, all_unmap P Q f ts step h.1)

all_both : (P Q : FieldToken → Type 0) (ts : List FieldToken) → AllByRecursion P ts → AllByRecursion Q ts → AllByRecursion (λ t. P t × Q t) ts
all_both P Q [] h k = tt
all_both P Q (t ∷ ts) h k = ((h.0, k.0), all_both P Q ts h.1 k.1)

-- the first of a content with a fermion is one
first_fermion : (h : FieldToken) (rest : List FieldToken) → IsLowFirst (h ∷ rest) → (AllByRecursion IsScalar (h ∷ rest) → ⊥) → h.kind ≡ Fermion
first_fermion h rest low some = by_kind h.kind refl
  where
    by_kind : (k : TermKind) → h.kind ≡ k → h.kind ≡ Fermion
    by_kind Fermion e = e
    by_kind Scalar e = absurd (some (e, all_weaker (λ u. before u h ≡ false) IsScalar rest (λ u l. scalar_behind u h e l) low))

then_greater : (o r : Ordering) → o ≡ Greater → ordering_then o r ≡ Greater
then_greater o r h = ap (λ o. ordering_then o r) h

-- of contents by their first tokens
conjugate_greater : (model : Model) (c d : List FieldToken) → IsLowFirst c → IsLowFirst d → Rearranged (map (conjugate_token model) c) d → AllByRecursion IsPlain c → (AllByRecursion IsScalar c → ⊥) → content_cmp d c ≡ Greater
conjugate_greater model [] d low deep moved plain some = absurd (some tt)
conjugate_greater model (h ∷ rest) [] low deep moved plain some = absurd (some (scalars (h ∷ rest) (Rearranged-sym moved)))
  where
    scalars : (ts : List FieldToken) → Rearranged [] (map (conjugate_token model) ts) → AllByRecursion IsScalar ts
    scalars ts r = all_unmap IsScalar IsScalar (conjugate_token model) ts (λ t k. sym (kind_kept model t) ∙ k) (all_rearranged IsScalar r tt)
conjugate_greater model (h ∷ rest) (g ∷ others) low deep moved plain some =
    let is_first : h.kind ≡ Fermion = first_fermion h rest low some in
    let some_there : AllByRecursion IsScalar (g ∷ others) → ⊥ = λ all. some (all_unmap IsScalar IsScalar (conjugate_token model) (h ∷ rest) (λ t k. sym (kind_kept model t) ∙ k) (all_rearranged IsScalar (Rearranged-sym moved) all)) in
    let is_there : g.kind ≡ Fermion = first_fermion g others deep some_there in
    let itself : before h h ≡ false = ap is_before (tied_itself tokens_total h) in
    let each : AllByRecursion (λ t. IsPlain t × (before t h ≡ false)) (h ∷ rest) = all_both IsPlain (λ t. before t h ≡ false) (h ∷ rest) plain (itself, low) in
    let turned_all : AllByRecursion (λ t. t.kind ≡ Fermion → token_cmp t h ≡ Greater) (map (conjugate_token model) (h ∷ rest)) =
    all_map (λ t. IsPlain t × (before t h ≡ false)) (λ t. t.kind ≡ Fermion → token_cmp t h ≡ Greater) (conjugate_token model) (h ∷ rest)
    (λ t both k. let kind : t.kind ≡ Fermion = sym (kind_kept model t) ∙ k in conjugate_later model t h kind is_first (both.0 kind) (plain.0 is_first) both.1) each in
    let there = all_rearranged (λ t. t.kind ≡ Fermion → token_cmp t h ≡ Greater) moved turned_all in
    then_greater (token_cmp g h) (content_cmp others rest) (there.0 is_there)

-- ---- sides

-- tokens with a fermion, of which none is conjugated
pub record AreFermionic (ts : List FieldToken) : Type 0 where
  pub plain : AllByRecursion IsPlain ts
  pub some : AllByRecursion IsScalar ts → ⊥

module _ (model : Model) (ts : List FieldToken) (are : AreFermionic ts) where
  greater : content_cmp (conjugate_content model (sorted ts)) (sorted ts) ≡ Greater
  greater =
      conjugate_greater model (sorted ts) (conjugate_content model (sorted ts)) (sorted_low ts) (sorted_low (map (conjugate_token model) (sorted ts)))
      (sorted_is (map (conjugate_token model) (sorted ts))) (all_rearranged IsPlain (sorted_is ts) are.plain)
      (λ all. are.some (all_rearranged IsScalar (Rearranged-sym (sorted_is ts)) all))

  own_block : block_of model (sorted ts) ≡ sorted ts
  own_block = ap (λ o. if is_before o then conjugate_content model (sorted ts) else sorted ts) greater

  -- the content is on side 0, and the conjugate one on side 1
  pub plain_side : side_of (block_of model (sorted ts)) (sorted ts) ≡ 0
  plain_side = ap (λ b. side_of b (sorted ts)) own_block ∙ ap (λ (b : Bool). if b then 0 else 1) (content_itself (sorted ts))

  pub conjugate_side : side_of (block_of model (sorted ts)) (conjugate_content model (sorted ts)) ≡ 1
  conjugate_side = ap (λ b. side_of b (conjugate_content model (sorted ts))) own_block ∙ ap (λ o. if is_eq o then 0 else 1) greater
