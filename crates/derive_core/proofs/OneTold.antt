-- What is told of a model is unique.
use Rattle.std.proofs.Common.{◌≡◌, List, [], ◌∷◌, Less, refl, sym, ap, ap₂, subst, ◌∙◌, inl, inr, arith}
use Rattle.std.specs.Prelude.{suc}
use Rattle.std.specs.List.{All}
use Rattle.std.specs.Cmp.{tied_itself}
use Rattle.model_core.specs.declared.model.Model.{Model}
use Rattle.model_core.specs.Directions.{directions}
use Rattle.term_expand.specs.declared.token.Token.{Token}
use Rattle.span_solver.specs.Dependence.{AreIndependent}
use Rattle.span_solver.proofs.Unique.{unique}
use Rattle.span_solver.proofs.OpenKeys.{one_open_key, no_coordinates}
use Rattle.derive_core.specs.Blocks.{numbers_of, NoneIsDependent}
use Rattle.derive_core.specs.BlockBetas.{name_cmp, block_beta}
use Rattle.derive_core.specs.Outcomes.{IsOutcome, IsTold, Ascend, IsAmong, AreTold}
use Rattle.derive_core.specs.declared.outcomes.Outcome.{Outcome}
use Rattle.derive_core.specs.declared.outcomes.Outcome.TheVariants.{Spanned, Unspanned}
use Rattle.derive_core.specs.declared.outcomes.Told.{Told}
use Rattle.derive_core.proofs.FreeBlocks.{free_block}
use Rattle.derive_core.proofs.NameOrder.{names_total}

-- ---- of a block

one_outcome : (model : Model) (name : List Token) (first second : Outcome) → AreIndependent (numbers_of name (directions model)) → IsOutcome model name first → IsOutcome model name second → first ≡ second
one_outcome model name (Spanned xs) (Spanned ys) free a b = ap Spanned (unique (numbers_of name (directions model)) (block_beta model name) xs ys free a b)
one_outcome model name (Spanned xs) (Unspanned key value) free a b = absurd (no_coordinates (numbers_of name (directions model)) (block_beta model name) key xs b.0 a)
one_outcome model name (Unspanned key value) (Spanned ys) free a b = absurd (no_coordinates (numbers_of name (directions model)) (block_beta model name) key ys a.0 b)
one_outcome model name (Unspanned key value) (Unspanned other there) free a b =
    let same : key ≡ other = one_open_key (numbers_of name (directions model)) (block_beta model name) key other a.0 b.0 in
    ap₂ Unspanned same (a.1 ∙ ap (block_beta model name) same ∙ sym b.1)

module _ (model : Model) (none : NoneIsDependent (directions model)) where
  one_told : (first second : Told) → IsTold model first → IsTold model second → first.block ≡ second.block → first ≡ second
  one_told first second a b same =
      let outcome : first.outcome ≡ second.outcome = one_outcome model second.block first.outcome second.outcome (free_block second.block (directions model) none)
      (subst (λ name. IsOutcome model name first.outcome) same a.outcome) b.outcome in
      λ i. record { block = same i; outcome = outcome i }

-- ---- lists whose names ascend

never_before : (name : List Token) → name_cmp name name ≡ Less → ⊥
never_before name less = let tied = tied_itself names_total name in let never : ⊥ = cc (less, tied) in never

-- all that is told behind a block has a later name
later : (first : Told) (others : List Told) (name : List Token) → Ascend (first ∷ others) → IsAmong name others → name_cmp first.block name ≡ Less
later first [] name ascend among = absurd among
later first (second ∷ others) name ascend (inl same) = subst (λ n. name_cmp first.block n ≡ Less) (sym same) ascend.0
later first (second ∷ others) name ascend (inr among) = names_total.trans first.block second.block name ascend.0 (later second others name ascend.1 among)

ascend_rest : (first : Told) (others : List Told) → Ascend (first ∷ others) → Ascend others
ascend_rest first [] ascend = tt
ascend_rest first (second ∷ others) ascend = ascend.1

-- each name of one list is among the other
abbrev AreWithin : List Told → List Told → Type 0
AreWithin xs ys = (name : List Token) → IsAmong name xs → IsAmong name ys

-- the first names are the same
first_same : (x y : Told) (xs ys : List Told) → Ascend (x ∷ xs) → Ascend (y ∷ ys) → IsAmong x.block (y ∷ ys) → IsAmong y.block (x ∷ xs) → x.block ≡ y.block
first_same x y xs ys up up' (inl same) back = same
first_same x y xs ys up up' (inr among) (inl same) = sym same
first_same x y xs ys up up' (inr among) (inr other) =
    absurd (never_before x.block (names_total.trans x.block y.block x.block (later x xs y.block up other) (later y ys x.block up' among)))

-- behind the first ones the names are the same too
rest_within : (x y : Told) (xs ys : List Told) → Ascend (x ∷ xs) → x.block ≡ y.block → AreWithin (x ∷ xs) (y ∷ ys) → AreWithin xs ys
rest_within x y xs ys up same within name among = behind (within name (inr among))
  where
    behind : IsAmong name (y ∷ ys) → IsAmong name ys
    behind (inl here) = absurd (never_before x.block (subst (λ n. name_cmp x.block n ≡ Less) (here ∙ sym same) (later x xs name up among)))
    behind (inr there) = there

all_rest : (P : Told → Type 0) (x : Told) (xs : List Told) → All P (x ∷ xs) → All P xs
all_rest P x xs all i d within = all (suc i) d (omega (arith, within))

module _ (model : Model) (none : NoneIsDependent (directions model)) where
  same_list : (xs ys : List Told) → Ascend xs → Ascend ys → All (IsTold model) xs → All (IsTold model) ys → AreWithin xs ys → AreWithin ys xs → xs ≡ ys
  same_list [] [] up up' all all' within back = refl
  same_list [] (y ∷ ys) up up' all all' within back = absurd (back y.block (inl refl))
  same_list (x ∷ xs) [] up up' all all' within back = absurd (within x.block (inl refl))
  same_list (x ∷ xs) (y ∷ ys) up up' all all' within back =
      let name = first_same x y xs ys up up' (within x.block (inl refl)) (back y.block (inl refl)) in
      let first : x ≡ y = one_told model none x y (all 0 x (omega arith)) (all' 0 y (omega arith)) name in
      let rest : xs ≡ ys = same_list xs ys (ascend_rest x xs up) (ascend_rest y ys up') (all_rest (IsTold model) x xs all) (all_rest (IsTold model) y ys all')
      (rest_within x y xs ys up name within) (rest_within y x ys xs up' (sym name) back) in
      ap₂ ◌∷◌ first rest

  among_told : (name : List Token) (xs : List Told) → All (IsTold model) xs → IsAmong name xs → (t : Told) × (IsTold model t × (t.block ≡ name))
  among_told name [] all among = absurd among
  among_told name (x ∷ xs) all (inl same) = (x, (all 0 x (omega arith), sym same))
  among_told name (x ∷ xs) all (inr among) = among_told name xs (all_rest (IsTold model) x xs all) among

  told_within : (xs ys : List Told) → AreTold model xs → AreTold model ys → AreWithin xs ys
  told_within xs ys a b name among = of_told (among_told name xs a.each among)
    where
      of_told : ((t : Told) × (IsTold model t × (t.block ≡ name))) → IsAmong name ys
      of_told (t, (is, same)) = subst (λ n. IsAmong n ys) same (b.every t.block is.something)

  pub told_once : (first second : List Told) → AreTold model first → AreTold model second → first ≡ second
  told_once first second a b = same_list first second a.order b.order a.each b.each (told_within first second a b) (told_within second first b a)
