-- Looking a key up among entries in order, and putting one in, at the place that a search found.
use Rattle.std.proofs.Common.{◌≡◌, ℕ, zero, suc, ◌<◌, ◌≤◌, List, [], ◌∷◌, length, get_or, set, Bool, true, false, cond, ◌&&◌, Some, None, refl, sym, ap, subst, ◌∙◌, arith, Ordering, Less, Equal, Greater}
use Rattle.std.specs.Ordering.{ordering_index, ordering_reverse, is_lt, is_eq}
use Rattle.std.specs.Cmp.{IsTotalOrder}
use Rattle.std.specs.List.{insert}
use Rattle.std.specs.List.Sorted.{IsNonDecreasingBy, IsPartitionPoint}
use Rattle.std.specs.FinMap.Entries.{find, put, is_sorted, below_all, by_order}
use Rattle.std.proofs.lemmas.Cmp.{tied_back, alike_right}

abbrev pub Both : Bool → Bool → Type 0
Both a b = (a ≡ true) × (b ≡ true)

pub both_true : (a b : Bool) → (a && b) ≡ true → Both a b
both_true true b e = (refl, e)
both_true false b e = absurd cc

is_less : (o : Ordering) → is_lt o ≡ true → o ≡ Less
is_less Less e = refl
is_less Equal e = absurd cc
is_less Greater e = absurd cc

at_most_two : (o : Ordering) → ordering_index o ≤ 2
at_most_two Less = omega arith
at_most_two Equal = omega arith
at_most_two Greater = omega arith

module _ {K : Type 0} {R : K → K → Ordering} (o : IsTotalOrder R) where
  turned : (x y : K) (r : Ordering) → R x y ≡ r → R y x ≡ ordering_reverse r
  turned x y r is = o.antisymm y x ∙ ap ordering_reverse is

  -- an earlier key has no later outcome
  rises_at : (k a b : K) (r : Ordering) → R b k ≡ r → R a b ≡ Less → ordering_index (R a k) ≤ ordering_index r
  rises_at k a b Less h l = subst (λ q. ordering_index q ≤ 0) (sym (o.trans a b k l h)) (omega arith)
  rises_at k a b Equal h l = subst (λ q. ordering_index q ≤ 1) (sym (sym (alike_right o b k a h) ∙ l)) (omega arith)
  rises_at k a b Greater h l = at_most_two (R a k)

-- a key that is less than all others is less than the one at a place
below_at : {K X : Type 0} (R : K → K → Ordering) (x : K) (es : List (K × X)) (i : ℕ) (d : K × X) → below_all R x es ≡ true → i < length es → R x (get_or es i d).0 ≡ Less
below_at R x [] i d h l = absurd (omega arith)
below_at R x (e ∷ es) zero d h l = is_less _ (both_true _ _ h).0
below_at R x (e ∷ es) (suc i) d h l = below_at R x es i d (both_true _ _ h).1 (omega arith)

module _ {K X : Type 0} {R : K → K → Ordering} (o : IsTotalOrder R) where
  abbrev outcome : K → K × X → ℕ
  outcome k e = ordering_index (R e.0 k)

  pub outcomes_rise : (k : K) (es : List (K × X)) → is_sorted R es ≡ true → IsNonDecreasingBy (outcome k) es
  outcomes_rise k [] h i j d l w = absurd (omega arith)
  outcomes_rise k (e ∷ es) h zero zero d l w = omega arith
  outcomes_rise k (e ∷ es) h zero (suc j) d l w = rises_at o k e.0 (get_or es j d).0 _ refl (below_at R e.0 es j d (both_true _ _ h).0 (omega arith))
  outcomes_rise k (e ∷ es) h (suc i) zero d l w = absurd (omega arith)
  outcomes_rise k (e ∷ es) h (suc i) (suc j) d l w = outcomes_rise k es (both_true _ _ h).1 i j d (omega arith) (omega arith)

  -- the keys before one that ties with k come before k
  passed : (k : K) (e : K × X) (es : List (K × X)) (i : ℕ) (d : K × X) → below_all R e.0 es ≡ true → i < length es → R (get_or es i d).0 k ≡ Equal → R k e.0 ≡ Greater
  passed k e es i d h l tie = turned o e.0 k Less (sym (alike_right o (get_or es i d).0 k e.0 tie) ∙ below_at R e.0 es i d h l)

  pub find_at : (k : K) (es : List (K × X)) (i : ℕ) (d : K × X) → is_sorted R es ≡ true → i < length es → R (get_or es i d).0 k ≡ Equal → find R k es ≡ Some (get_or es i d).1
  find_at k [] i d h l tie = absurd (omega arith)
  find_at k (e ∷ es) zero d h l tie = ap (λ r. cond (is_eq r) (Some e.1) (find R k es)) (tied_back o e.0 k tie)
  find_at k (e ∷ es) (suc i) d h l tie =
      ap (λ r. cond (is_eq r) (Some e.1) (find R k es)) (passed k e es i d (both_true _ _ h).0 (omega arith) tie)
      ∙ find_at k es i d (both_true _ _ h).1 (omega arith) tie

  pub put_at : (k : K) (v : X) (es : List (K × X)) (i : ℕ) (d : K × X) → is_sorted R es ≡ true → i < length es → R (get_or es i d).0 k ≡ Equal → put R k v es ≡ set es i ((get_or es i d).0, v)
  put_at k v [] i d h l tie = absurd (omega arith)
  put_at k v (e ∷ es) zero d h l tie = ap (λ r. by_order r ((k, v) ∷ e ∷ es) ((e.0, v) ∷ es) (e ∷ put R k v es)) (tied_back o e.0 k tie)
  put_at k v (e ∷ es) (suc i) d h l tie =
      ap (λ r. by_order r ((k, v) ∷ e ∷ es) ((e.0, v) ∷ es) (e ∷ put R k v es)) (passed k e es i d (both_true _ _ h).0 (omega arith) tie)
      ∙ ap (λ t. e ∷ t) (put_at k v es i d (both_true _ _ h).1 (omega arith) tie)

  abbrev pub IsGap : K → List (K × X) → ℕ → Type 0
  IsGap k = IsPartitionPoint (λ e. R e.0 k ≡ Less) (λ e. R e.0 k ≡ Greater)

  later : (k : K) (e : K × X) (es : List (K × X)) (i : ℕ) → IsGap k (e ∷ es) (suc i) → IsGap k es i
  later k e es i gap = (λ j d l h. gap.0 (suc j) d (omega arith) (omega arith), λ j d l h. gap.1 (suc j) d (omega arith) (omega arith))

  rest : (k : K) (e : K × X) (es : List (K × X)) → IsGap k (e ∷ es) zero → IsGap k es zero
  rest k e es gap = (λ j d l h. absurd (omega arith), λ j d l h. gap.1 (suc j) d (omega arith) (omega arith))

  pub find_gap : (k : K) (es : List (K × X)) (i : ℕ) → IsGap k es i → find R k es ≡ None
  find_gap k [] i gap = refl
  find_gap k (e ∷ es) zero gap =
      ap (λ r. cond (is_eq r) (Some e.1) (find R k es)) (turned o e.0 k Greater (gap.1 zero e (omega arith) (omega arith)))
      ∙ find_gap k es zero (rest k e es gap)
  find_gap k (e ∷ es) (suc i) gap =
      ap (λ r. cond (is_eq r) (Some e.1) (find R k es)) (turned o e.0 k Less (gap.0 zero e (omega arith) (omega arith)))
      ∙ find_gap k es i (later k e es i gap)

  pub put_gap : (k : K) (v : X) (es : List (K × X)) (i : ℕ) → IsGap k es i → put R k v es ≡ insert es i (k, v)
  put_gap k v [] zero gap = refl
  put_gap k v [] (suc i) gap = refl
  put_gap k v (e ∷ es) zero gap = ap (λ r. by_order r ((k, v) ∷ e ∷ es) ((e.0, v) ∷ es) (e ∷ put R k v es)) (turned o e.0 k Greater (gap.1 zero e (omega arith) (omega arith)))
  put_gap k v (e ∷ es) (suc i) gap =
      ap (λ r. by_order r ((k, v) ∷ e ∷ es) ((e.0, v) ∷ es) (e ∷ put R k v es)) (turned o e.0 k Less (gap.0 zero e (omega arith) (omega arith)))
      ∙ ap (λ t. e ∷ t) (put_gap k v es i (later k e es i gap))
