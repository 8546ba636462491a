-- Looking a key up in a canonical list by a binary search.
use Rattle.std.proofs.Common.{inl, inr, ◌≡◌, ℕ, zero, suc, ◌<◌, ◌≤◌, List, [], ◌∷◌, length, get_or, refl, sym, ap₂, subst, ◌∙◌, arith, Ordering, Less, Equal, Greater}
use Rattle.std.specs.Ordering.{ordering_index}
use Rattle.std.specs.Prelude.{◌⊎◌}
use Rattle.std.specs.List.Sorted.{IsNonDecreasingBy, IsPartitionPoint}
use Rattle.std.proofs.lemmas.Bool.{cases_lt}
use Rattle.std.proofs.lemmas.Cmp.{tied_itself}
use Rattle.exact_algebra.specs.Ring.{Semiring, ZeroTest, zero_add}
use Rattle.exact_algebra.specs.Sums.{where_equal}
use Rattle.exact_algebra.specs.Formal.{Keys, Formal, Above, Ascending, coefficient, coefficient-cons, coefficient-nil}

at_most_two : (o : Ordering) → ordering_index o ≤ 2
at_most_two Less = omega arith
at_most_two Equal = omega arith
at_most_two Greater = omega arith

not_less : (o : Ordering) → o ≡ Less → o ≡ Equal → ⊥
not_less o l e = let never : ⊥ = cc in never

not_greater : (o : Ordering) → o ≡ Greater → o ≡ Equal → ⊥
not_greater o g e = let never : ⊥ = cc in never

-- what is before a place or from it on isn't equal
pub none_equal : {X : Type 0} (ord : X → Ordering) (p : List X) (m : ℕ) → IsPartitionPoint (λ y. ord y ≡ Less) (λ y. ord y ≡ Greater) p m
    → (d : X) (i : ℕ) → i < length p → ord (get_or p i d) ≡ Equal → ⊥
none_equal ord p m point d i h = on_side (cases_lt i m)
  where
    on_side : (i < m) ⊎ (m ≤ i) → ord (get_or p i d) ≡ Equal → ⊥
    on_side (inl l) = not_less (ord (get_or p i d)) (point.0 i d (omega arith) l)
    on_side (inr g) = not_greater (ord (get_or p i d)) (point.1 i d g h)

module _ (K : Keys) (V : Type 0) (k : K.carrier) where
  abbrev pub outcome : K.carrier × V → ℕ
  outcome e = ordering_index (K.cmp e.0 k)

  -- an earlier key has no later outcome
  rises_at : (o : Ordering) (a b : K.carrier) → K.cmp b k ≡ o → K.cmp a b ≡ Less → ordering_index (K.cmp a k) ≤ ordering_index o
  rises_at Less a b h l = subst (λ q. ordering_index q ≤ 0) (sym (K.total.trans a b k l h)) (omega arith)
  rises_at Equal a b h l = subst (λ q. ordering_index q ≤ 1) (sym (subst (λ x. K.cmp a x ≡ Less) (K.equal b k h) l)) (omega arith)
  rises_at Greater a b h l = at_most_two (K.cmp a k)

  rises_above : (e : K.carrier × V) (es : List (K.carrier × V)) (j : ℕ) (d : K.carrier × V) → Above K V e.0 es → j < length es → outcome e ≤ outcome (get_or es j d)
  rises_above e [] j d a h = absurd (omega arith)
  rises_above e (f ∷ fs) zero d a h = rises_at (K.cmp f.0 k) e.0 f.0 refl a.0
  rises_above e (f ∷ fs) (suc j) d a h = rises_above e fs j d a.1 (omega arith)

  pub outcomes_rise : (p : List (K.carrier × V)) → Ascending K V p → IsNonDecreasingBy outcome p
  outcomes_rise [] h i j d l w = absurd (omega arith)
  outcomes_rise (e ∷ es) h zero zero d l w = omega arith
  outcomes_rise (e ∷ es) h zero (suc j) d l w = rises_above e es j d h.0 (omega arith)
  outcomes_rise (e ∷ es) h (suc i) zero d l w = absurd (omega arith)
  outcomes_rise (e ∷ es) h (suc i) (suc j) d l w = outcomes_rise es h.1 i j d (omega arith) (omega arith)

module _ (K : Keys) (R : Semiring) (Z : ZeroTest R) (k : K.carrier) where
  where_other : (o : Ordering) (e : K.carrier × R.carrier) → K.cmp k e.0 ≡ o → (K.cmp e.0 k ≡ Equal → ⊥) → where_equal R o e.1 ≡ R.zero
  where_other Less e h n = refl
  where_other Equal e h n =
      absurd (n (subst (λ x. K.cmp x k ≡ Equal) (K.equal k e.0 h) (tied_itself K.total k)))
  where_other Greater e h n = refl

  -- a key that no element has
  pub coefficient_absent : (p : Formal K R) (d : K.carrier × R.carrier) → ((i : ℕ) → i < length p → K.cmp (get_or p i d).0 k ≡ Equal → ⊥) → coefficient K R p k ≡ R.zero
  coefficient_absent [] d h = coefficient-nil K R Z k
  coefficient_absent (e ∷ es) d h =
      coefficient-cons K R Z e es k
      ∙ ap₂ R.add (where_other (K.cmp k e.0) e refl (h zero (omega arith))) (coefficient_absent es d (λ i l. h (suc i) (omega arith)))
      ∙ zero_add R R.zero
