-- The steps of loops over canonical lists: merges, multiples and look-ups.
use Rattle.std.proofs.Common.{◌≡◌, ℕ, zero, suc, ◌+◌, ◌<◌, ◌≤◌, List, [], ◌∷◌, ◌++◌, length, get_or, drop, refl, sym, ap, ap₂, ◌∙◌, arith, add-one, append_assoc, append-nil, drop-cons, drop_of_length-le, ◌⊎◌, inl, inr, Bool, true, false, Ordering, Less, Equal, Greater, subst, take, ◌-◌, length-drop, take_all}
use Rattle.std.proofs.lemmas.Cmp.{tied_itself}
use Rattle.exact_algebra.specs.Ring.{Semiring, ZeroTest, zero_add}
use Rattle.exact_algebra.specs.Sums.{sum, where_equal}
use Rattle.exact_algebra.specs.Formal.{scaled, strip_at, Keys, Formal, Above, Above-after, Ascending, NonZero, IsCanonical, coefficient, coefficient-cons, coefficient_head, coefficient_above, less_greater}
use Rattle.exact_algebra.specs.Canon.{of, plus, same_values, value-plus, value-of}
use Rattle.exact_algebra.specs.Merge.{eval-merge, merge, merge_none, merge_rest, merge_less, merge_greater, merge_gone, merge_both}

one_more : (n : ℕ) → suc n + 1 ≡ suc (n + 1)
one_more n = omega arith

-- the element at i, as `a[i]` and `&a[i]` give it
pub at_place : {X : Type 0} (xs : List X) (i : ℕ) (x : X) → i < length xs → x ≡ get_or xs i x → drop i xs ≡ x ∷ drop (i + 1) xs
at_place xs i x l e = drop-cons xs i x l ∙ ap₂ (λ y n. y ∷ drop n xs) (sym e) (sym (add-one i))

pub at_number : {X : Type 0} (xs : List X) (i : ℕ) (d : X) → i < length xs → drop i xs ≡ get_or xs i d ∷ drop (i + 1) xs
at_number xs i d l = drop-cons xs i d l ∙ ap (λ n. get_or xs i d ∷ drop n xs) (sym (add-one i))

-- what `&xs[i..]` holds
pub rest_is : {X : Type 0} (xs : List X) (i : ℕ) → take (length xs - i) (drop i xs) ≡ drop i xs
rest_is xs i = take_all (length xs - i) (drop i xs) (omega (arith, length-drop i xs))

module _ (K : Keys) (R : Semiring) (Z : ZeroTest R) (a b out m : Formal K R) (i j : ℕ) (d e : K.carrier × R.carrier) (da : drop i a ≡ d ∷ drop (i + 1) a) (db : drop j b ≡ e ∷ drop (j + 1) b) (h : out ++ merge K R Z (drop i a) (drop j b) ≡ m) where
  pub step_less : K.cmp d.0 e.0 ≡ Less → (out ++ d ∷ []) ++ merge K R Z (drop (i + 1) a) (drop j b) ≡ m
  step_less o =
      append_assoc out (d ∷ []) (merge K R Z (drop (i + 1) a) (drop j b)) ∙ ap (λ r. out ++ r) (ap (λ r. d ∷ merge K R Z (drop (i + 1) a) r) db ∙ sym (merge_less K R Z d e (drop (i + 1) a) (drop (j + 1) b) o) ∙ ap₂ (merge K R Z) (sym da) (sym db)) ∙ h

  pub step_greater : K.cmp d.0 e.0 ≡ Greater → (out ++ e ∷ []) ++ merge K R Z (drop i a) (drop (j + 1) b) ≡ m
  step_greater o =
      append_assoc out (e ∷ []) (merge K R Z (drop i a) (drop (j + 1) b)) ∙ ap (λ r. out ++ r) (ap (λ r. e ∷ merge K R Z r (drop (j + 1) b)) da ∙ sym (merge_greater K R Z d e (drop (i + 1) a) (drop (j + 1) b) o) ∙ ap₂ (merge K R Z) (sym da) (sym db)) ∙ h

  pub step_gone : K.cmp d.0 e.0 ≡ Equal → Z.is_zero (R.add d.1 e.1) ≡ true → out ++ merge K R Z (drop (i + 1) a) (drop (j + 1) b) ≡ m
  step_gone o z =
      ap (λ r. out ++ r) (sym (merge_gone K R Z d e (drop (i + 1) a) (drop (j + 1) b) o z) ∙ ap₂ (merge K R Z) (sym da) (sym db)) ∙ h

  pub step_both : K.cmp d.0 e.0 ≡ Equal → Z.is_zero (R.add d.1 e.1) ≡ false → (out ++ (d.0, R.add d.1 e.1) ∷ []) ++ merge K R Z (drop (i + 1) a) (drop (j + 1) b) ≡ m
  step_both o z =
      append_assoc out ((d.0, R.add d.1 e.1) ∷ []) (merge K R Z (drop (i + 1) a) (drop (j + 1) b)) ∙ ap (λ r. out ++ r) (sym (merge_both K R Z d e (drop (i + 1) a) (drop (j + 1) b) o z) ∙ ap₂ (merge K R Z) (sym da) (sym db)) ∙ h

module _ (K : Keys) (R : Semiring) (Z : ZeroTest R) (a b out m : Formal K R) (i j : ℕ) where
  -- one of the lists is used up
  pub step_end : (length a ≤ i) ⊎ (length b ≤ j) → out ++ merge K R Z (drop i a) (drop j b) ≡ m → (out ++ drop i a) ++ drop j b ≡ m
  step_end (inl l) h =
      ap (λ r. (out ++ r) ++ drop j b) empty ∙ ap (λ r. r ++ drop j b) (append-nil out) ∙ ap (λ r. out ++ r) (sym (merge_none K R Z (drop j b)) ∙ ap (λ r. merge K R Z r (drop j b)) (sym empty)) ∙ h
    where
      empty : drop i a ≡ []
      empty = drop_of_length-le a l
  step_end (inr l) h =
      ap (λ r. (out ++ drop i a) ++ r) empty ∙ append-nil (out ++ drop i a) ∙ ap (λ r. out ++ r) (sym (merge_rest K R Z (drop i a)) ∙ ap (λ r. merge K R Z (drop i a) r) (sym empty)) ∙ h
    where
      empty : drop j b ≡ []
      empty = drop_of_length-le b l

module _ (K : Keys) (R : Semiring) (Z : ZeroTest R) where
  pub of-merge : (p q : Formal K R) → of K R Z (merge K R Z p q) ≡ plus K R Z (of K R Z p) (of K R Z q)
  of-merge p q =
      same_values K R Z (of K R Z (merge K R Z p q)) (plus K R Z (of K R Z p) (of K R Z q)) (λ F. simp (value-plus, value-of, eval-merge))

  pub Ascending-drop : (p : Formal K R) (i : ℕ) → Ascending K R.carrier p → Ascending K R.carrier (drop i p)
  Ascending-drop p zero h = h
  Ascending-drop [] (suc i) h = h
  Ascending-drop (e ∷ es) (suc i) h = Ascending-drop es i h.1

  nonzero_drop : (p : Formal K R) (i : ℕ) → NonZero K R Z p → NonZero K R Z (drop i p)
  nonzero_drop p zero h = h
  nonzero_drop [] (suc i) h = h
  nonzero_drop (e ∷ es) (suc i) h = nonzero_drop es i h.1

  -- what is left of a canonical list begins with a coefficient other than 0 and goes on above its key
  pub nonzero_at : (p : Formal K R) (i : ℕ) (e : K.carrier × R.carrier) → drop i p ≡ e ∷ drop (i + 1) p → IsCanonical K R Z p → Z.is_zero e.1 ≡ false
  nonzero_at p i e d h = (subst (NonZero K R Z) d (nonzero_drop p i h.nonzero)).0

  pub above_at : (p : Formal K R) (i : ℕ) (e : K.carrier × R.carrier) → drop i p ≡ e ∷ drop (i + 1) p → IsCanonical K R Z p → Above K R.carrier e.0 (drop (i + 1) p)
  above_at p i e d h = (subst (λ r. Ascending K R.carrier r) d (Ascending-drop p i h.ascending)).0

  pub coefficient_none : (k : K.carrier) → coefficient K R [] k ≡ R.zero
  unfolding coefficient sum
  coefficient_none k = refl

  where_none : (o : Ordering) (c : R.carrier) → (o ≡ Equal → ⊥) → where_equal R o c ≡ R.zero
  where_none Less c h = refl
  where_none Equal c h = absurd (h refl)
  where_none Greater c h = refl

  -- a term at another key counts for nothing
  pub coefficient_past : (p : Formal K R) (k : K.carrier) (i : ℕ) (e : K.carrier × R.carrier) → drop i p ≡ e ∷ drop (i + 1) p → (K.cmp k e.0 ≡ Equal → ⊥) → coefficient K R (drop i p) k ≡ coefficient K R (drop (i + 1) p) k
  coefficient_past p k i e d h =
      ap (λ r. coefficient K R r k) d ∙ coefficient-cons K R Z e (drop (i + 1) p) k ∙ ap (λ c. R.add c (coefficient K R (drop (i + 1) p) k)) (where_none (K.cmp k e.0) e.1 h) ∙ zero_add R (coefficient K R (drop (i + 1) p) k)

  -- the first term at the key has its coefficient
  pub coefficient_here : (p : Formal K R) (k : K.carrier) (i : ℕ) (e : K.carrier × R.carrier) → drop i p ≡ e ∷ drop (i + 1) p → IsCanonical K R Z p → K.cmp k e.0 ≡ Equal → coefficient K R (drop i p) k ≡ e.1
  coefficient_here p k i e d c h =
      ap (λ r. coefficient K R r k) d ∙ coefficient_head K R Z k e (drop (i + 1) p) h (subst (λ j. Above K R.carrier j (drop (i + 1) p)) (sym (K.equal k e.0 h)) (above_at p i e d c))

  -- before the first key there is nothing
  pub coefficient_before : (p : Formal K R) (k : K.carrier) (i : ℕ) (e : K.carrier × R.carrier) → drop i p ≡ e ∷ drop (i + 1) p → IsCanonical K R Z p → K.cmp k e.0 ≡ Less → coefficient K R (drop i p) k ≡ R.zero
  coefficient_before p k i e d c l =
      ap (λ r. coefficient K R r k) d ∙ coefficient_above K R Z k (e ∷ drop (i + 1) p) (l, Above-after K R.carrier k e.0 (drop (i + 1) p) l (above_at p i e d c))

  -- each term is one of the list
  pub coefficient_at : (p : Formal K R) (i : ℕ) (e : K.carrier × R.carrier) → drop i p ≡ e ∷ drop (i + 1) p → IsCanonical K R Z p → coefficient K R p e.0 ≡ e.1
  coefficient_at p zero e d c = coefficient_here p e.0 zero e d c (tied_itself K.total e.0)
  coefficient_at [] (suc i) e d c = cc
  coefficient_at (x ∷ xs) (suc i) e d c =
      coefficient-cons K R Z x xs e.0 ∙ ap (λ o. R.add (where_equal R o x.1) (coefficient K R xs e.0)) (less_greater K x.0 e.0 (below xs i c.ascending.0 (d ∙ ap (λ k. e ∷ drop k (x ∷ xs)) (one_more i)))) ∙ zero_add R (coefficient K R xs e.0) ∙ coefficient_at xs i e (d ∙ ap (λ k. e ∷ drop k (x ∷ xs)) (one_more i)) (record { ascending = c.ascending.1; nonzero = c.nonzero.1 })
    where
      below : (ys : Formal K R) (n : ℕ) → Above K R.carrier x.0 ys → drop n ys ≡ e ∷ drop (n + 1) ys → K.cmp x.0 e.0 ≡ Less
      below [] zero a r = cc
      below [] (suc n) a r = cc
      below (y ∷ ys) zero a r = (subst (λ q. Above K R.carrier x.0 q) r a).0
      below (y ∷ ys) (suc n) a r = below ys n a.1 (r ∙ ap (λ k. e ∷ drop k (y ∷ ys)) (one_more n))

  -- a term, or nothing where its coefficient is 0
  abbrev pub term_kept : K.carrier → R.carrier → Formal K R
  term_kept k c = strip_at K R Z (Z.is_zero c) (k, c) []

  strip_split : (b : Bool) (e : K.carrier × R.carrier) (out r : Formal K R) → (out ++ strip_at K R Z b e []) ++ r ≡ out ++ strip_at K R Z b e r
  unfolding strip_at
  strip_split true e out r = ap (λ q. q ++ r) (append-nil out)
  strip_split false e out r = append_assoc out (e ∷ []) r

  -- the rest of a multiple after one more term
  pub scale_step : (a out m : Formal K R) (c : R.carrier) (i : ℕ) (d : K.carrier × R.carrier) → drop i a ≡ d ∷ drop (i + 1) a → out ++ scaled K R Z c (drop i a) ≡ m → (out ++ term_kept d.0 (R.mul d.1 c)) ++ scaled K R Z c (drop (i + 1) a) ≡ m
  unfolding scaled
  scale_step a out m c i d da h =
      strip_split (Z.is_zero (R.mul d.1 c)) (d.0, R.mul d.1 c) out (scaled K R Z c (drop (i + 1) a)) ∙ ap (λ r. out ++ scaled K R Z c r) (sym da) ∙ h

  pub scale_end : (a out m : Formal K R) (c : R.carrier) (i : ℕ) → length a ≤ i → out ++ scaled K R Z c (drop i a) ≡ m → out ≡ m
  unfolding scaled
  scale_end a out m c i l h =
      sym (append-nil out) ∙ ap (λ r. out ++ scaled K R Z c r) (sym (drop_of_length-le a l)) ∙ h

  module _ (a b out m : Formal K R) (i j : ℕ) (d e : K.carrier × R.carrier) (da : drop i a ≡ d ∷ drop (i + 1) a) (db : drop j b ≡ e ∷ drop (j + 1) b) (h : out ++ merge K R Z (drop i a) (drop j b) ≡ m) (o : K.cmp d.0 e.0 ≡ Equal) where
    sum_at : (z : Bool) → Z.is_zero (R.add d.1 e.1) ≡ z → (out ++ strip_at K R Z z (d.0, R.add d.1 e.1) []) ++ merge K R Z (drop (i + 1) a) (drop (j + 1) b) ≡ m
    unfolding strip_at
    sum_at true z =
        ap (λ q. q ++ merge K R Z (drop (i + 1) a) (drop (j + 1) b)) (append-nil out) ∙ step_gone K R Z a b out m i j d e da db h o z
    sum_at false z = step_both K R Z a b out m i j d e da db h o z

    -- the rest of a merge after a sum at a key of both
    pub step_sum : (out ++ term_kept d.0 (R.add d.1 e.1)) ++ merge K R Z (drop (i + 1) a) (drop (j + 1) b) ≡ m
    step_sum = sum_at (Z.is_zero (R.add d.1 e.1)) refl
