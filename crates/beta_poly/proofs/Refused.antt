-- Which pairs of coefficients a walk along two canonical lists has tried, and which come after it.
use Rattle.std.proofs.Common.{◌≡◌, ℕ, ◌+◌, ◌≤◌, ◌∷◌, length, drop, refl, sym, ap, ◌∙◌, subst, drop_of_length-le, ◌⊎◌, inl, inr, Ordering, Less, Equal, Greater}
use Rattle.std.specs.Prelude.{◌≢◌}
use Rattle.exact_algebra.specs.Ring.{Semiring, ZeroTest}
use Rattle.exact_algebra.specs.Formal.{Keys, Formal, IsCanonical, coefficient, greater_less}
use Rattle.beta_poly.proofs.Steps.{coefficient_none, coefficient_past, coefficient_here, coefficient_before}

module _ (K : Keys) (R : Semiring) (Z : ZeroTest R) (Fits : R.carrier → R.carrier → Type 0) where
  abbrev at : Formal K R → K.carrier → R.carrier
  at p k = coefficient K R p k

  -- the coefficient at k is still to come
  abbrev pub Ahead : Formal K R → ℕ → K.carrier → Type 0
  Ahead p i k = at p k ≡ at (drop i p) k

  -- each pair of coefficients at a key that both lists have fits, or is still to come
  abbrev pub Checked : Formal K R → Formal K R → ℕ → ℕ → Type 0
  Checked a b i j =
      (k : K.carrier) → at a k ≢ R.zero → at b k ≢ R.zero → Fits (at a k) (at b k) ⊎ (Ahead a i k × Ahead b j k)

  pub checked_start : (a b : Formal K R) → Checked a b 0 0
  checked_start a b k p q = inr (refl, refl)

  module _ (a b : Formal K R) (i j : ℕ) (d e : K.carrier × R.carrier) (da : drop i a ≡ d ∷ drop (i + 1) a) (db : drop j b ≡ e ∷ drop (j + 1) b) (ca : IsCanonical K R Z a) (cb : IsCanonical K R Z b) where
    less_at : (o : Ordering) (k : K.carrier) → K.cmp k d.0 ≡ o → K.cmp d.0 e.0 ≡ Less → at b k ≢ R.zero → Fits (at a k) (at b k) ⊎ (Ahead a i k × Ahead b j k) → Fits (at a k) (at b k) ⊎ (Ahead a (i + 1) k × Ahead b j k)
    less_at o k h l q (inl f) = inl f
    less_at Less k h l q (inr s) = inr (s.0 ∙ coefficient_past K R Z a k i d da (λ z. cc), s.1)
    less_at Greater k h l q (inr s) = inr (s.0 ∙ coefficient_past K R Z a k i d da (λ z. cc), s.1)
    less_at Equal k h l q (inr s) =
        absurd (q (s.1 ∙ coefficient_before K R Z b k j e db cb (subst (λ x. K.cmp x e.0 ≡ Less) (sym (K.equal k d.0 h)) l)))

    pub checked_less : K.cmp d.0 e.0 ≡ Less → Checked a b i j → Checked a b (i + 1) j
    checked_less l h k p q = less_at (K.cmp k d.0) k refl l q (h k p q)

    greater_at : (o : Ordering) (k : K.carrier) → K.cmp k e.0 ≡ o → K.cmp e.0 d.0 ≡ Less → at a k ≢ R.zero → Fits (at a k) (at b k) ⊎ (Ahead a i k × Ahead b j k) → Fits (at a k) (at b k) ⊎ (Ahead a i k × Ahead b (j + 1) k)
    greater_at o k h l p (inl f) = inl f
    greater_at Less k h l p (inr s) = inr (s.0, s.1 ∙ coefficient_past K R Z b k j e db (λ z. cc))
    greater_at Greater k h l p (inr s) = inr (s.0, s.1 ∙ coefficient_past K R Z b k j e db (λ z. cc))
    greater_at Equal k h l p (inr s) =
        absurd (p (s.0 ∙ coefficient_before K R Z a k i d da ca (subst (λ x. K.cmp x d.0 ≡ Less) (sym (K.equal k e.0 h)) l)))

    pub checked_greater : K.cmp d.0 e.0 ≡ Greater → Checked a b i j → Checked a b i (j + 1)
    checked_greater g h k p q = greater_at (K.cmp k e.0) k refl (greater_less K d.0 e.0 g) p (h k p q)

    equal_at : (o : Ordering) (k : K.carrier) → K.cmp k d.0 ≡ o → d.0 ≡ e.0 → Fits d.1 e.1 → Fits (at a k) (at b k) ⊎ (Ahead a i k × Ahead b j k) → Fits (at a k) (at b k) ⊎ (Ahead a (i + 1) k × Ahead b (j + 1) k)
    equal_at o k h s f (inl g) = inl g
    equal_at Less k h s f (inr r) =
        inr (r.0 ∙ coefficient_past K R Z a k i d da (λ z. cc), r.1 ∙ coefficient_past K R Z b k j e db (λ z. cc))
    equal_at Greater k h s f (inr r) =
        inr (r.0 ∙ coefficient_past K R Z a k i d da (λ z. cc), r.1 ∙ coefficient_past K R Z b k j e db (λ z. cc))
    equal_at Equal k h s f (inr r) =
        inl (subst (λ x. Fits x (at b k)) (sym (r.0 ∙ coefficient_here K R Z a k i d da ca h)) (subst (λ y. Fits d.1 y) (sym (r.1 ∙ coefficient_here K R Z b k j e db cb (ap (K.cmp k) (sym s) ∙ h))) f))

    pub checked_equal : K.cmp d.0 e.0 ≡ Equal → Fits d.1 e.1 → Checked a b i j → Checked a b (i + 1) (j + 1)
    checked_equal o f h k p q = equal_at (K.cmp k d.0) k refl (K.equal d.0 e.0 o) f (h k p q)

    -- every pair before the place fits
    before_at : (k : K.carrier) → K.cmp k d.0 ≡ Less → at a k ≢ R.zero → Fits (at a k) (at b k) ⊎ (Ahead a i k × Ahead b j k) → Fits (at a k) (at b k)
    before_at k l p (inl f) = f
    before_at k l p (inr s) = absurd (p (s.0 ∙ coefficient_before K R Z a k i d da ca l))

    pub checked_before : Checked a b i j → (k : K.carrier) → K.cmp k d.0 ≡ Less → at a k ≢ R.zero → at b k ≢ R.zero → Fits (at a k) (at b k)
    checked_before h k l p q = before_at k l p (h k p q)

  end_at : (a b : Formal K R) (i j : ℕ) (k : K.carrier) → (length a ≤ i) ⊎ (length b ≤ j) → at a k ≢ R.zero → at b k ≢ R.zero → Fits (at a k) (at b k) ⊎ (Ahead a i k × Ahead b j k) → Fits (at a k) (at b k)
  end_at a b i j k u p q (inl f) = f
  end_at a b i j k (inl l) p q (inr s) =
      absurd (p (s.0 ∙ ap (λ r. at r k) (drop_of_length-le a l) ∙ coefficient_none K R Z k))
  end_at a b i j k (inr l) p q (inr s) =
      absurd (q (s.1 ∙ ap (λ r. at r k) (drop_of_length-le b l) ∙ coefficient_none K R Z k))

  -- where one of the lists is used up, all pairs fit
  pub checked_end : (a b : Formal K R) (i j : ℕ) → (length a ≤ i) ⊎ (length b ≤ j) → Checked a b i j → (k : K.carrier) → at a k ≢ R.zero → at b k ≢ R.zero → Fits (at a k) (at b k)
  checked_end a b i j u h k p q = end_at a b i j k u p q (h k p q)
