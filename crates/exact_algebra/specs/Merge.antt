-- The merge of two canonical lists is the canonical list of both together.
use Rattle.std.specs.Prelude.{◌≡◌, [], ◌∷◌, Bool, true, false}
use Rattle.std.proofs.Common.{refl, sym, ap, ◌∙◌, Ordering, Less, Equal, Greater}
use Rattle.exact_algebra.specs.Ring.{Semiring, ZeroTest, zero_add, add_left_comm, add_mul}
use Rattle.exact_algebra.specs.Formal.{Keys, Formal, eval, eval-nil, eval-cons, Above, AllKeys, Above-after, IsCanonical, strip_at, eval-strip_at, AllKeys-strip_at, canonical_strip_at, canonical_tail, greater_less}

module _ (K : Keys) (R : Semiring) (Z : ZeroTest R) where
  open R use {carrier as C, zero, one, add as ◌⊕◌, mul as ◌⊗◌}

  infixl 6 ◌⊕◌
  infixl 7 ◌⊗◌
  -- the merge of two lists by how their first keys compare, from the three merges of what is left
  merge_at : Ordering → K.carrier × C → K.carrier × C → Formal K R → Formal K R → Formal K R → Formal K R
  merge_at Less d e l b g = d ∷ l
  merge_at Equal d e l b g = strip_at K R Z (Z.is_zero (d.1 ⊕ e.1)) (d.0, d.1 ⊕ e.1) b
  merge_at Greater d e l b g = e ∷ g

  -- the merge of a list that begins with d
  merge_into : K.carrier × C → (Formal K R → Formal K R) → Formal K R → Formal K R
  merge_into d m [] = d ∷ m []
  merge_into d m (e ∷ es) = merge_at (K.cmp d.0 e.0) d e (m (e ∷ es)) (m es) (merge_into d m es)

  -- two ascending lists as one, the coefficients of a common key added up
  pub merge : Formal K R → Formal K R → Formal K R
  merge [] q = q
  merge (d ∷ ds) q = merge_into d (merge ds) q

  -- ---- the steps of a loop

  pub merge_none : (q : Formal K R) → merge [] q ≡ q
  unfolding merge
  merge_none q = refl

  pub merge_rest : (p : Formal K R) → merge p [] ≡ p
  unfolding merge merge_into
  merge_rest [] = refl
  merge_rest (d ∷ ds) = ap (λ r. d ∷ r) (merge_rest ds)

  pub merge_less : (d e : K.carrier × C) (ds es : Formal K R) → K.cmp d.0 e.0 ≡ Less → merge (d ∷ ds) (e ∷ es) ≡ d ∷ merge ds (e ∷ es)
  unfolding merge merge_into merge_at
  merge_less d e ds es h =
      ap (λ o. merge_at o d e (merge ds (e ∷ es)) (merge ds es) (merge_into d (merge ds) es)) h

  pub merge_greater : (d e : K.carrier × C) (ds es : Formal K R) → K.cmp d.0 e.0 ≡ Greater → merge (d ∷ ds) (e ∷ es) ≡ e ∷ merge (d ∷ ds) es
  unfolding merge merge_into merge_at
  merge_greater d e ds es h =
      ap (λ o. merge_at o d e (merge ds (e ∷ es)) (merge ds es) (merge_into d (merge ds) es)) h

  merge_equal_at : (d e : K.carrier × C) (ds es : Formal K R) (b : Bool) → K.cmp d.0 e.0 ≡ Equal → Z.is_zero (d.1 ⊕ e.1) ≡ b → merge (d ∷ ds) (e ∷ es) ≡ strip_at K R Z b (d.0, d.1 ⊕ e.1) (merge ds es)
  unfolding merge merge_into merge_at
  merge_equal_at d e ds es b h z =
      ap (λ o. merge_at o d e (merge ds (e ∷ es)) (merge ds es) (merge_into d (merge ds) es)) h ∙ ap (λ b. strip_at K R Z b (d.0, d.1 ⊕ e.1) (merge ds es)) z

  pub merge_gone : (d e : K.carrier × C) (ds es : Formal K R) → K.cmp d.0 e.0 ≡ Equal → Z.is_zero (d.1 ⊕ e.1) ≡ true → merge (d ∷ ds) (e ∷ es) ≡ merge ds es
  unfolding strip_at
  merge_gone d e ds es h z = merge_equal_at d e ds es true h z

  pub merge_both : (d e : K.carrier × C) (ds es : Formal K R) → K.cmp d.0 e.0 ≡ Equal → Z.is_zero (d.1 ⊕ e.1) ≡ false → merge (d ∷ ds) (e ∷ es) ≡ (d.0, d.1 ⊕ e.1) ∷ merge ds es
  unfolding strip_at
  merge_both d e ds es h z = merge_equal_at d e ds es false h z

  -- ---- its value

  value_at : (o : Ordering) (d e : K.carrier × C) (ds es l b g : Formal K R) (F : K.carrier → C) → K.cmp d.0 e.0 ≡ o → eval K R l F ≡ eval K R ds F ⊕ eval K R (e ∷ es) F → eval K R b F ≡ eval K R ds F ⊕ eval K R es F → eval K R g F ≡ eval K R (d ∷ ds) F ⊕ eval K R es F → eval K R (merge_at o d e l b g) F ≡ eval K R (d ∷ ds) F ⊕ eval K R (e ∷ es) F
  unfolding merge_at
  value_at Less d e ds es l b g F o hl hb hg =
      eval-cons K R d l F ∙ ap (λ s. d.1 ⊗ F d.0 ⊕ s) hl ∙ sym (R.add_assoc (d.1 ⊗ F d.0) (eval K R ds F) (eval K R (e ∷ es) F))
      ∙ ap (λ s. s ⊕ eval K R (e ∷ es) F) (sym (eval-cons K R d ds F))
  value_at Greater d e ds es l b g F o hl hb hg =
      eval-cons K R e g F ∙ ap (λ s. e.1 ⊗ F e.0 ⊕ s) hg ∙ add_left_comm R (e.1 ⊗ F e.0) (eval K R (d ∷ ds) F) (eval K R es F)
      ∙ ap (λ s. eval K R (d ∷ ds) F ⊕ s) (sym (eval-cons K R e es F))
  value_at Equal d e ds es l b g F o hl hb hg =
      eval-strip_at K R Z (Z.is_zero (d.1 ⊕ e.1)) (d.0, d.1 ⊕ e.1) b b F refl refl ∙ eval-cons K R (d.0, d.1 ⊕ e.1) b F
      ∙ ap (λ s. (d.1 ⊕ e.1) ⊗ F d.0 ⊕ s) hb ∙ ap (λ s. s ⊕ (eval K R ds F ⊕ eval K R es F)) (add_mul R d.1 e.1 (F d.0))
      ∙ ap (λ k. (d.1 ⊗ F d.0 ⊕ e.1 ⊗ F k) ⊕ (eval K R ds F ⊕ eval K R es F)) (K.equal d.0 e.0 o) ∙ both
    where
      both : (d.1 ⊗ F d.0 ⊕ e.1 ⊗ F e.0) ⊕ (eval K R ds F ⊕ eval K R es F) ≡ eval K R (d ∷ ds) F ⊕ eval K R (e ∷ es) F
      both = simp (eval-cons, R.add_assoc, add_left_comm)

  value_into : (d : K.carrier × C) (ds q : Formal K R) (F : K.carrier → C) → ((r : Formal K R) → eval K R (merge ds r) F ≡ eval K R ds F ⊕ eval K R r F) → eval K R (merge_into d (merge ds) q) F ≡ eval K R (d ∷ ds) F ⊕ eval K R q F
  unfolding merge_into
  value_into d ds [] F h =
      eval-cons K R d (merge ds []) F ∙ ap (λ s. d.1 ⊗ F d.0 ⊕ s) (h []) ∙ sym (R.add_assoc (d.1 ⊗ F d.0) (eval K R ds F) (eval K R [] F))
      ∙ ap (λ s. s ⊕ eval K R [] F) (sym (eval-cons K R d ds F))
  value_into d ds (e ∷ es) F h =
      value_at (K.cmp d.0 e.0) d e ds es (merge ds (e ∷ es)) (merge ds es) (merge_into d (merge ds) es) F refl (h (e ∷ es)) (h es) (value_into d ds es F h)

  pub eval-merge : (p q : Formal K R) (F : K.carrier → C) → eval K R (merge p q) F ≡ eval K R p F ⊕ eval K R q F
  unfolding merge
  eval-merge [] q F = sym (zero_add R (eval K R q F)) ∙ ap (λ s. s ⊕ eval K R q F) (sym (eval-nil K R F))
  eval-merge (d ∷ ds) q F = value_into d ds q F (λ r. eval-merge ds r F)

  -- ---- its order

  keys_at : (P : K.carrier → Type 0) (o : Ordering) (d e : K.carrier × C) (l b g : Formal K R) → P d.0 → P e.0 → AllKeys K C P l → AllKeys K C P b → AllKeys K C P g → AllKeys K C P (merge_at o d e l b g)
  unfolding merge_at
  keys_at P Less d e l b g hd he hl hb hg = (hd, hl)
  keys_at P Greater d e l b g hd he hl hb hg = (he, hg)
  keys_at P Equal d e l b g hd he hl hb hg =
      AllKeys-strip_at K R Z P (Z.is_zero (d.1 ⊕ e.1)) (d.0, d.1 ⊕ e.1) b hd hb

  keys_into : (P : K.carrier → Type 0) (d : K.carrier × C) (ds q : Formal K R) → P d.0 → AllKeys K C P q → ((r : Formal K R) → AllKeys K C P r → AllKeys K C P (merge ds r)) → AllKeys K C P (merge_into d (merge ds) q)
  unfolding merge_into
  keys_into P d ds [] hd hq h = (hd, h [] tt)
  keys_into P d ds (e ∷ es) hd hq h =
      keys_at P (K.cmp d.0 e.0) d e (merge ds (e ∷ es)) (merge ds es) (merge_into d (merge ds) es) hd hq.0 (h (e ∷ es) hq) (h es hq.1) (keys_into P d ds es hd hq.1 h)

  pub AllKeys-merge : (P : K.carrier → Type 0) (p q : Formal K R) → AllKeys K C P p → AllKeys K C P q → AllKeys K C P (merge p q)
  unfolding merge
  AllKeys-merge P [] q hp hq = hq
  AllKeys-merge P (d ∷ ds) q hp hq = keys_into P d ds q hp.0 hq (λ r hr. AllKeys-merge P ds r hp.1 hr)

  -- a key after k
  abbrev after : K.carrier → K.carrier → Type 0
  after k j = K.cmp k j ≡ Less

  cons_canonical : (d : K.carrier × C) (r : Formal K R) → Z.is_zero d.1 ≡ false → Above K C d.0 r → IsCanonical K R Z r → IsCanonical K R Z (d ∷ r)
  cons_canonical d r z a c = record { ascending = (a, c.ascending); nonzero = (z, c.nonzero) }

  canonical_at : (o : Ordering) (d e : K.carrier × C) (ds es l b g : Formal K R) → K.cmp d.0 e.0 ≡ o → IsCanonical K R Z (d ∷ ds) → IsCanonical K R Z (e ∷ es) → (Above K C d.0 (e ∷ es) → Above K C d.0 l) → (Above K C d.0 es → Above K C d.0 b) → (Above K C e.0 (d ∷ ds) → Above K C e.0 g) → IsCanonical K R Z l → IsCanonical K R Z b → IsCanonical K R Z g → IsCanonical K R Z (merge_at o d e l b g)
  unfolding merge_at
  canonical_at Less d e ds es l b g o cd ce al ab ag hl hb hg =
      cons_canonical d l cd.nonzero.0 (al (o, Above-after K C d.0 e.0 es o ce.ascending.0)) hl
  canonical_at Greater d e ds es l b g o cd ce al ab ag hl hb hg =
      let back = greater_less K d.0 e.0 o in
      cons_canonical e g ce.nonzero.0 (ag (back, Above-after K C e.0 d.0 ds back cd.ascending.0)) hg
  canonical_at Equal d e ds es l b g o cd ce al ab ag hl hb hg =
      canonical_strip_at K R Z (Z.is_zero (d.1 ⊕ e.1)) (d.0, d.1 ⊕ e.1) b refl (ab (rw (← (K.equal d.0 e.0 o)) at ce.ascending.0)) hb

  canonical_into : (d : K.carrier × C) (ds q : Formal K R) → IsCanonical K R Z (d ∷ ds) → IsCanonical K R Z q → ((r : Formal K R) → IsCanonical K R Z r → IsCanonical K R Z (merge ds r)) → IsCanonical K R Z (merge_into d (merge ds) q)
  unfolding merge_into
  canonical_into d ds [] cd cq h =
      cons_canonical d (merge ds []) cd.nonzero.0 (AllKeys-merge (after d.0) ds [] cd.ascending.0 tt) (h [] cq)
  canonical_into d ds (e ∷ es) cd cq h =
      canonical_at (K.cmp d.0 e.0) d e ds es (merge ds (e ∷ es)) (merge ds es) (merge_into d (merge ds) es) refl cd cq (λ a. AllKeys-merge (after d.0) ds (e ∷ es) cd.ascending.0 a) (λ a. AllKeys-merge (after d.0) ds es cd.ascending.0 a) (λ a. keys_into (after e.0) d ds es a.0 cq.ascending.0 (λ r hr. AllKeys-merge (after e.0) ds r a.1 hr)) (h (e ∷ es) cq) (h es (canonical_tail K R Z e es cq)) (canonical_into d ds es cd (canonical_tail K R Z e es cq) h)

  pub IsCanonical-merge : (p q : Formal K R) → IsCanonical K R Z p → IsCanonical K R Z q → IsCanonical K R Z (merge p q)
  unfolding merge
  IsCanonical-merge [] q cp cq = cq
  IsCanonical-merge (d ∷ ds) q cp cq =
      canonical_into d ds q cp cq (λ r cr. IsCanonical-merge ds r (canonical_tail K R Z d ds cp) cr)
