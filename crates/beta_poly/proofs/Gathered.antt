-- A list whose keys don't fall: its neighbours with one key are added, and what cancels is dropped.
use Rattle.std.proofs.Common.{◌≡◌, ℕ, zero, suc, ◌+◌, ◌<◌, ◌≤◌, List, [], ◌∷◌, ◌++◌, length, get_or, drop, refl, sym, ap, ◌∙◌, arith, append-nil, append_assoc, drop_of_length-le, Bool, true, false, eqb, true≢false, Ordering, Less, Equal, Greater, subst}
use Rattle.std.specs.Prelude.{⊤}
use Rattle.std.specs.Ordering.{is_lt}
use Rattle.std.specs.List.Sorted.{IsSortedByKey}
use Rattle.std.proofs.lemmas.List.Sorted.{sorted_far, ranks_by}
use Rattle.exact_algebra.specs.Ring.{Semiring, ZeroTest, add_mul}
use Rattle.exact_algebra.specs.Formal.{Keys, Formal, eval, eval-cons, AllKeys, Above, IsCanonical, strip_at, eval-strip_at, AllKeys-strip_at, canonical_strip_at, greater_less}
use Rattle.exact_algebra.specs.Canon.{of, of_same}

pub not_empty : (n : ℕ) → eqb n 0 ≡ false → 1 ≤ n
not_empty n h = grind arith

module _ (K : Keys) (V : Type 0) where
  -- no key comes before an earlier one
  abbrev pub Rising : List (K.carrier × V) → Type 0
  Rising [] = ⊤
  Rising (e ∷ es) = AllKeys K V (λ j. is_lt (K.cmp j e.0) ≡ false) es × Rising es

  pub all_keys : (P : K.carrier → Type 0) (es : List (K.carrier × V)) → ((i : ℕ) (d : K.carrier × V) → i < length es → P (get_or es i d).0) → AllKeys K V P es
  all_keys P [] h = tt
  all_keys P (e ∷ es) h = (h zero e (omega arith), all_keys P es (λ i d l. h (suc i) d (omega arith)))

  rising_from : (es : List (K.carrier × V)) → ((i j : ℕ) (d : K.carrier × V) → i ≤ j → j < length es → is_lt (K.cmp (get_or es j d).0 (get_or es i d).0) ≡ false) → Rising es
  rising_from [] h = tt
  rising_from (e ∷ es) h =
      (all_keys (λ j. is_lt (K.cmp j e.0) ≡ false) es (λ i d l. h zero (suc i) d (omega arith) (omega arith)), rising_from es (λ i j d p l. h (suc i) (suc j) d (omega arith) (omega arith)))

  -- what a sort by the key gives
  pub rising : (es : List (K.carrier × V)) → IsSortedByKey (λ e. e.0) K.cmp es → Rising es
  rising es up =
      rising_from es (sorted_far (λ x y. is_lt (K.cmp x.0 y.0)) (ranks_by K.total (λ (e : K.carrier × V). e.0)) es up)

  -- what isn't before f comes after what is before f
  later : (o : Ordering) (e f j : K.carrier) → K.cmp f j ≡ o → K.cmp e f ≡ Less → is_lt (K.cmp j f) ≡ false → K.cmp e j ≡ Less
  later Less e f j h l n = K.total.trans e f j l h
  later Equal e f j h l n = subst (λ x. K.cmp e x ≡ Less) (K.equal f j h) l
  later Greater e f j h l n = absurd (true≢false (sym (ap is_lt (greater_less K f j h)) ∙ n))

  pub above_later : (e f : K.carrier) (es : List (K.carrier × V)) → K.cmp e f ≡ Less → AllKeys K V (λ j. is_lt (K.cmp j f) ≡ false) es → Above K V e es
  above_later e f [] l h = tt
  above_later e f (g ∷ gs) l h = (later (K.cmp f g.0) e f g.0 refl l h.0, above_later e f gs l h.1)

module _ (K : Keys) (R : Semiring) (Z : ZeroTest R) where
  open R use {carrier as C, zero as 𝟘, add as ◌⊕◌, mul as ◌⊗◌}

  infixl 6 ◌⊕◌
  infixl 7 ◌⊗◌
  abbrev put : K.carrier × C → Formal K R → Formal K R
  put e r = strip_at K R Z (Z.is_zero e.1) e r

  run_at : Ordering → K.carrier × C → Formal K R → Formal K R → Formal K R
  run_at Less e same next = put e next
  run_at Equal e same next = same
  run_at Greater e same next = put e next

  -- the sum of a run of terms with one key that begins with e, and of the runs after it
  pub run : K.carrier × C → Formal K R → Formal K R
  run e [] = put e []
  run e (f ∷ fs) = run_at (K.cmp e.0 f.0) e (run (e.0, e.1 ⊕ f.1) fs) (run f fs)

  pub gathered : Formal K R → Formal K R
  gathered [] = []
  gathered (e ∷ es) = run e es

  -- ---- its value

  value_put : (e : K.carrier × C) (r : Formal K R) (F : K.carrier → C) → eval K R (put e r) F ≡ e.1 ⊗ F e.0 ⊕ eval K R r F
  value_put e r F = eval-strip_at K R Z (Z.is_zero e.1) e r r F refl refl ∙ eval-cons K R e r F

  value_at : (o : Ordering) (e f : K.carrier × C) (fs same next : Formal K R) (F : K.carrier → C) → K.cmp e.0 f.0 ≡ o → eval K R same F ≡ (e.1 ⊕ f.1) ⊗ F e.0 ⊕ eval K R fs F → eval K R next F ≡ f.1 ⊗ F f.0 ⊕ eval K R fs F → eval K R (run_at o e same next) F ≡ e.1 ⊗ F e.0 ⊕ eval K R (f ∷ fs) F
  unfolding run_at
  value_at Less e f fs same next F o hs hn =
      value_put e next F ∙ ap (λ s. e.1 ⊗ F e.0 ⊕ s) (hn ∙ sym (eval-cons K R f fs F))
  value_at Greater e f fs same next F o hs hn =
      value_put e next F ∙ ap (λ s. e.1 ⊗ F e.0 ⊕ s) (hn ∙ sym (eval-cons K R f fs F))
  value_at Equal e f fs same next F o hs hn =
      hs ∙ ap (λ s. s ⊕ eval K R fs F) (add_mul R e.1 f.1 (F e.0)) ∙ R.add_assoc (e.1 ⊗ F e.0) (f.1 ⊗ F e.0) (eval K R fs F) ∙ ap (λ k. e.1 ⊗ F e.0 ⊕ (f.1 ⊗ F k ⊕ eval K R fs F)) (K.equal e.0 f.0 o) ∙ ap (λ s. e.1 ⊗ F e.0 ⊕ s) (sym (eval-cons K R f fs F))

  value_run : (e : K.carrier × C) (fs : Formal K R) (F : K.carrier → C) → eval K R (run e fs) F ≡ e.1 ⊗ F e.0 ⊕ eval K R fs F
  unfolding run
  value_run e [] F = value_put e [] F
  value_run e (f ∷ fs) F =
      value_at (K.cmp e.0 f.0) e f fs (run (e.0, e.1 ⊕ f.1) fs) (run f fs) F refl (value_run (e.0, e.1 ⊕ f.1) fs F) (value_run f fs F)

  value_gathered : (es : Formal K R) (F : K.carrier → C) → eval K R (gathered es) F ≡ eval K R es F
  unfolding gathered
  value_gathered [] F = refl
  value_gathered (e ∷ es) F = value_run e es F ∙ sym (eval-cons K R e es F)

  pub of-gathered : (es : Formal K R) → of K R Z (gathered es) ≡ of K R Z es
  of-gathered es = of_same K R Z (gathered es) es (value_gathered es)

  -- ---- its order

  keys_at : (P : K.carrier → Type 0) (o : Ordering) (e : K.carrier × C) (same next : Formal K R) → P e.0 → AllKeys K C P same → AllKeys K C P next → AllKeys K C P (run_at o e same next)
  unfolding run_at
  keys_at P Less e same next p hs hn = AllKeys-strip_at K R Z P (Z.is_zero e.1) e next p hn
  keys_at P Equal e same next p hs hn = hs
  keys_at P Greater e same next p hs hn = AllKeys-strip_at K R Z P (Z.is_zero e.1) e next p hn

  keys_run : (P : K.carrier → Type 0) (e : K.carrier × C) (fs : Formal K R) → P e.0 → AllKeys K C P fs → AllKeys K C P (run e fs)
  unfolding run
  keys_run P e [] p h = AllKeys-strip_at K R Z P (Z.is_zero e.1) e [] p tt
  keys_run P e (f ∷ fs) p h =
      keys_at P (K.cmp e.0 f.0) e (run (e.0, e.1 ⊕ f.1) fs) (run f fs) p (keys_run P (e.0, e.1 ⊕ f.1) fs p h.1) (keys_run P f fs h.0 h.1)

  pub keys_gathered : (P : K.carrier → Type 0) (es : Formal K R) → AllKeys K C P es → AllKeys K C P (gathered es)
  unfolding gathered
  keys_gathered P [] h = tt
  keys_gathered P (e ∷ es) h = keys_run P e es h.0 h.1

  canonical_at : (o : Ordering) (e f : K.carrier × C) (same next : Formal K R) → K.cmp e.0 f.0 ≡ o → is_lt (K.cmp f.0 e.0) ≡ false → (K.cmp e.0 f.0 ≡ Less → Above K C e.0 next) → IsCanonical K R Z same → IsCanonical K R Z next → IsCanonical K R Z (run_at o e same next)
  unfolding run_at
  canonical_at Less e f same next o n a hs hn = canonical_strip_at K R Z (Z.is_zero e.1) e next refl (a o) hn
  canonical_at Equal e f same next o n a hs hn = hs
  canonical_at Greater e f same next o n a hs hn =
      absurd (true≢false (sym (ap is_lt (greater_less K e.0 f.0 o)) ∙ n))

  canonical_run : (e : K.carrier × C) (fs : Formal K R) → Rising K C (e ∷ fs) → IsCanonical K R Z (run e fs)
  unfolding run
  canonical_run e [] h = canonical_strip_at K R Z (Z.is_zero e.1) e [] refl tt (record { ascending = tt; nonzero = tt })
  canonical_run e (f ∷ fs) h =
      canonical_at (K.cmp e.0 f.0) e f (run (e.0, e.1 ⊕ f.1) fs) (run f fs) refl h.0.0 (λ l. keys_run (λ j. K.cmp e.0 j ≡ Less) f fs l (above_later K C e.0 f.0 fs l h.1.0)) (canonical_run (e.0, e.1 ⊕ f.1) fs (h.0.1, h.1.1)) (canonical_run f fs h.1)

  pub canonical_gathered : (es : Formal K R) → Rising K C es → IsCanonical K R Z (gathered es)
  unfolding gathered
  canonical_gathered [] h = record { ascending = tt; nonzero = tt }
  canonical_gathered (e ∷ es) h = canonical_run e es h

  -- ---- the steps of a loop: e is the run so far

  strip_split : (b : Bool) (e : K.carrier × C) (out r : Formal K R) → (out ++ strip_at K R Z b e []) ++ r ≡ out ++ strip_at K R Z b e r
  unfolding strip_at
  strip_split true e out r = ap (λ q. q ++ r) (append-nil out)
  strip_split false e out r = append_assoc out (e ∷ []) r

  pub gather_start : (es : Formal K R) (e : K.carrier × C) → drop 0 es ≡ e ∷ drop (0 + 1) es → run e (drop (0 + 1) es) ≡ gathered es
  unfolding gathered
  gather_start es e d = sym (ap gathered d)

  next_at : (o : Ordering) (e d : K.carrier × C) (out same next : Formal K R) → (o ≡ Equal → ⊥) → (out ++ put e []) ++ next ≡ out ++ run_at o e same next
  unfolding run_at
  next_at Less e d out same next n = strip_split (Z.is_zero e.1) e out next
  next_at Equal e d out same next n = absurd (n refl)
  next_at Greater e d out same next n = strip_split (Z.is_zero e.1) e out next

  module _ (es out m : Formal K R) (i : ℕ) (e d : K.carrier × C) (da : drop i es ≡ d ∷ drop (i + 1) es) (h : out ++ run e (drop i es) ≡ m) where
    pub gather_same : K.cmp e.0 d.0 ≡ Equal → out ++ run (e.0, e.1 ⊕ d.1) (drop (i + 1) es) ≡ m
    unfolding run run_at
    gather_same o =
        ap (λ r. out ++ r) (sym (ap (run e) da ∙ ap (λ x. run_at x e (run (e.0, e.1 ⊕ d.1) (drop (i + 1) es)) (run d (drop (i + 1) es))) o)) ∙ h

    pub gather_next : (K.cmp e.0 d.0 ≡ Equal → ⊥) → (out ++ put e []) ++ run d (drop (i + 1) es) ≡ m
    unfolding run
    gather_next n =
        next_at (K.cmp e.0 d.0) e d out (run (e.0, e.1 ⊕ d.1) (drop (i + 1) es)) (run d (drop (i + 1) es)) n ∙ ap (λ r. out ++ r) (sym (ap (run e) da)) ∙ h

  pub gather_end : (es out m : Formal K R) (i : ℕ) (e : K.carrier × C) → length es ≤ i → out ++ run e (drop i es) ≡ m → out ++ put e [] ≡ m
  unfolding run
  gather_end es out m i e l h = ap (λ r. out ++ run e r) (sym (drop_of_length-le es l)) ∙ h
