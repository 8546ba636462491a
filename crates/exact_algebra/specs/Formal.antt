-- Formal sums: lists of pairs (key, coefficient), in any order and with repeats.
-- Their meaning is their value at every weight of the keys (`eval`), or, what is the same, their coefficient at every key.
use Rattle.std.specs.Prelude.{◌≡◌, List, [], ◌∷◌, ◌++◌, Bool, true, false, ⊤}
use Rattle.std.specs.Cmp.{IsTotalOrder}
use Rattle.std.proofs.Common.{refl, sym, ap, ap₂, ◌∙◌, subst, Ordering, Less, Equal, Greater, true≢false}
use Rattle.std.proofs.lemmas.Cmp.{tied_itself}
use Rattle.exact_algebra.specs.Ring.{CommutativeMonoid, Action, additive, regular, unit_times, times_left_comm, Semiring, zero_add, ZeroTest}
use Rattle.exact_algebra.specs.Totals.{total, total-append}
use Rattle.exact_algebra.specs.Sums.{sum, sum-append, where_equal}

-- keys in a strict total order
pub record Keys : Type 1 where
  pub carrier : Type 0
  pub cmp : carrier → carrier → Ordering
  pub total : IsTotalOrder cmp
  pub equal : (a b : carrier) → cmp a b ≡ Equal → a ≡ b

module _ (K : Keys) where
  pub greater_less : (j k : K.carrier) → K.cmp j k ≡ Greater → K.cmp k j ≡ Less
  greater_less j k e = rw e at (K.total.antisymm k j)

  pub less_greater : (j k : K.carrier) → K.cmp j k ≡ Less → K.cmp k j ≡ Greater
  less_greater j k e = rw e at (K.total.antisymm k j)

module _ (K : Keys) (V : Type 0) where
  -- every key of the list meets P
  abbrev pub AllKeys : (K.carrier → Type 0) → List (K.carrier × V) → Type 0
  AllKeys P [] = ⊤
  AllKeys P (e ∷ es) = P e.0 × AllKeys P es

  -- every key of the list comes after k
  abbrev pub Above : K.carrier → List (K.carrier × V) → Type 0
  Above k p = AllKeys (λ j. K.cmp k j ≡ Less) p

  -- the keys ascend
  abbrev pub Ascending : List (K.carrier × V) → Type 0
  Ascending [] = ⊤
  Ascending (e ∷ es) = Above e.0 es × Ascending es

  pub Above-after : (j k : K.carrier) (p : List (K.carrier × V)) → K.cmp j k ≡ Less → Above k p → Above j p
  Above-after j k [] l h = tt
  Above-after j k (e ∷ es) l h = (K.total.trans j k e.0 l h.0, Above-after j k es l h.1)

module _ (K : Keys) (R : Semiring) where
  open R use {carrier as C, zero, one, add as ◌⊕◌, mul as ◌⊗◌}

  infixl 6 ◌⊕◌
  infixl 7 ◌⊗◌
  -- formal sums
  abbrev pub Formal : Type 0
  Formal = List (K.carrier × C)

  -- the coefficient at a key: the sum of those of its entries
  unfoldable pub coefficient : Formal → K.carrier → C
  coefficient p k = sum R p (λ e. where_equal R (K.cmp k e.0) e.1)

  -- the value at a weight F of the keys
  unfoldable pub eval : Formal → (K.carrier → C) → C
  eval p F = sum R p (λ e. e.1 ⊗ F e.0)

  pub eval-cons : (e : K.carrier × C) (es : Formal) (F : K.carrier → C) → eval (e ∷ es) F ≡ e.1 ⊗ F e.0 ⊕ eval es F
  unfolding eval sum
  eval-cons e es F = refl

  pub eval-nil : (F : K.carrier → C) → eval [] F ≡ zero
  unfolding eval sum
  eval-nil F = refl

  pub eval-append : (p q : Formal) (F : K.carrier → C) → eval (p ++ q) F ≡ eval p F ⊕ eval q F
  unfolding eval
  eval-append p q F = sum-append R p q (λ e. e.1 ⊗ F e.0)

  -- a unit weight at one key
  abbrev pub unit_at : K.carrier → K.carrier → C
  unit_at k j = where_equal R (K.cmp k j) one

  where_equal_unit : (o : Ordering) (c : C) → where_equal R o c ≡ c ⊗ where_equal R o one
  where_equal_unit Less c = sym (R.mul_zero c)
  where_equal_unit Equal c = sym (R.mul_one c)
  where_equal_unit Greater c = sym (R.mul_zero c)

  pub coefficient-eval : (p : Formal) (k : K.carrier) → coefficient p k ≡ eval p (unit_at k)
  unfolding coefficient eval
  coefficient-eval p k = ap (sum R p) (λ i e. where_equal_unit (K.cmp k e.0) e.1 i)

  -- ---- the canonical list of a formal sum

  -- an entry put before, onto or behind the first one, by how its key compares
  put_at : Ordering → K.carrier → C → K.carrier × C → Formal → Formal → Formal
  put_at Less k c e es r = (k, c) ∷ e ∷ es
  put_at Equal k c e es r = (e.0, c ⊕ e.1) ∷ es
  put_at Greater k c e es r = e ∷ r

  -- an entry put into an ascending list
  put : K.carrier → C → Formal → Formal
  put k c [] = (k, c) ∷ []
  put k c (e ∷ es) = put_at (K.cmp k e.0) k c e es (put k c es)

  -- the entries in order, those of one key added up
  collect : Formal → Formal
  collect [] = []
  collect (e ∷ es) = put e.0 e.1 (collect es)

  Above-put_at : (o : Ordering) (j k : K.carrier) (c : C) (e : K.carrier × C) (es r : Formal) → K.cmp j k ≡ Less → Above K C j (e ∷ es) → Above K C j r → Above K C j (put_at o k c e es r)
  unfolding put_at
  Above-put_at Less j k c e es r l h g = (l, h)
  Above-put_at Equal j k c e es r l h g = h
  Above-put_at Greater j k c e es r l h g = (h.0, g)

  Above-put : (j k : K.carrier) (c : C) (p : Formal) → K.cmp j k ≡ Less → Above K C j p → Above K C j (put k c p)
  unfolding put
  Above-put j k c [] l h = (l, tt)
  Above-put j k c (e ∷ es) l h = Above-put_at (K.cmp k e.0) j k c e es (put k c es) l h (Above-put j k c es l h.1)

  Ascending-put_at : (o : Ordering) (k : K.carrier) (c : C) (e : K.carrier × C) (es r : Formal) → K.cmp k e.0 ≡ o → Ascending K C (e ∷ es) → (K.cmp e.0 k ≡ Less → Above K C e.0 r) → Ascending K C r → Ascending K C (put_at o k c e es r)
  unfolding put_at
  Ascending-put_at Less k c e es r q h g a = ((q, Above-after K C k e.0 es q h.0), h)
  Ascending-put_at Equal k c e es r q h g a = h
  Ascending-put_at Greater k c e es r q h g a = (g (greater_less K k e.0 q), a)

  Ascending-put : (k : K.carrier) (c : C) (p : Formal) → Ascending K C p → Ascending K C (put k c p)
  unfolding put
  Ascending-put k c [] h = (tt, tt)
  Ascending-put k c (e ∷ es) h =
      Ascending-put_at (K.cmp k e.0) k c e es (put k c es) refl h (λ l. Above-put e.0 k c es l h.0) (Ascending-put k c es h.1)

  Ascending-collect : (p : Formal) → Ascending K C (collect p)
  unfolding collect
  Ascending-collect [] = tt
  Ascending-collect (e ∷ es) = Ascending-put e.0 e.1 (collect es) (Ascending-collect es)

module _ (K : Keys) (R : Semiring) (M : CommutativeMonoid) (A : Action R M) where
  open M use {carrier as W, times as ◌⊙◌}

  infixl 6 ◌⊙◌
  -- the value at a weight in any commutative monoid that the coefficients act on
  unfoldable pub worth : Formal K R → (K.carrier → W) → W
  worth p F = total M p (λ e. A.act e.1 (F e.0))

  pub worth-nil : (F : K.carrier → W) → worth [] F ≡ M.unit
  unfolding worth total
  worth-nil F = refl

  pub worth-cons : (e : K.carrier × R.carrier) (es : Formal K R) (F : K.carrier → W) → worth (e ∷ es) F ≡ A.act e.1 (F e.0) ⊙ worth es F
  unfolding worth total
  worth-cons e es F = refl

  pub worth-append : (p q : Formal K R) (F : K.carrier → W) → worth (p ++ q) F ≡ worth p F ⊙ worth q F
  unfolding worth
  worth-append p q F = total-append M p q (λ e. A.act e.1 (F e.0))

  worth-put_at : (o : Ordering) (k : K.carrier) (c : R.carrier) (e : K.carrier × R.carrier) (es r : Formal K R) (F : K.carrier → W) → K.cmp k e.0 ≡ o → worth r F ≡ A.act c (F k) ⊙ worth es F → worth (put_at K R o k c e es r) F ≡ A.act c (F k) ⊙ worth (e ∷ es) F
  unfolding put_at worth total
  worth-put_at Less k c e es r F q h = refl
  worth-put_at Equal k c e es r F q h =
      ap (λ s. s ⊙ worth es F) (A.act_add c e.1 (F e.0)) ∙ M.times_assoc (A.act c (F e.0)) (A.act e.1 (F e.0)) (worth es F)
      ∙ ap (λ j. A.act c (F j) ⊙ (A.act e.1 (F e.0) ⊙ worth es F)) (sym (K.equal k e.0 q))
  worth-put_at Greater k c e es r F q h =
      ap (λ s. A.act e.1 (F e.0) ⊙ s) h ∙ times_left_comm M (A.act e.1 (F e.0)) (A.act c (F k)) (worth es F)

  worth-put : (k : K.carrier) (c : R.carrier) (p : Formal K R) (F : K.carrier → W) → worth (put K R k c p) F ≡ A.act c (F k) ⊙ worth p F
  unfolding put
  worth-put k c [] F = worth-cons (k, c) [] F
  worth-put k c (e ∷ es) F =
      worth-put_at (K.cmp k e.0) k c e es (put K R k c es) F refl (worth-put k c es F)

  worth-collect : (p : Formal K R) (F : K.carrier → W) → worth (collect K R p) F ≡ worth p F
  unfolding collect
  worth-collect [] F = refl
  worth-collect (e ∷ es) F =
      worth-put e.0 e.1 (collect K R es) F ∙ ap (λ s. A.act e.1 (F e.0) ⊙ s) (worth-collect es F) ∙ sym (worth-cons e es F)

module _ (K : Keys) (R : Semiring) (Z : ZeroTest R) where
  open R use {carrier as C, zero, one, add as ◌⊕◌, mul as ◌⊗◌}

  infixl 6 ◌⊕◌
  infixl 7 ◌⊗◌
  -- no coefficient is 0
  abbrev pub NonZero : List (K.carrier × C) → Type 0
  NonZero [] = ⊤
  NonZero (e ∷ es) = (Z.is_zero e.1 ≡ false) × NonZero es

  -- ascending keys and no coefficient 0
  pub record IsCanonical (p : List (K.carrier × C)) : Type 0 where
    pub ascending : Ascending K C p
    pub nonzero : NonZero p

  -- an entry less where its coefficient is 0
  unfoldable pub strip_at : Bool → K.carrier × C → List (K.carrier × C) → List (K.carrier × C)
  strip_at true e r = r
  strip_at false e r = e ∷ r

  -- the entries with a coefficient other than 0
  strip : List (K.carrier × C) → List (K.carrier × C)
  strip [] = []
  strip (e ∷ es) = strip_at (Z.is_zero e.1) e (strip es)

  -- the canonical list of a formal sum: ascending keys, no coefficient 0
  pub canonical : List (K.carrier × C) → List (K.carrier × C)
  canonical p = strip (collect K R p)

module _ (K : Keys) (R : Semiring) (Z : ZeroTest R) (M : CommutativeMonoid) (A : Action R M) where
  open M use {carrier as W, times as ◌⊙◌}

  infixl 6 ◌⊙◌
  worth-strip_at : (b : Bool) (e : K.carrier × R.carrier) (es r : Formal K R) (F : K.carrier → W) → Z.is_zero e.1 ≡ b → worth K R M A r F ≡ worth K R M A es F → worth K R M A (strip_at K R Z b e r) F ≡ worth K R M A (e ∷ es) F
  unfolding strip_at
  worth-strip_at true e es r F q h =
      h ∙ sym (unit_times M (worth K R M A es F))
      ∙ ap (λ s. s ⊙ worth K R M A es F) (sym (A.act_zero (F e.0)) ∙ ap (λ c. A.act c (F e.0)) (sym (Z.yes e.1 q))) ∙ sym (worth-cons K R M A e es F)
  worth-strip_at false e es r F q h =
      worth-cons K R M A e r F ∙ ap (λ s. A.act e.1 (F e.0) ⊙ s) h ∙ sym (worth-cons K R M A e es F)

  worth-strip : (p : Formal K R) (F : K.carrier → W) → worth K R M A (strip K R Z p) F ≡ worth K R M A p F
  unfolding strip
  worth-strip [] F = refl
  worth-strip (e ∷ es) F = worth-strip_at (Z.is_zero e.1) e es (strip K R Z es) F refl (worth-strip es F)

  -- the canonical list has the same value at each weight
  pub worth-canonical : (p : Formal K R) (F : K.carrier → W) → worth K R M A (canonical K R Z p) F ≡ worth K R M A p F
  unfolding canonical
  worth-canonical p F = worth-strip (collect K R p) F ∙ worth-collect K R M A p F

module _ (K : Keys) (R : Semiring) (Z : ZeroTest R) where
  open R use {carrier as C, zero, one, add as ◌⊕◌, mul as ◌⊗◌}

  infixl 6 ◌⊕◌
  infixl 7 ◌⊗◌
  pub eval-strip_at : (b : Bool) (e : K.carrier × C) (es r : List (K.carrier × C)) (F : K.carrier → C) → Z.is_zero e.1 ≡ b → eval K R r F ≡ eval K R es F → eval K R (strip_at K R Z b e r) F ≡ eval K R (e ∷ es) F
  unfolding worth eval sum
  eval-strip_at b e es r F q h = worth-strip_at K R Z (additive R) (regular R) b e es r F q h

  pub eval-canonical : (p : List (K.carrier × C)) (F : K.carrier → C) → eval K R (canonical K R Z p) F ≡ eval K R p F
  unfolding worth eval sum
  eval-canonical p F = worth-canonical K R Z (additive R) (regular R) p F

  pub AllKeys-strip_at : (P : K.carrier → Type 0) (b : Bool) (e : K.carrier × C) (r : List (K.carrier × C)) → P e.0 → AllKeys K C P r → AllKeys K C P (strip_at K R Z b e r)
  unfolding strip_at
  AllKeys-strip_at P true e r l h = h
  AllKeys-strip_at P false e r l h = (l, h)

  Above-strip : (k : K.carrier) (p : List (K.carrier × C)) → Above K C k p → Above K C k (strip K R Z p)
  unfolding strip
  Above-strip k [] h = tt
  Above-strip k (e ∷ es) h = AllKeys-strip_at (λ j. K.cmp k j ≡ Less) (Z.is_zero e.1) e (strip K R Z es) h.0 (Above-strip k es h.1)

  pub canonical_strip_at : (b : Bool) (e : K.carrier × C) (r : List (K.carrier × C)) → Z.is_zero e.1 ≡ b → Above K C e.0 r → IsCanonical K R Z r → IsCanonical K R Z (strip_at K R Z b e r)
  unfolding strip_at
  canonical_strip_at true e r q a h = h
  canonical_strip_at false e r q a h = record { ascending = (a, h.ascending); nonzero = (q, h.nonzero) }

  canonical_strip : (p : List (K.carrier × C)) → Ascending K C p → IsCanonical K R Z (strip K R Z p)
  unfolding strip
  canonical_strip [] h = record { ascending = tt; nonzero = tt }
  canonical_strip (e ∷ es) h =
      canonical_strip_at (Z.is_zero e.1) e (strip K R Z es) refl (Above-strip e.0 es h.0) (canonical_strip es h.1)

  pub IsCanonical-canonical : (p : List (K.carrier × C)) → IsCanonical K R Z (canonical K R Z p)
  unfolding canonical
  IsCanonical-canonical p = canonical_strip (collect K R p) (Ascending-collect K R p)

  -- ---- a canonical list is determined by its coefficients

  pub coefficient-cons : (e : K.carrier × C) (es : List (K.carrier × C)) (k : K.carrier) → coefficient K R (e ∷ es) k ≡ where_equal R (K.cmp k e.0) e.1 ⊕ coefficient K R es k
  unfolding coefficient sum
  coefficient-cons e es k = refl

  pub coefficient-nil : (k : K.carrier) → coefficient K R [] k ≡ zero
  unfolding coefficient sum
  coefficient-nil k = refl

  pub coefficient_above : (k : K.carrier) (p : List (K.carrier × C)) → Above K C k p → coefficient K R p k ≡ zero
  coefficient_above k [] h = coefficient-nil k
  coefficient_above k (e ∷ es) h =
      coefficient-cons e es k ∙ ap (λ o. where_equal R o e.1 ⊕ coefficient K R es k) h.0 ∙ zero_add R (coefficient K R es k) ∙ coefficient_above k es h.1

  -- at the first key
  pub coefficient_head : (k : K.carrier) (e : K.carrier × C) (es : List (K.carrier × C)) → K.cmp k e.0 ≡ Equal → Above K C k es → coefficient K R (e ∷ es) k ≡ e.1
  coefficient_head k e es q a =
      coefficient-cons e es k ∙ ap (λ o. where_equal R o e.1 ⊕ coefficient K R es k) q ∙ ap (λ s. e.1 ⊕ s) (coefficient_above k es a) ∙ R.add_zero e.1

  nonzero_head : (e : K.carrier × C) → Z.is_zero e.1 ≡ false → e.1 ≡ zero → ⊥
  nonzero_head e q h = true≢false (sym Z.at_zero ∙ ap Z.is_zero (sym h) ∙ q)

  first_key : (e : K.carrier × C) (es q : List (K.carrier × C)) → IsCanonical K R Z (e ∷ es) → Above K C e.0 q → ((k : K.carrier) → coefficient K R (e ∷ es) k ≡ coefficient K R q k) → ⊥
  first_key e es q c a same =
      nonzero_head e c.nonzero.0 (sym (coefficient_head e.0 e es (tied_itself K.total e.0) c.ascending.0) ∙ same e.0 ∙ coefficient_above e.0 q a)

  pub canonical_tail : (e : K.carrier × C) (es : List (K.carrier × C)) → IsCanonical K R Z (e ∷ es) → IsCanonical K R Z es
  canonical_tail e es c = record { ascending = c.ascending.1; nonzero = c.nonzero.1 }

  heads : (o : Ordering) (d e : K.carrier × C) (ds es : List (K.carrier × C)) → K.cmp d.0 e.0 ≡ o → IsCanonical K R Z (d ∷ ds) → IsCanonical K R Z (e ∷ es) → ((k : K.carrier) → coefficient K R (d ∷ ds) k ≡ coefficient K R (e ∷ es) k) → (((k : K.carrier) → coefficient K R ds k ≡ coefficient K R es k) → ds ≡ es) → d ∷ ds ≡ e ∷ es
  heads Less d e ds es o c b same rest =
      absurd (first_key d ds (e ∷ es) c (o, Above-after K C d.0 e.0 es o b.ascending.0) same)
  heads Greater d e ds es o c b same rest =
      absurd (first_key e es (d ∷ ds) b (greater_less K d.0 e.0 o, Above-after K C e.0 d.0 ds (greater_less K d.0 e.0 o) c.ascending.0) (λ k. sym (same k)))
  heads Equal d e ds es o c b same rest = λ i. (key i, value i) ∷ tails i
    where
      key : d.0 ≡ e.0
      key = K.equal d.0 e.0 o

      value : d.1 ≡ e.1
      value =
          sym (coefficient_head d.0 d ds (tied_itself K.total d.0) c.ascending.0) ∙ same d.0
          ∙ coefficient_head d.0 e es o (subst (λ k. Above K C k es) (sym key) b.ascending.0)

      tails : ds ≡ es
      tails =
          rest (λ k. R.add_cancel (where_equal R (K.cmp k d.0) d.1) (coefficient K R ds k) (coefficient K R es k) (sym (coefficient-cons d ds k) ∙ same k ∙ coefficient-cons e es k ∙ ap (λ s. s ⊕ coefficient K R es k) (λ i. where_equal R (K.cmp k (sym key i)) (sym value i))))

  pub canonical_unique : (p q : List (K.carrier × C)) → IsCanonical K R Z p → IsCanonical K R Z q → ((k : K.carrier) → coefficient K R p k ≡ coefficient K R q k) → p ≡ q
  canonical_unique [] [] c b same = refl
  canonical_unique [] (e ∷ es) c b same = absurd (first_key e es [] b tt (λ k. sym (same k)))
  canonical_unique (d ∷ ds) [] c b same = absurd (first_key d ds [] c tt same)
  canonical_unique (d ∷ ds) (e ∷ es) c b same =
      heads (K.cmp d.0 e.0) d e ds es refl c b same (canonical_unique ds es (canonical_tail d ds c) (canonical_tail e es b))

  -- the canonical lists of two formal sums with equal coefficients are equal
  pub canonical_same : (p q : List (K.carrier × C)) → ((k : K.carrier) → coefficient K R p k ≡ coefficient K R q k) → canonical K R Z p ≡ canonical K R Z q
  canonical_same p q same =
      canonical_unique (canonical K R Z p) (canonical K R Z q) (IsCanonical-canonical p) (IsCanonical-canonical q) (λ k. at k p ∙ same k ∙ sym (at k q))
    where
      at : (k : K.carrier) (r : List (K.carrier × C)) → coefficient K R (canonical K R Z r) k ≡ coefficient K R r k
      at k r = coefficient-eval K R (canonical K R Z r) k ∙ eval-canonical r (unit_at K R k) ∙ sym (coefficient-eval K R r k)

  -- a value at every weight is settled by the coefficients
  pub eval_same : (p q : List (K.carrier × C)) → ((k : K.carrier) → coefficient K R p k ≡ coefficient K R q k) → (F : K.carrier → C) → eval K R p F ≡ eval K R q F
  eval_same p q same F =
      sym (eval-canonical p F) ∙ ap (λ r. eval K R r F) (canonical_same p q same) ∙ eval-canonical q F

  pub canonical_fixed : (p : List (K.carrier × C)) → IsCanonical K R Z p → canonical K R Z p ≡ p
  canonical_fixed p c =
      canonical_unique (canonical K R Z p) p (IsCanonical-canonical p) c (λ k. coefficient-eval K R (canonical K R Z p) k ∙ eval-canonical p (unit_at K R k) ∙ sym (coefficient-eval K R p k))

  -- ---- multiples

  -- each coefficient times c, without those that become 0
  unfoldable pub scaled : C → List (K.carrier × C) → List (K.carrier × C)
  scaled c [] = []
  scaled c (e ∷ es) = strip_at K R Z (Z.is_zero (e.1 ⊗ c)) (e.0, e.1 ⊗ c) (scaled c es)

  pub eval-scaled : (c : C) (p : List (K.carrier × C)) (F : K.carrier → C) → eval K R (scaled c p) F ≡ c ⊗ eval K R p F
  unfolding scaled
  eval-scaled c [] F = eval-nil K R F ∙ sym (R.mul_zero c) ∙ ap (λ s. c ⊗ s) (sym (eval-nil K R F))
  eval-scaled c (e ∷ es) F =
      eval-strip_at (Z.is_zero (e.1 ⊗ c)) (e.0, e.1 ⊗ c) (scaled c es) (scaled c es) F refl refl ∙ eval-cons K R (e.0, e.1 ⊗ c) (scaled c es) F
      ∙ ap₂ ◌⊕◌ (ap (λ d. d ⊗ F e.0) (R.mul_comm e.1 c) ∙ R.mul_assoc c e.1 (F e.0)) (eval-scaled c es F)
      ∙ sym (R.mul_add c (e.1 ⊗ F e.0) (eval K R es F)) ∙ ap (λ s. c ⊗ s) (sym (eval-cons K R e es F))

  pub AllKeys-scaled : (P : K.carrier → Type 0) (c : C) (p : List (K.carrier × C)) → AllKeys K C P p → AllKeys K C P (scaled c p)
  unfolding scaled
  AllKeys-scaled P c [] h = tt
  AllKeys-scaled P c (e ∷ es) h =
      AllKeys-strip_at P (Z.is_zero (e.1 ⊗ c)) (e.0, e.1 ⊗ c) (scaled c es) h.0 (AllKeys-scaled P c es h.1)

  pub IsCanonical-scaled : (c : C) (p : List (K.carrier × C)) → Ascending K C p → IsCanonical K R Z (scaled c p)
  unfolding scaled
  IsCanonical-scaled c [] h = record { ascending = tt; nonzero = tt }
  IsCanonical-scaled c (e ∷ es) h =
      canonical_strip_at (Z.is_zero (e.1 ⊗ c)) (e.0, e.1 ⊗ c) (scaled c es) refl (AllKeys-scaled (λ j. K.cmp e.0 j ≡ Less) c es h.0) (IsCanonical-scaled c es h.1)
