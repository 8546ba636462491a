-- Fraction-free elimination: the pivots of a list of rows, and what they say of the values that solve the rows.
use Rattle.std.proofs.Common.{◌≡◌, ℕ, zero, suc, ◌-◌, ◌<◌, ◌≤◌, refl, sym, ◌∙◌, ap, ap₂, subst, arith, List, [], ◌∷◌, length, Option, None, Some, Bool, true, false, ℤ, pos, negsuc}
use Rattle.std.specs.Prelude.{◌≢◌, map, ⊤}
use Rattle.std.specs.Option.{option_map}
use Rattle.exact_algebra.specs.Ring.{zero_add, zero_mul}
use Rattle.exact_algebra.specs.Solver.{identity}
use Rattle.exact_algebra.specs.Solver.Term.{var, nought, ◌⊕◌, ◌⊗◌, opposite}
use Rattle.frac128.specs.Rational.{ℚ, zero_ℚ, ◌*ℚ◌, ◌-ℚ◌}
use Rattle.frac128.specs.RationalLaws.{zero_num, +ℚ-neg, *ℚ_comm}
use Rattle.span_solver.specs.Algebra.{Algebra, constant_zero, cancel_constant, zero-constant}
use Rattle.span_solver.specs.Combine.{Each, without, inserted, entry, mixed, AreZero, length-without, length-reduced, entry-mixed, Each-map, Each-implies, combine, value_at, scaled, AreNone, combine-nones, combine-split, combine-mixed, combine-scaled, combine-inserted}

abbrev pub is_zero_num : ℤ → Bool
is_zero_num (pos zero) = true
is_zero_num (pos (suc n)) = false
is_zero_num (negsuc n) = false

abbrev pub is_zero : ℚ → Bool
is_zero q = is_zero_num q.num

-- the place of the first entry that is not 0
abbrev pub leading_or : Bool → Option ℕ → Option ℕ
leading_or true later = option_map suc later
leading_or false later = Some zero

abbrev pub leading : List ℚ → Option ℕ
leading [] = None
leading (q ∷ qs) = leading_or (is_zero q) (leading qs)

-- a row after the pivot's direction j is taken out: b becomes p * b - a * q
abbrev pub reduced : List ℚ → ℕ → List ℚ → List ℚ
reduced pivot j e = without j (mixed (entry j pivot) (entry j e) e pivot)

-- the pivots: how many rows are passed over before each. A row is a pivot if an entry is not 0 once the directions of
-- the earlier pivots are taken out
abbrev pub one_later : List ℕ → List ℕ
one_later [] = []
one_later (g ∷ gs) = suc g ∷ gs

abbrev pub pivot_or_later : (List (List ℚ) → Option (List ℕ)) → List ℚ → List (List ℚ) → Option (List ℕ) → Option ℕ → Option (List ℕ)
pivot_or_later rest e es later None = option_map one_later later
pivot_or_later rest e es later (Some j) = option_map (λ gs. zero ∷ gs) (rest (map (reduced e j) es))

abbrev pub first_pivot : (List (List ℚ) → Option (List ℕ)) → List (List ℚ) → Option (List ℕ)
first_pivot rest [] = None
first_pivot rest (e ∷ es) = pivot_or_later rest e es (first_pivot rest es) (leading e)

abbrev pub pivots : ℕ → List (List ℚ) → Option (List ℕ)
pivots zero rows = Some []
pivots (suc k) rows = first_pivot (pivots k) rows

-- the elements at the pivots
abbrev pub select : {X : Type 0} → List ℕ → List X → List X
select [] xs = []
select (g ∷ gs) [] = []
select (zero ∷ gs) (x ∷ xs) = x ∷ select gs xs
select (suc g ∷ gs) (x ∷ xs) = select (g ∷ gs) xs

-- each row has an entry per direction
abbrev pub HaveLength : ℕ → List (List ℚ) → Type 0
HaveLength k rows = Each (λ e. length e ≡ k) rows

-- the same as a relation
pub data ArePivots : ℕ → List (List ℚ) → List ℕ → Type 0 where
  done : (rows : List (List ℚ)) → ArePivots zero rows []
  passed : (k : ℕ) (e : List ℚ) (es : List (List ℚ)) (g : ℕ) (gs : List ℕ) → AreZero e → ArePivots (suc k) es (g ∷ gs) → ArePivots (suc k) (e ∷ es) (suc g ∷ gs)
  found : (k : ℕ) (e : List ℚ) (es : List (List ℚ)) (j : ℕ) (gs : List ℕ) → leading e ≡ Some j → ArePivots k (map (reduced e j) es) gs → ArePivots (suc k) (e ∷ es) (zero ∷ gs)

-- ---- the tests
is_zero_num-true : (z : ℤ) → is_zero_num z ≡ true → z ≡ pos 0
is_zero_num-true (pos zero) e = refl
is_zero_num-true (pos (suc n)) e = absurd (cc e)
is_zero_num-true (negsuc n) e = absurd (cc e)

pub is_zero-true : (q : ℚ) → is_zero q ≡ true → q ≡ zero_ℚ
is_zero-true q e = zero_num q (is_zero_num-true q.num e)

pub is_zero-false : (q : ℚ) → is_zero q ≡ false → q ≢ zero_ℚ
is_zero-false q e h = let t : is_zero q ≡ true = ap is_zero h in absurd (cc (e, t))

pub option_map-none : {X Y : Type 0} (f : X → Y) (o : Option X) → option_map f o ≡ None → o ≡ None
option_map-none f None e = refl
option_map-none f (Some x) e = absurd (cc e)

pub option_map-some : {X Y : Type 0} (f : X → Y) (o : Option X) (y : Y) → option_map f o ≡ Some y → (x : X) × (o ≡ Some x) × (f x ≡ y)
option_map-some f None y e = absurd (cc e)
option_map-some f (Some x) y e = let h : f x ≡ y = cc e in (x, refl, h)

pub leading-none : (e : List ℚ) → leading e ≡ None → AreZero e
leading-none [] h = tt
leading-none (q ∷ qs) h = by_test (is_zero q) refl h (leading-none qs)
  where
    by_test : (b : Bool) → is_zero q ≡ b → leading_or b (leading qs) ≡ None → (leading qs ≡ None → AreZero qs) → (q ≡ zero_ℚ) × AreZero qs
    by_test true e n ih = (is_zero-true q e, ih (option_map-none suc (leading qs) n))
    by_test false e n ih = absurd (cc n)

pub leading-some : (e : List ℚ) (j : ℕ) → leading e ≡ Some j → (j < length e) × (entry j e ≢ zero_ℚ)
leading-some [] j h = absurd (cc h)
leading-some (q ∷ qs) j h = by_test (is_zero q) refl h (leading-some qs)
  where
    Leads : ℕ → Type 0
    Leads i = (i < length (q ∷ qs)) × (entry i (q ∷ qs) ≢ zero_ℚ)

    by_test : (b : Bool) → is_zero q ≡ b → leading_or b (leading qs) ≡ Some j → ((i : ℕ) → leading qs ≡ Some i → (i < length qs) × (entry i qs ≢ zero_ℚ)) → (j < length (q ∷ qs)) × (entry j (q ∷ qs) ≢ zero_ℚ)
    by_test true e s ih =
        let m = option_map-some suc (leading qs) j s in
        let k = ih m.0 m.1 in
        subst (λ i. (i < length (q ∷ qs)) × (entry i (q ∷ qs) ≢ zero_ℚ)) m.2 (omega (arith, k.0), k.1)
    by_test false e s ih =
        let z : zero ≡ j = cc s in
        subst (λ i. (i < length (q ∷ qs)) × (entry i (q ∷ qs) ≢ zero_ℚ)) z (omega arith, is_zero-false q e)

-- what is found are pivots
later_are : (k : ℕ) (e : List ℚ) (es : List (List ℚ)) (gs : List ℕ) → AreZero e → ArePivots (suc k) es gs → ArePivots (suc k) (e ∷ es) (one_later gs)
later_are k e es gs z (passed n f fs g hs y p) = passed k e (f ∷ fs) (suc g) hs z (passed n f fs g hs y p)
later_are k e es gs z (found n f fs j hs s p) = passed k e (f ∷ fs) zero hs z (found n f fs j hs s p)

first_pivot-are : (k : ℕ) → ((rows : List (List ℚ)) (gs : List ℕ) → pivots k rows ≡ Some gs → ArePivots k rows gs) → (rows : List (List ℚ)) (gs : List ℕ) → first_pivot (pivots k) rows ≡ Some gs → ArePivots (suc k) rows gs
first_pivot-are k ih [] gs h = absurd (cc h)
first_pivot-are k ih (e ∷ es) gs h = by_leading (leading e) refl h (first_pivot-are k ih es)
  where
    by_leading : (o : Option ℕ) → leading e ≡ o → pivot_or_later (pivots k) e es (first_pivot (pivots k) es) o ≡ Some gs → ((hs : List ℕ) → first_pivot (pivots k) es ≡ Some hs → ArePivots (suc k) es hs) → ArePivots (suc k) (e ∷ es) gs
    by_leading None n s rest =
        let m = option_map-some one_later (first_pivot (pivots k) es) gs s in
        subst (λ hs. ArePivots (suc k) (e ∷ es) hs) m.2 (later_are k e es m.0 (leading-none e n) (rest m.0 m.1))
    by_leading (Some j) n s rest =
        let m = option_map-some (λ hs. zero ∷ hs) (pivots k (map (reduced e j) es)) gs s in
        subst (λ hs. ArePivots (suc k) (e ∷ es) hs) m.2 (found k e es j m.0 n (ih (map (reduced e j) es) m.0 m.1))

pub pivots-are : (k : ℕ) (rows : List (List ℚ)) (gs : List ℕ) → pivots k rows ≡ Some gs → ArePivots k rows gs
pivots-are zero rows gs h = let e : [] ≡ gs = cc h in subst (λ hs. ArePivots zero rows hs) e (done rows)
pivots-are (suc k) rows gs h = first_pivot-are k (pivots-are k) rows gs h

-- ---- lengths
pub length-of_reduced : (k : ℕ) (e f : List ℚ) (j : ℕ) → j < length e → length e ≡ suc k → length f ≡ suc k → length (reduced e j f) ≡ k
length-of_reduced k e f j l p q = length-reduced (entry j e) (entry j f) j k f e q p (omega arith)

pub lengths-reduced : (k : ℕ) (e : List ℚ) (j : ℕ) (es : List (List ℚ)) → j < length e → length e ≡ suc k → HaveLength (suc k) es → HaveLength k (map (reduced e j) es)
lengths-reduced k e j es l p h = Each-map (λ f. length f ≡ k) (reduced e j) es (Each-implies (λ f. length f ≡ suc k) (λ f. length (reduced e j f) ≡ k) es (λ f q. length-of_reduced k e f j l p q) h)

pub without-inserted : {X : Type 0} (j : ℕ) (y : X) (xs : List X) → j ≤ length xs → without j (inserted j y xs) ≡ xs
without-inserted zero y xs l = refl
without-inserted (suc j) y [] l = absurd (omega arith)
without-inserted (suc j) y (x ∷ xs) l = ap (λ zs. x ∷ zs) (without-inserted j y xs (omega arith))

pub select-map : {X Y : Type 0} (f : X → Y) (gs : List ℕ) (xs : List X) → select gs (map f xs) ≡ map f (select gs xs)
select-map f [] xs = refl
select-map f (g ∷ gs) [] = refl
select-map f (zero ∷ gs) (x ∷ xs) = ap (λ zs. f x ∷ zs) (select-map f gs xs)
select-map f (suc g ∷ gs) (x ∷ xs) = select-map f (g ∷ gs) xs

module _ (A : Algebra) where
  open A.ring.semiring use {carrier, zero as none, add as ◌⊞◌, mul as ◌⊠◌}

  infixl 6 ◌⊞◌
  infixl 7 ◌⊠◌
  -- the values add up to 0 at each row
  abbrev pub Vanish : List (List ℚ) → List carrier → Type 0
  Vanish rows ds = Each (λ e. combine A e ds ≡ none) rows

  difference-zero : (x y : carrier) → x ⊞ A.ring.neg y ≡ none → x ≡ y
  difference-zero x y h =
      identity A.ring (x ∷ y ∷ []) (var 0) ((var 0 ⊕ opposite (var 1)) ⊕ var 1) refl ∙ ap (λ z. z ⊞ y) h ∙ zero_add A.ring.semiring y

  -- a reduced row gives p times the row's sum minus a times the pivot's
  pub combine-reduced : (e : List ℚ) (j : ℕ) (f : List ℚ) (xs : List carrier) → j < length e → j < length f → combine A (reduced e j f) (without j xs) ≡ (A.constant (entry j e) ⊠ combine A f xs) ⊞ A.ring.neg (A.constant (entry j f) ⊠ combine A e xs)
  combine-reduced e j f xs l m =
      let p = entry j e in
      let a = entry j f in
      let row = mixed p a f e in
      let gone : entry j row ≡ zero_ℚ =
      entry-mixed p a j f e m l ∙ ap (λ z. z -ℚ a *ℚ p) (*ℚ_comm p a) ∙ +ℚ-neg (a *ℚ p) in
      sym (zero_add A.ring.semiring (combine A (reduced e j f) (without j xs)))
      ∙ ap (λ z. z ⊞ combine A (reduced e j f) (without j xs)) (sym (ap (λ z. A.constant z ⊠ value_at A j xs) gone ∙ ap (λ z. z ⊠ value_at A j xs) (constant_zero A) ∙ zero_mul A.ring.semiring (value_at A j xs)))
      ∙ sym (combine-split A j row xs) ∙ combine-mixed A p a f e xs

  -- an elimination step keeps the values that solve the rows
  pub reduced-forth : (e : List ℚ) (j : ℕ) (f : List ℚ) (xs : List carrier) (v w : carrier) → j < length e → j < length f → combine A e xs ≡ v → combine A f xs ≡ w
      → combine A (reduced e j f) (without j xs) ≡ (A.constant (entry j e) ⊠ w) ⊞ A.ring.neg (A.constant (entry j f) ⊠ v)
  reduced-forth e j f xs v w l m h k =
      combine-reduced e j f xs l m ∙ ap₂ (λ x y. (A.constant (entry j e) ⊠ x) ⊞ A.ring.neg (A.constant (entry j f) ⊠ y)) k h

  pub reduced-back : (e : List ℚ) (j : ℕ) (f : List ℚ) (xs : List carrier) (v w : carrier) → j < length e → j < length f → entry j e ≢ zero_ℚ → combine A e xs ≡ v
      → combine A (reduced e j f) (without j xs) ≡ (A.constant (entry j e) ⊠ w) ⊞ A.ring.neg (A.constant (entry j f) ⊠ v) → combine A f xs ≡ w
  reduced-back e j f xs v w l m n h k =
      let p = A.constant (entry j e) in
      let a = A.constant (entry j f) in
      let same : (p ⊠ combine A f xs) ⊞ A.ring.neg (a ⊠ v) ≡ (p ⊠ w) ⊞ A.ring.neg (a ⊠ v) =
      ap (λ y. (p ⊠ combine A f xs) ⊞ A.ring.neg (a ⊠ y)) (sym h) ∙ sym (combine-reduced e j f xs l m) ∙ k in
      cancel_constant A (entry j e) (combine A f xs) w n
      (identity A.ring (p ∷ combine A f xs ∷ a ∷ v ∷ []) (var 0 ⊗ var 1) ((var 0 ⊗ var 1 ⊕ opposite (var 2 ⊗ var 3)) ⊕ var 2 ⊗ var 3) refl
      ∙ ap (λ z. z ⊞ (a ⊠ v)) same
      ∙ identity A.ring (p ∷ w ∷ a ∷ v ∷ []) ((var 0 ⊗ var 1 ⊕ opposite (var 2 ⊗ var 3)) ⊕ var 2 ⊗ var 3) (var 0 ⊗ var 1) refl)

  pub zero-step : (p a : carrier) → none ≡ (p ⊠ none) ⊞ A.ring.neg (a ⊠ none)
  zero-step p a = identity A.ring (p ∷ a ∷ []) nought (var 0 ⊗ nought ⊕ opposite (var 1 ⊗ nought)) refl

  -- the same for sums of 0
  pub vanish-forth : (e : List ℚ) (j k : ℕ) (rows : List (List ℚ)) (ds : List carrier) → j < length e → length e ≡ suc k → HaveLength (suc k) rows → combine A e ds ≡ none → Vanish rows ds → Vanish (map (reduced e j) rows) (without j ds)
  vanish-forth e j k [] ds l p h z v = tt
  vanish-forth e j k (f ∷ rows) ds l p h z v = (
    reduced-forth e j f ds none none l (omega (arith, h.0)) z v.0 ∙ sym (zero-step (A.constant (entry j e)) (A.constant (entry j f))),
    vanish-forth e j k rows ds l p h.1 z v.1,
  )

  pub none-from_parts : (j : ℕ) (xs : List carrier) → value_at A j xs ≡ none → AreNone A (without j xs) → AreNone A xs
  none-from_parts j [] h k = tt
  none-from_parts zero (x ∷ xs) h k = (h, k)
  none-from_parts (suc j) (x ∷ xs) h k = (k.0, none-from_parts j xs h k.1)

  -- with pivots for all directions, only zeros add up to 0 at all rows
  pub independent : {k : ℕ} {rows : List (List ℚ)} {gs : List ℕ} → ArePivots k rows gs → HaveLength k rows → (ds : List carrier) → length ds ≡ k → Vanish rows ds → AreNone A ds
  independent (done rows) h [] l v = tt
  independent (done rows) h (x ∷ xs) l v = absurd (omega arith)
  independent (passed k e es g gs z p) h ds l v = independent p h.1 ds l v.1
  independent (found k e es j gs s p) h ds l v =
      let lead = leading-some e j s in
      let rest : AreNone A (without j ds) =
      independent p (lengths-reduced k e j es lead.0 h.0 h.1) (without j ds) (length-without j k ds (omega (arith, lead.0, h.0)) l) (vanish-forth e j k es ds lead.0 h.0 h.1 v.0 v.1) in
      none-from_parts j ds
      (zero-constant A (entry j e) (value_at A j ds) lead.1
      (sym (A.ring.semiring.add_zero (A.constant (entry j e) ⊠ value_at A j ds))
      ∙ ap (λ z. (A.constant (entry j e) ⊠ value_at A j ds) ⊞ z) (sym (combine-nones A (without j e) (without j ds) rest))
      ∙ sym (combine-split A j e ds) ∙ v.0)) rest

  -- ---- back from the reduced rows, with the pivot's own value put in
  abbrev pub extended : List ℚ → ℕ → carrier → carrier → List carrier → List carrier
  extended e j t v ns = inserted j ((t ⊠ v) ⊞ A.ring.neg (combine A (without j e) ns)) (scaled A (entry j e) ns)

  pub length-scaled : (p : ℚ) (xs : List carrier) → length (scaled A p xs) ≡ length xs
  length-scaled p [] = refl
  length-scaled p (x ∷ xs) = ap suc (length-scaled p xs)

  pub extended-pivot : (e : List ℚ) (j : ℕ) (t v : carrier) (ns : List carrier) → j ≤ length ns → combine A e (extended e j t v ns) ≡ (A.constant (entry j e) ⊠ t) ⊠ v
  extended-pivot e j t v ns l =
      let p = A.constant (entry j e) in
      let s = combine A (without j e) ns in
      combine-inserted A j ((t ⊠ v) ⊞ A.ring.neg s) e (scaled A (entry j e) ns) (omega (arith, length-scaled (entry j e) ns))
      ∙ ap (λ z. (p ⊠ ((t ⊠ v) ⊞ A.ring.neg s)) ⊞ z) (combine-scaled A (entry j e) (without j e) ns)
      ∙ identity A.ring (p ∷ t ∷ v ∷ s ∷ []) (var 0 ⊗ (var 1 ⊗ var 2 ⊕ opposite (var 3)) ⊕ var 0 ⊗ var 3) ((var 0 ⊗ var 1) ⊗ var 2) refl

  pub extended-row : (e : List ℚ) (j : ℕ) (f : List ℚ) (t v w : carrier) (ns : List carrier) → j ≤ length ns → j < length e → j < length f → entry j e ≢ zero_ℚ
      → combine A (reduced e j f) ns ≡ t ⊠ ((A.constant (entry j e) ⊠ w) ⊞ A.ring.neg (A.constant (entry j f) ⊠ v))
      → combine A f (extended e j t v ns) ≡ (A.constant (entry j e) ⊠ t) ⊠ w
  extended-row e j f t v w ns i l m n h =
      let p = A.constant (entry j e) in
      let a = A.constant (entry j f) in
      let y = (t ⊠ v) ⊞ A.ring.neg (combine A (without j e) ns) in
      reduced-back e j f (extended e j t v ns) ((p ⊠ t) ⊠ v) ((p ⊠ t) ⊠ w) l m n (extended-pivot e j t v ns i)
      (ap (combine A (reduced e j f)) (without-inserted j y (scaled A (entry j e) ns) (omega (arith, length-scaled (entry j e) ns)))
      ∙ combine-scaled A (entry j e) (reduced e j f) ns ∙ ap (λ z. p ⊠ z) h
      ∙ identity A.ring (p ∷ a ∷ t ∷ v ∷ w ∷ []) (var 0 ⊗ (var 2 ⊗ (var 0 ⊗ var 4 ⊕ opposite (var 1 ⊗ var 3))))
      (var 0 ⊗ ((var 0 ⊗ var 2) ⊗ var 4) ⊕ opposite (var 1 ⊗ ((var 0 ⊗ var 2) ⊗ var 3))) refl)

-- the first row with an entry other than 0 stands at i, and that entry at j
abbrev pub IsFirstRow : List (List ℚ) → ℕ → ℕ → Type 0
IsFirstRow [] i j = ⊥
IsFirstRow (e ∷ es) zero j = leading e ≡ Some j
IsFirstRow (e ∷ es) (suc i) j = (leading e ≡ None) × IsFirstRow es i j

-- the rows that are passed over leave room for each pivot among n rows
abbrev pub GapsFit : List ℕ → ℕ → Type 0
GapsFit [] n = ⊤
GapsFit (g ∷ gs) n = (g < n) × GapsFit gs (n - suc g)
