-- Lemmas for the steps of the loops.
use Rattle.std.proofs.Common.{◌≡◌, ℕ, zero, suc, ◌+◌, ◌-◌, ◌<◌, refl, sym, ◌∙◌, ap, ap₂, subst, arith, List, [], ◌∷◌, length, take, drop, get_or, Option, None, Some, Bool, true, false, add-one}
use Rattle.std.specs.Prelude.{◌≢◌, map}
use Rattle.std.specs.Option.{option_map}
use Rattle.std.specs.List.{remove}
use Rattle.frac128.specs.Rational.{ℚ}
use Rattle.span_solver.specs.Combine.{Each, without, entry, mixed}
use Rattle.span_solver.specs.Elimination.{is_zero, leading, leading_or, leading-some, reduced, pivots, first_pivot, pivot_or_later, one_later, HaveLength, option_map-none, lengths-reduced, IsFirstRow}

-- ---- the first entry that is not 0
more_of : (x : ℚ) (xs : List ℚ) → is_zero x ≡ true → leading xs ≡ None → leading (x ∷ xs) ≡ None
more_of x xs e h = ap (λ b. leading_or b (leading xs)) e ∙ ap (option_map suc) h

leading_or-none : (b : Bool) (o : Option ℕ) → leading_or b o ≡ None → (b ≡ true) × (o ≡ None)
leading_or-none true o h = (refl, option_map-none suc o h)
leading_or-none false o h = absurd (cc h)

leading-suc : (xs : List ℚ) (i : ℕ) (x : ℚ) → i < length xs → x ≡ get_or xs i x → leading (take i xs) ≡ None → is_zero x ≡ true → leading (take (suc i) xs) ≡ None
leading-suc [] i x l e h z = absurd (omega arith)
leading-suc (y ∷ ys) zero x l e h z = more_of y [] (ap is_zero (sym e) ∙ z) refl
leading-suc (y ∷ ys) (suc i) x l e h z =
    let parts = leading_or-none (is_zero y) (leading (take i ys)) h in
    more_of y (take (suc i) ys) parts.0 (leading-suc ys i x (omega arith) e parts.1 z)

pub leading-more : (xs : List ℚ) (i : ℕ) (x : ℚ) → i < length xs → x ≡ get_or xs i x → leading (take i xs) ≡ None → is_zero x ≡ true → leading (take (i + 1) xs) ≡ None
leading-more xs i x l e h z = ap (λ n. leading (take n xs)) (add-one i) ∙ leading-suc xs i x l e h z

pub leading-at : (xs : List ℚ) (i : ℕ) (x : ℚ) → i < length xs → x ≡ get_or xs i x → leading (take i xs) ≡ None → is_zero x ≡ false → leading xs ≡ Some i
leading-at [] i x l e h z = absurd (omega arith)
leading-at (y ∷ ys) zero x l e h z = ap (λ b. leading_or b (leading ys)) (ap is_zero (sym e) ∙ z)
leading-at (y ∷ ys) (suc i) x l e h z =
    let parts = leading_or-none (is_zero y) (leading (take i ys)) h in
    ap (λ b. leading_or b (leading ys)) parts.0 ∙ ap (option_map suc) (leading-at ys i x (omega arith) e parts.1 z)

-- ---- one row
pub without-remove : {X : Type 0} (j : ℕ) (xs : List X) → without j xs ≡ remove xs j
without-remove zero [] = refl
without-remove (suc j) [] = refl
without-remove zero (x ∷ xs) = refl
without-remove (suc j) (x ∷ xs) = ap (λ ys. x ∷ ys) (without-remove j xs)

pub entry-at : (j : ℕ) (xs : List ℚ) (x : ℚ) → j < length xs → x ≡ get_or xs j x → entry j xs ≡ x
entry-at j [] x l e = absurd (omega arith)
entry-at zero (y ∷ xs) x l e = sym e
entry-at (suc j) (y ∷ xs) x l e = entry-at j xs x (omega arith) e

pub reduced-is : (pivot row items : List ℚ) (j : ℕ) (p a : ℚ) → j < length pivot → length row ≡ length pivot → p ≡ get_or pivot j p → a ≡ get_or row j a → items ≡ mixed p a row pivot → remove items j ≡ reduced pivot j row
reduced-is pivot row items j p a l m e f h =
    sym (without-remove j items) ∙ ap (without j) (h ∙ ap₂ (λ x y. mixed x y row pivot) (sym (entry-at j pivot p l e)) (sym (entry-at j row a (omega arith) f)))

-- ---- the first row
Passed : List ℚ → Type 0
Passed e = leading e ≡ None

pub passed-more : (rows : List (List ℚ)) (i : ℕ) (e : List ℚ) → i < length rows → e ≡ get_or rows i e → Each (λ f. leading f ≡ None) (take i rows) → leading e ≡ None → Each (λ f. leading f ≡ None) (take (i + 1) rows)
passed-more rows i e l h p n = subst (λ m. Each (λ f. leading f ≡ None) (take m rows)) (sym (add-one i)) (by_place rows i l h p)
  where
    by_place : (es : List (List ℚ)) (k : ℕ) → k < length es → e ≡ get_or es k e → Each (λ f. leading f ≡ None) (take k es) → Each (λ f. leading f ≡ None) (take (suc k) es)
    by_place [] k l h p = absurd (omega arith)
    by_place (f ∷ es) zero l h p = (ap leading (sym h) ∙ n, tt)
    by_place (f ∷ es) (suc k) l h p = (p.0, by_place es k (omega arith) h p.1)

pub first_row-at : (rows : List (List ℚ)) (i j : ℕ) (e : List ℚ) → i < length rows → e ≡ get_or rows i e → Each (λ f. leading f ≡ None) (take i rows) → leading e ≡ Some j → IsFirstRow rows i j
first_row-at [] i j e l h p s = absurd (omega arith)
first_row-at (f ∷ rows) zero j e l h p s = ap leading (sym h) ∙ s
first_row-at (f ∷ rows) (suc i) j e l h p s = (p.0, first_row-at rows i j e (omega arith) h p.1 s)

pub first_row-within : (rows : List (List ℚ)) (i j : ℕ) → IsFirstRow rows i j → i < length rows
first_row-within [] i j h = absurd h
first_row-within (e ∷ rows) zero j h = omega arith
first_row-within (e ∷ rows) (suc i) j h = let l = first_row-within rows i j h.1 in omega (arith, l)

pub first_row-leads : (rows : List (List ℚ)) (i j : ℕ) (e : List ℚ) → IsFirstRow rows i j → e ≡ get_or rows i e → leading e ≡ Some j
first_row-leads [] i j e h m = absurd h
first_row-leads (f ∷ rows) zero j e h m = ap leading m ∙ h
first_row-leads (f ∷ rows) (suc i) j e h m = first_row-leads rows i j e h.1 m

first_row-length : (rows : List (List ℚ)) (k i j : ℕ) (e : List ℚ) → IsFirstRow rows i j → HaveLength k rows → e ≡ get_or rows i e → length e ≡ k
first_row-length [] k i j e h p m = absurd h
first_row-length (f ∷ rows) k zero j e h p m = ap length m ∙ p.0
first_row-length (f ∷ rows) k (suc i) j e h p m = first_row-length rows k i j e h.1 p.1 m

pub Each-drop : {X : Type 0} (P : X → Type 0) (i : ℕ) (xs : List X) → Each P xs → Each P (drop i xs)
Each-drop P zero xs h = h
Each-drop P (suc i) [] h = tt
Each-drop P (suc i) (x ∷ xs) h = Each-drop P i xs h.1

-- the pivot row at i
pub record IsPivotRow (k : ℕ) (rows : List (List ℚ)) (i j : ℕ) (e : List ℚ) : Type 0 where
  pub leads : leading e ≡ Some j
  pub within : j < length e
  pub many : length e ≡ k
  pub later : HaveLength (length e) (drop (i + 1) rows)
  pub smaller : HaveLength (k - 1) (map (reduced e j) (drop (i + 1) rows))

pub pivot_row : (k : ℕ) (rows : List (List ℚ)) (i j : ℕ) (e : List ℚ) → HaveLength k rows → IsFirstRow rows i j → e ≡ get_or rows i e → IsPivotRow k rows i j e
pivot_row k rows i j e h f m =
    let s = first_row-leads rows i j e f m in
    let lead = leading-some e j s in
    let many : length e ≡ k = first_row-length rows k i j e f h m in
    let some : suc (k - 1) ≡ k = omega (arith, lead.0, many) in
    let later = Each-drop (λ x. length x ≡ k) (i + 1) rows h in
    record {
      leads = s;
      within = lead.0;
      many = many;
      later = subst (λ n. HaveLength n (drop (i + 1) rows)) (sym many) later;
      smaller = lengths-reduced (k - 1) e j (drop (i + 1) rows) lead.0 (many ∙ sym some) (subst (λ n. HaveLength n (drop (i + 1) rows)) (sym some) later);
    }

-- ---- the pivots
first_pivot-passed : (rest : List (List ℚ) → Option (List ℕ)) (rows : List (List ℚ)) → Each (λ f. leading f ≡ None) rows → first_pivot rest rows ≡ None
first_pivot-passed rest [] h = refl
first_pivot-passed rest (e ∷ rows) h =
    ap (pivot_or_later rest e rows (first_pivot rest rows)) h.0 ∙ ap (option_map one_later) (first_pivot-passed rest rows h.1)

pub pivots-passed : (k : ℕ) (rows : List (List ℚ)) → k ≢ 0 → Each (λ f. leading f ≡ None) rows → pivots k rows ≡ None
pivots-passed zero rows n h = absurd (n refl)
pivots-passed (suc k) rows n h = first_pivot-passed (pivots k) rows h

one_later-map : (i : ℕ) (o : Option (List ℕ)) → option_map one_later (option_map (λ gs. i ∷ gs) o) ≡ option_map (λ gs. suc i ∷ gs) o
one_later-map i None = refl
one_later-map i (Some gs) = refl

first_pivot-at : (rest : List (List ℚ) → Option (List ℕ)) (rows : List (List ℚ)) (i j : ℕ) (e : List ℚ) → IsFirstRow rows i j → e ≡ get_or rows i e → first_pivot rest rows ≡ option_map (λ gs. i ∷ gs) (rest (map (reduced e j) (drop (suc i) rows)))
first_pivot-at rest [] i j e h m = absurd h
first_pivot-at rest (f ∷ rows) zero j e h m =
    ap (pivot_or_later rest f rows (first_pivot rest rows)) h ∙ ap (λ g. option_map (λ gs. zero ∷ gs) (rest (map (reduced g j) rows))) (sym m)
first_pivot-at rest (f ∷ rows) (suc i) j e h m =
    ap (pivot_or_later rest f rows (first_pivot rest rows)) h.0 ∙ ap (option_map one_later) (first_pivot-at rest rows i j e h.1 m) ∙ one_later-map i (rest (map (reduced e j) (drop (suc i) rows)))

pub pivots-at : (k : ℕ) (rows : List (List ℚ)) (i j : ℕ) (e : List ℚ) → k ≢ 0 → IsFirstRow rows i j → e ≡ get_or rows i e → pivots k rows ≡ option_map (λ gs. i ∷ gs) (pivots (k - 1) (map (reduced e j) (drop (i + 1) rows)))
pivots-at zero rows i j e n h m = absurd (n refl)
pivots-at (suc k) rows i j e n h m =
    let less : suc k - 1 ≡ k = omega arith in
    first_pivot-at (pivots k) rows i j e h m ∙ ap₂ (λ q s. option_map (λ gs. i ∷ gs) (pivots q (map (reduced e j) (drop s rows)))) (sym less) (sym (add-one i))
