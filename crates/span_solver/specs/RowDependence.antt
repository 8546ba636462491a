-- Dependent directions, and that the elimination finds them.
use Rattle.std.proofs.Common.{◌≡◌, ℕ, zero, suc, ◌<◌, ◌≤◌, refl, sym, ◌∙◌, ap, ap₂, arith, List, [], ◌∷◌, ◌++◌, length, take, Option, None, Some}
use Rattle.std.specs.Prelude.{◌≢◌, map}
use Rattle.exact_algebra.specs.Solver.{identity}
use Rattle.exact_algebra.specs.Solver.Term.{var, nought, single, ◌⊕◌, ◌⊗◌, opposite}
use Rattle.frac128.specs.Rational.{ℚ, zero_ℚ, one_ℚ, ◌+ℚ◌, ◌*ℚ◌, neg_ℚ, reciprocal}
use Rattle.frac128.specs.RationalLaws.{ring_ℚ, *ℚ-reciprocal}
use Rattle.span_solver.specs.Algebra.{rationals, zero-constant}
use Rattle.span_solver.specs.Combine.{Each, entry, AreZero, length-inserted, Each-inserted, combine, scaled, combine-zeros, combine-scaled, combine-none_right}
use Rattle.span_solver.specs.Elimination.{leading, leading-none, leading-some, reduced, pivots, first_pivot, pivot_or_later, one_later, HaveLength, pivots-are, option_map-none, lengths-reduced, Vanish, independent, extended, extended-pivot, extended-row, length-scaled}

-- fractions, not all 0, with which the directions add up to 0 at every row
pub record HasRelation (k : ℕ) (rows : List (List ℚ)) : Type 0 where
  pub factors : List ℚ
  pub many : length factors ≡ k
  pub vanish : Vanish rationals rows factors
  pub some : ¬ AreZero factors

-- the direction at a place is, at every row, a combination of the earlier ones with fractions
pub record IsDependent (rows : List (List ℚ)) (place : ℕ) : Type 0 where
  pub factors : List ℚ
  pub many : length factors ≡ place
  pub adds : Each (λ e. combine rationals e factors ≡ entry place e) rows

-- the first such direction
abbrev pub IsFirstDependent : List (List ℚ) → ℕ → Type 0
IsFirstDependent rows place = IsDependent rows place × ((p : ℕ) → p < place → ¬ IsDependent rows p)

-- no direction of the first k is dependent
abbrev pub AreIndependent : ℕ → List (List ℚ) → Type 0
AreIndependent k rows = (p : ℕ) → p < k → ¬ IsDependent rows p

-- the rows of the first n directions
abbrev pub firsts : ℕ → List (List ℚ) → List (List ℚ)
firsts n rows = map (take n) rows

abbrev zeros : ℕ → List ℚ
zeros zero = []
zeros (suc n) = zero_ℚ ∷ zeros n

length-zeros : (n : ℕ) → length (zeros n) ≡ n
length-zeros zero = refl
length-zeros (suc n) = ap suc (length-zeros n)

one-zero : one_ℚ ≡ zero_ℚ → ⊥
one-zero e = let h = ap (λ (q : ℚ). q.num) e in cc h

zero-scaled : (p : ℚ) (xs : List ℚ) → p ≢ zero_ℚ → AreZero (scaled rationals p xs) → AreZero xs
zero-scaled p [] n h = tt
zero-scaled p (x ∷ xs) n h = (zero-constant rationals p x n h.0, zero-scaled p xs n h.1)

-- a relation of the reduced rows gives one of the rows
vanish-back : (e : List ℚ) (j k : ℕ) (rows : List (List ℚ)) (ds : List ℚ) → j < length e → length e ≡ suc k → HaveLength (suc k) rows → entry j e ≢ zero_ℚ → length ds ≡ k → Vanish rationals (map (reduced e j) rows) ds → Vanish rationals rows (extended rationals e j one_ℚ zero_ℚ ds)
vanish-back e j k [] ds l p h n m v = tt
vanish-back e j k (f ∷ rows) ds l p h n m v = (
  extended-row rationals e j f one_ℚ zero_ℚ zero_ℚ ds (omega arith) l (omega (arith, h.0)) n
      (v.0 ∙ identity ring_ℚ (entry j e ∷ entry j f ∷ []) nought (single ⊗ (var 0 ⊗ nought ⊕ opposite (var 1 ⊗ nought))) refl)
      ∙ identity ring_ℚ (entry j e ∷ []) ((var 0 ⊗ single) ⊗ nought) nought refl,
  vanish-back e j k rows ds l p h.1 n m v.1,
)

extended-relation : (k : ℕ) (e : List ℚ) (j : ℕ) (es : List (List ℚ)) → leading e ≡ Some j → length e ≡ suc k → HaveLength (suc k) es → HasRelation k (map (reduced e j) es) → HasRelation (suc k) (e ∷ es)
extended-relation k e j es s p h r =
    let lead = leading-some e j s in
    let l : j ≤ length r.factors = omega (arith, lead.0, r.many) in
    record {
      factors = extended rationals e j one_ℚ zero_ℚ r.factors;
      many = length-inserted j _ (scaled rationals (entry j e) r.factors) ∙ ap suc (length-scaled rationals (entry j e) r.factors ∙ r.many);
      vanish = (
        extended-pivot rationals e j one_ℚ zero_ℚ r.factors l ∙ identity ring_ℚ (entry j e ∷ []) ((var 0 ⊗ single) ⊗ nought) nought refl,
        vanish-back e j k es r.factors lead.0 p h lead.1 r.many r.vanish,
      );
      some = λ z. r.some (zero-scaled (entry j e) r.factors lead.1 (Each-inserted (λ x. x ≡ zero_ℚ) j _ (scaled rationals (entry j e) r.factors) z).1);
    }

first_pivot-none : (k : ℕ) → ((rows : List (List ℚ)) → HaveLength k rows → pivots k rows ≡ None → HasRelation k rows) → (rows : List (List ℚ)) → HaveLength (suc k) rows → first_pivot (pivots k) rows ≡ None → HasRelation (suc k) rows
first_pivot-none k ih [] h n = record {
  factors = one_ℚ ∷ zeros k;
  many = ap suc (length-zeros k);
  vanish = tt;
  some = λ z. one-zero z.0;
}
first_pivot-none k ih (e ∷ es) h n = by_leading (leading e) refl n (first_pivot-none k ih es h.1)
  where
    by_leading : (o : Option ℕ) → leading e ≡ o → pivot_or_later (pivots k) e es (first_pivot (pivots k) es) o ≡ None → (first_pivot (pivots k) es ≡ None → HasRelation (suc k) es) → HasRelation (suc k) (e ∷ es)
    by_leading None s m rest =
        let r = rest (option_map-none one_later (first_pivot (pivots k) es) m) in
        record { factors = r.factors; many = r.many; vanish = (combine-zeros rationals e r.factors (leading-none e s), r.vanish); some = r.some }
    by_leading (Some j) s m rest =
        extended-relation k e j es s h.0 h.1
        (ih (map (reduced e j) es) (lengths-reduced k e j es (leading-some e j s).0 h.0 h.1) (option_map-none (λ gs. zero ∷ gs) (pivots k (map (reduced e j) es)) m))

-- with no pivots for all directions there is a relation
pub related : (k : ℕ) (rows : List (List ℚ)) → HaveLength k rows → pivots k rows ≡ None → HasRelation k rows
related zero rows h n = absurd (cc n)
related (suc k) rows h n = first_pivot-none k (related k) rows h n

-- ---- the first n directions
pub length-take_few : (n k : ℕ) (e : List ℚ) → n ≤ k → length e ≡ k → length (take n e) ≡ n
length-take_few zero k e l p = refl
length-take_few (suc n) k [] l p = absurd (omega arith)
length-take_few (suc n) zero (x ∷ e) l p = absurd (omega arith)
length-take_few (suc n) (suc k) (x ∷ e) l p = ap suc (length-take_few n k e (omega arith) (omega arith))

pub lengths-firsts : (n k : ℕ) (rows : List (List ℚ)) → n ≤ k → HaveLength k rows → HaveLength n (firsts n rows)
lengths-firsts n k [] l h = tt
lengths-firsts n k (e ∷ rows) l h = (length-take_few n k e l h.0, lengths-firsts n k rows l h.1)

combine-take : (n : ℕ) (qs ds : List ℚ) → length ds ≤ n → combine rationals (take n qs) ds ≡ combine rationals qs ds
combine-take zero [] ds l = refl
combine-take zero (q ∷ qs) [] l = refl
combine-take zero (q ∷ qs) (d ∷ ds) l = absurd (omega arith)
combine-take (suc n) [] ds l = refl
combine-take (suc n) (q ∷ qs) [] l = refl
combine-take (suc n) (q ∷ qs) (d ∷ ds) l = ap (λ z. q *ℚ d +ℚ z) (combine-take n qs ds (omega arith))

vanish-firsts : (n : ℕ) (rows : List (List ℚ)) (ds : List ℚ) → length ds ≤ n → Vanish rationals rows ds → Vanish rationals (firsts n rows) ds
vanish-firsts n [] ds l v = tt
vanish-firsts n (e ∷ rows) ds l v = (combine-take n e ds l ∙ v.0, vanish-firsts n rows ds l v.1)

vanish-of_firsts : (n : ℕ) (rows : List (List ℚ)) (ds : List ℚ) → length ds ≤ n → Vanish rationals (firsts n rows) ds → Vanish rationals rows ds
vanish-of_firsts n [] ds l v = tt
vanish-of_firsts n (e ∷ rows) ds l v = (sym (combine-take n e ds l) ∙ v.0, vanish-of_firsts n rows ds l v.1)

-- the last of the factors apart
combine-last : (n : ℕ) (qs ds : List ℚ) → length ds ≡ suc n → combine rationals qs ds ≡ combine rationals qs (take n ds) +ℚ entry n qs *ℚ entry n ds
combine-last n qs [] l = absurd (omega arith)
combine-last n [] (d ∷ ds) l = identity ring_ℚ (entry n (d ∷ ds) ∷ []) nought (nought ⊕ nought ⊗ var 0) refl
combine-last zero (q ∷ qs) (d ∷ []) l = ap (λ z. q *ℚ d +ℚ z) (combine-none_right rationals qs) ∙ identity ring_ℚ (q ∷ d ∷ []) (var 0 ⊗ var 1 ⊕ nought) (nought ⊕ var 0 ⊗ var 1) refl
combine-last zero (q ∷ qs) (d ∷ c ∷ ds) l = absurd (omega arith)
combine-last (suc n) (q ∷ qs) (d ∷ ds) l =
    ap (λ z. q *ℚ d +ℚ z) (combine-last n qs ds (omega arith))
    ∙ identity ring_ℚ (q ∷ d ∷ combine rationals qs (take n ds) ∷ entry n qs ∷ entry n ds ∷ []) (var 0 ⊗ var 1 ⊕ (var 2 ⊕ var 3 ⊗ var 4)) ((var 0 ⊗ var 1 ⊕ var 2) ⊕ var 3 ⊗ var 4) refl

pub combine-appended : (n : ℕ) (qs ds : List ℚ) (y : ℚ) → length ds ≡ n → combine rationals qs (ds ++ y ∷ []) ≡ combine rationals qs ds +ℚ entry n qs *ℚ y
combine-appended n [] ds y l = identity ring_ℚ (y ∷ []) nought (nought ⊕ nought ⊗ var 0) refl
combine-appended zero (q ∷ qs) [] y l = ap (λ z. q *ℚ y +ℚ z) (combine-none_right rationals qs) ∙ identity ring_ℚ (q ∷ y ∷ []) (var 0 ⊗ var 1 ⊕ nought) (nought ⊕ var 0 ⊗ var 1) refl
combine-appended zero (q ∷ qs) (d ∷ ds) y l = absurd (omega arith)
combine-appended (suc n) (q ∷ qs) [] y l = absurd (omega arith)
combine-appended (suc n) (q ∷ qs) (d ∷ ds) y l =
    ap (λ z. q *ℚ d +ℚ z) (combine-appended n qs ds y (omega arith))
    ∙ identity ring_ℚ (q ∷ d ∷ combine rationals qs ds ∷ entry n qs ∷ y ∷ []) (var 0 ⊗ var 1 ⊕ (var 2 ⊕ var 3 ⊗ var 4)) ((var 0 ⊗ var 1 ⊕ var 2) ⊕ var 3 ⊗ var 4) refl

zeros-from_last : (n : ℕ) (ds : List ℚ) → length ds ≡ suc n → AreZero (take n ds) → entry n ds ≡ zero_ℚ → AreZero ds
zeros-from_last n [] l h e = tt
zeros-from_last zero (d ∷ []) l h e = (e, tt)
zeros-from_last zero (d ∷ c ∷ ds) l h e = absurd (omega arith)
zeros-from_last (suc n) (d ∷ ds) l h e = (h.0, zeros-from_last n ds (omega arith) h.1 e)

last-zero : (ds : List ℚ) (y : ℚ) → AreZero (ds ++ y ∷ []) → y ≡ zero_ℚ
last-zero [] y h = h.0
last-zero (d ∷ ds) y h = last-zero ds y h.1

solved_last : (x c l : ℚ) → l ≢ zero_ℚ → x +ℚ c *ℚ l ≡ zero_ℚ → neg_ℚ (reciprocal l) *ℚ x ≡ c
solved_last x c l n h =
    identity ring_ℚ (x ∷ c ∷ l ∷ reciprocal l ∷ []) (opposite (var 3) ⊗ var 0) (opposite (var 3) ⊗ (var 0 ⊕ var 1 ⊗ var 2) ⊕ var 1 ⊗ (var 2 ⊗ var 3)) refl
    ∙ ap (λ z. neg_ℚ (reciprocal l) *ℚ z +ℚ c *ℚ (l *ℚ reciprocal l)) h ∙ ap (λ z. neg_ℚ (reciprocal l) *ℚ zero_ℚ +ℚ c *ℚ z) (*ℚ-reciprocal l n)
    ∙ identity ring_ℚ (c ∷ reciprocal l ∷ []) (opposite (var 1) ⊗ nought ⊕ var 0 ⊗ single) (var 0) refl

adds-last : (n : ℕ) (rows : List (List ℚ)) (ds : List ℚ) → length ds ≡ suc n → entry n ds ≢ zero_ℚ → Vanish rationals rows ds → Each (λ e. combine rationals e (scaled rationals (neg_ℚ (reciprocal (entry n ds))) (take n ds)) ≡ entry n e) rows
adds-last n [] ds l m v = tt
adds-last n (e ∷ rows) ds l m v = (
  combine-scaled rationals (neg_ℚ (reciprocal (entry n ds))) e (take n ds) ∙ solved_last (combine rationals e (take n ds)) (entry n e) (entry n ds) m (sym (combine-last n e ds l) ∙ v.0),
  adds-last n rows ds l m v.1,
)

vanish-take : (n : ℕ) (rows : List (List ℚ)) (ds : List ℚ) → length ds ≡ suc n → entry n ds ≡ zero_ℚ → Vanish rationals rows ds → Vanish rationals rows (take n ds)
vanish-take n [] ds l z v = tt
vanish-take n (e ∷ rows) ds l z v = (
  identity ring_ℚ (combine rationals e (take n ds) ∷ entry n e ∷ []) (var 0) (var 0 ⊕ var 1 ⊗ nought) refl ∙ ap (λ y. combine rationals e (take n ds) +ℚ entry n e *ℚ y) (sym z) ∙ sym (combine-last n e ds l) ∙ v.0,
  vanish-take n rows ds l z v.1,
)

-- a direction is dependent where the earlier ones have pivots and those with it have none
pub dependent_from_none : (n k : ℕ) (rows : List (List ℚ)) (gs : List ℕ) → HaveLength k rows → n < k → pivots n (firsts n rows) ≡ Some gs → pivots (suc n) (firsts (suc n) rows) ≡ None → IsDependent rows n
dependent_from_none n k rows gs h l s m =
    let r = related (suc n) (firsts (suc n) rows) (lengths-firsts (suc n) k rows (omega arith) h) m in
    let v = vanish-of_firsts (suc n) rows r.factors (omega (arith, r.many)) r.vanish in
    let few : length (take n r.factors) ≡ n = length-take_few n (suc n) r.factors (omega arith) r.many in
    let other : entry n r.factors ≢ zero_ℚ = λ z. r.some (zeros-from_last n r.factors r.many
    (independent rationals (pivots-are n (firsts n rows) gs s) (lengths-firsts n k rows (omega arith) h) (take n r.factors) few
    (vanish-firsts n rows (take n r.factors) (omega arith) (vanish-take n rows r.factors r.many z v))) z) in
    record {
      factors = scaled rationals (neg_ℚ (reciprocal (entry n r.factors))) (take n r.factors);
      many = length-scaled rationals (neg_ℚ (reciprocal (entry n r.factors))) (take n r.factors) ∙ few;
      adds = adds-last n rows r.factors r.many other v;
    }

length-appended : (ds : List ℚ) (y : ℚ) (n : ℕ) → length ds ≡ n → length (ds ++ y ∷ []) ≡ suc n
length-appended [] y n l = ap suc l
length-appended (d ∷ ds) y zero l = absurd (omega arith)
length-appended (d ∷ ds) y (suc n) l = ap suc (length-appended ds y n (omega arith))

vanish-appended : (n : ℕ) (rows : List (List ℚ)) (ds : List ℚ) → length ds ≡ n → Each (λ e. combine rationals e ds ≡ entry n e) rows → Vanish rationals rows (ds ++ neg_ℚ one_ℚ ∷ [])
vanish-appended n [] ds l a = tt
vanish-appended n (e ∷ rows) ds l a = (
  combine-appended n e ds (neg_ℚ one_ℚ) l ∙ ap (λ z. z +ℚ entry n e *ℚ neg_ℚ one_ℚ) a.0 ∙ identity ring_ℚ (entry n e ∷ []) (var 0 ⊕ var 0 ⊗ opposite single) nought refl,
  vanish-appended n rows ds l a.1,
)

-- it is not where those with it have pivots
pub independent_from_some : (n k : ℕ) (rows : List (List ℚ)) (gs : List ℕ) → HaveLength k rows → n < k → pivots (suc n) (firsts (suc n) rows) ≡ Some gs → ¬ IsDependent rows n
independent_from_some n k rows gs h l s d =
    let many : length (d.factors ++ neg_ℚ one_ℚ ∷ []) ≡ suc n = length-appended d.factors (neg_ℚ one_ℚ) n d.many in
    let z = independent rationals (pivots-are (suc n) (firsts (suc n) rows) gs s) (lengths-firsts (suc n) k rows (omega arith) h) (d.factors ++ neg_ℚ one_ℚ ∷ []) many
    (vanish-firsts (suc n) rows (d.factors ++ neg_ℚ one_ℚ ∷ []) (omega arith) (vanish-appended n rows d.factors d.many d.adds)) in
    one-zero (identity ring_ℚ [] single (opposite (opposite single)) refl ∙ ap neg_ℚ (last-zero d.factors (neg_ℚ one_ℚ) z) ∙ identity ring_ℚ [] (opposite nought) nought refl)

-- ---- pivots for all directions exist exactly where no direction is dependent
option_cases : (o : Option (List ℕ)) → (o ≡ None → ⊥) → (gs : List ℕ) × (o ≡ Some gs)
option_cases None h = absurd (h refl)
option_cases (Some gs) h = (gs, refl)

pivots-firsts : (n k : ℕ) (rows : List (List ℚ)) → HaveLength k rows → n ≤ k → AreIndependent k rows → (gs : List ℕ) × (pivots n (firsts n rows) ≡ Some gs)
pivots-firsts zero k rows h l i = ([], refl)
pivots-firsts (suc n) k rows h l i =
    let before = pivots-firsts n k rows h (omega arith) i in
    option_cases (pivots (suc n) (firsts (suc n) rows)) (λ m. i n (omega arith) (dependent_from_none n k rows before.0 h (omega arith) before.1 m))

take-whole : (k : ℕ) (e : List ℚ) → length e ≡ k → take k e ≡ e
take-whole zero [] l = refl
take-whole zero (x ∷ e) l = absurd (omega arith)
take-whole (suc k) [] l = refl
take-whole (suc k) (x ∷ e) l = ap (λ z. x ∷ z) (take-whole k e (omega arith))

pub firsts-whole : (k : ℕ) (rows : List (List ℚ)) → HaveLength k rows → firsts k rows ≡ rows
firsts-whole k [] h = refl
firsts-whole k (e ∷ rows) h = ap₂ ◌∷◌ (take-whole k e h.0) (firsts-whole k rows h.1)

pub pivots-exist : (k : ℕ) (rows : List (List ℚ)) → HaveLength k rows → AreIndependent k rows → (gs : List ℕ) × (pivots k rows ≡ Some gs)
pivots-exist k rows h i =
    let found = pivots-firsts k k rows h (omega arith) i in
    (found.0, ap (pivots k) (sym (firsts-whole k rows h)) ∙ found.1)
