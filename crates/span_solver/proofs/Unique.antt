-- Coordinates along independent directions are unique.
use Rattle.std.specs.Prelude.{◌≡◌, ◌≢◌, ℕ, zero, suc, ◌<◌, ◌≤◌, Bool, true, false, List, [], ◌∷◌, ◌++◌, length, map, take, drop, slice_get, get_or, Some}
use Rattle.std.proofs.Common.{refl, sym, ap, ap₂, ◌∙◌, arith}
use Rattle.std.proofs.lemmas.Option.{slice_get-get_or}
use Rattle.std.proofs.lemmas.List.{length-map}
use Rattle.exact_algebra.specs.Canon.{coefficient-plus, same_coefficients}
use Rattle.exact_algebra.specs.Formal.{coefficient-eval, unit_at}
use Rattle.exact_algebra.specs.Maps.{value-mult_const}
use Rattle.exact_algebra.specs.Solver.{identity}
use Rattle.exact_algebra.specs.Solver.Term.{var, ◌⊕◌, ◌⊗◌, opposite}
use Rattle.frac128.specs.Rational.{ℚ, zero_ℚ, ◌+ℚ◌, ◌*ℚ◌, ◌-ℚ◌, neg_ℚ, reciprocal}
use Rattle.frac128.specs.RationalLaws.{ring_ℚ, same_from_difference, *ℚ-reciprocal, *ℚ-one}
use Rattle.beta_poly.specs.Monomial.{Monomial, monomials, monomial_keys}
use Rattle.beta_poly.specs.Polynomial.{Polynomial, zero_test, coefficient_of, scale_poly}
use Rattle.span_solver.specs.Algebra.{rationals}
use Rattle.span_solver.specs.Block.{numbers_at}
use Rattle.span_solver.specs.Combine.{entry, combine, scaled, difference, combine-scaled, combine-difference, length-difference}
use Rattle.span_solver.specs.Coordinate.{moved, AreCoordinates}
use Rattle.span_solver.specs.Dependence.{Numbers, combined, AreIndependent}
use Rattle.span_solver.specs.Elimination.{is_zero, is_zero-true, is_zero-false, length-scaled}
use Rattle.span_solver.specs.RowDependence.{combine-appended}
use Rattle.span_solver.proofs.Dependences.{combined-combine, combine-take, take-map, entry-of, length-take}
use Rattle.span_solver.proofs.Values.{no_coefficient}

-- ---- coefficients of a sum of directions
multiple_at : (c : ℚ) (p : Polynomial) (m : Monomial) → coefficient_of (scale_poly c p) m ≡ c *ℚ coefficient_of p m
multiple_at c p m =
    coefficient-eval monomial_keys ring_ℚ.semiring (scale_poly c p).0 m ∙ value-mult_const monomials ring_ℚ.semiring zero_test c p (unit_at monomial_keys ring_ℚ.semiring m)
    ∙ ap (λ y. c *ℚ y) (sym (coefficient-eval monomial_keys ring_ℚ.semiring p.0 m))

moved-at : (m : Monomial) (xs : List Polynomial) (ds : List Numbers) (key : List ℕ) → coefficient_of (moved xs ds key) m ≡ combine rationals (numbers_at ds key) (map (λ x. coefficient_of x m) xs)
moved-at m [] [] key = no_coefficient m
moved-at m [] (d ∷ ds) key = no_coefficient m
moved-at m (x ∷ xs) [] key = no_coefficient m
moved-at m (x ∷ xs) (d ∷ ds) key =
    coefficient-plus monomial_keys ring_ℚ.semiring zero_test (scale_poly (d key) x) (moved xs ds key) m ∙ ap₂ ◌+ℚ◌ (multiple_at (d key) x m) (moved-at m xs ds key)

-- ---- the last of a list
record IsSnoc (n : ℕ) (xs : List ℚ) : Type 0 where
  front : List ℚ
  last : ℚ
  whole : xs ≡ front ++ last ∷ []
  many : length front ≡ n

snoc : (n : ℕ) (xs : List ℚ) → length xs ≡ suc n → IsSnoc n xs
snoc n [] l = absurd (omega arith)
snoc zero (x ∷ []) l = record { front = []; last = x; whole = refl; many = refl }
snoc zero (x ∷ y ∷ xs) l = absurd (omega arith)
snoc (suc n) (x ∷ xs) l =
    let s = snoc n xs (omega arith) in record {
      front = x ∷ s.front;
      last = s.last;
      whole = ap (λ r. x ∷ r) s.whole;
      many = ap suc s.many;
    }

-- ---- one number after another
-- from A + D a = B + D b: B - A is D (a - b)
moved_over : (a b d x y : ℚ) → x +ℚ d *ℚ a ≡ y +ℚ d *ℚ b → y -ℚ x ≡ d *ℚ (a -ℚ b)
moved_over a b d x y h =
    identity ring_ℚ (y ∷ d ∷ b ∷ x ∷ []) (var 0 ⊕ opposite (var 3)) ((var 0 ⊕ var 1 ⊗ var 2) ⊕ (opposite (var 1 ⊗ var 2) ⊕ opposite (var 3))) refl
    ∙ ap (λ z. z +ℚ (neg_ℚ (d *ℚ b) +ℚ neg_ℚ x)) (sym h)
    ∙ identity ring_ℚ (x ∷ d ∷ a ∷ b ∷ []) ((var 0 ⊕ var 1 ⊗ var 2) ⊕ (opposite (var 1 ⊗ var 3) ⊕ opposite (var 0))) (var 1 ⊗ (var 2 ⊕ opposite (var 3))) refl

undone : (c d : ℚ) → c ≢ zero_ℚ → reciprocal c *ℚ (d *ℚ c) ≡ d
undone c d n =
    identity ring_ℚ (reciprocal c ∷ d ∷ c ∷ []) (var 0 ⊗ (var 1 ⊗ var 2)) (var 1 ⊗ (var 2 ⊗ var 0)) refl ∙ ap (λ y. d *ℚ y) (*ℚ-reciprocal c n) ∙ *ℚ-one d

cancelled : (x y z : ℚ) → x +ℚ z ≡ y +ℚ z → x ≡ y
cancelled x y z h =
    identity ring_ℚ (x ∷ z ∷ []) (var 0) ((var 0 ⊕ var 1) ⊕ opposite (var 1)) refl ∙ ap (λ w. w +ℚ neg_ℚ z) h ∙ identity ring_ℚ (y ∷ z ∷ []) ((var 0 ⊕ var 1) ⊕ opposite (var 1)) (var 0) refl

module _ (ds : List Numbers) (free : AreIndependent ds) where
  never : (n : ℕ) (d : Numbers) (a b : ℚ) (xs ys : List ℚ) → slice_get ds n ≡ Some d → n < length ds → length xs ≡ n → length ys ≡ n → (a -ℚ b) ≢ zero_ℚ
      → ((key : List ℕ) → combine rationals (numbers_at ds key) xs +ℚ d key *ℚ a ≡ combine rationals (numbers_at ds key) ys +ℚ d key *ℚ b) → ⊥
  never n d a b xs ys e l p q m h =
      free n (record { direction = d; stands = e; dependent = record { fractions = fs; many = many ∙ sym (length-take n ds (omega arith)); adds = adds } })
    where
      fs : List ℚ
      fs = scaled rationals (reciprocal (a -ℚ b)) (difference rationals ys xs)

      many : length fs ≡ n
      many = length-scaled rationals (reciprocal (a -ℚ b)) (difference rationals ys xs) ∙ length-difference rationals n ys xs q p

      adds : (key : List ℕ) → d key ≡ combined fs (take n ds) key
      adds key =
          let e = numbers_at ds key in
          sym (undone (a -ℚ b) (d key) m)
          ∙ ap (λ z. reciprocal (a -ℚ b) *ℚ z) (sym (moved_over a b (d key) (combine rationals e xs) (combine rationals e ys) (h key)) ∙ sym (combine-difference rationals e ys xs))
          ∙ sym (combine-scaled rationals (reciprocal (a -ℚ b)) e (difference rationals ys xs))
          ∙ sym (combine-take n e fs many) ∙ ap (λ r. combine rationals r fs) (sym (take-map (λ g. g key) n ds)) ∙ sym (combined-combine fs (take n ds) key)

  same-numbers : (n : ℕ) (xs ys : List ℚ) → length xs ≡ n → length ys ≡ n → n ≤ length ds → ((key : List ℕ) → combine rationals (numbers_at ds key) xs ≡ combine rationals (numbers_at ds key) ys) → xs ≡ ys
  same-numbers zero [] [] p q l h = refl
  same-numbers zero [] (y ∷ ys) p q l h = absurd (omega arith)
  same-numbers zero (x ∷ xs) ys p q l h = absurd (omega arith)
  same-numbers (suc n) xs ys p q l h = by_last (snoc n xs p) (snoc n ys q) (λ us vs i j k. same-numbers n us vs i j (omega arith) k)
    where
      d : Numbers
      d = get_or ds n (λ key. zero_ℚ)

      stands : slice_get ds n ≡ Some d
      stands = slice_get-get_or ds n (λ key. zero_ℚ) (omega arith)

      sums : (s : IsSnoc n xs) (t : IsSnoc n ys) (key : List ℕ) → combine rationals (numbers_at ds key) s.front +ℚ d key *ℚ s.last ≡ combine rationals (numbers_at ds key) t.front +ℚ d key *ℚ t.last
      sums s t key =
          let e = numbers_at ds key in
          ap (λ z. combine rationals e s.front +ℚ z *ℚ s.last) (sym (entry-of ds n d key stands)) ∙ sym (combine-appended n e s.front s.last s.many) ∙ ap (combine rationals e) (sym s.whole)
          ∙ h key ∙ ap (combine rationals e) t.whole ∙ combine-appended n e t.front t.last t.many ∙ ap (λ z. combine rationals e t.front +ℚ z *ℚ t.last) (entry-of ds n d key stands)

      by_test : (b : Bool) (s : IsSnoc n xs) (t : IsSnoc n ys) → is_zero (s.last -ℚ t.last) ≡ b → ((us vs : List ℚ) → length us ≡ n → length vs ≡ n → ((key : List ℕ) → combine rationals (numbers_at ds key) us ≡ combine rationals (numbers_at ds key) vs) → us ≡ vs) → xs ≡ ys
      by_test true s t z ih =
          let last = same_from_difference s.last t.last (is_zero-true (s.last -ℚ t.last) z) in
          let front = ih s.front t.front s.many t.many (λ key. cancelled (combine rationals (numbers_at ds key) s.front) (combine rationals (numbers_at ds key) t.front) (d key *ℚ t.last)
          (ap (λ y. combine rationals (numbers_at ds key) s.front +ℚ d key *ℚ y) (sym last) ∙ sums s t key)) in
          s.whole ∙ ap₂ (λ us y. us ++ y ∷ []) front last ∙ sym t.whole
      by_test false s t z ih = absurd (never n d s.last t.last s.front t.front stands (omega arith) s.many t.many (is_zero-false (s.last -ℚ t.last) z) (sums s t))

      by_last : (s : IsSnoc n xs) (t : IsSnoc n ys) → ((us vs : List ℚ) → length us ≡ n → length vs ≡ n → ((key : List ℕ) → combine rationals (numbers_at ds key) us ≡ combine rationals (numbers_at ds key) vs) → us ≡ vs) → xs ≡ ys
      by_last s t ih = by_test (is_zero (s.last -ℚ t.last)) s t refl ih

-- ---- coordinates
same_by_coefficients : (xs ys : List Polynomial) → length xs ≡ length ys → ((m : Monomial) → map (λ x. coefficient_of x m) xs ≡ map (λ x. coefficient_of x m) ys) → xs ≡ ys
same_by_coefficients [] [] l h = refl
same_by_coefficients [] (y ∷ ys) l h = absurd (omega arith)
same_by_coefficients (x ∷ xs) [] l h = absurd (omega arith)
same_by_coefficients (x ∷ xs) (y ∷ ys) l h =
    ap₂ ◌∷◌ (same_coefficients monomial_keys ring_ℚ.semiring zero_test x y (λ m. ap (entry 0) (h m))) (same_by_coefficients xs ys (omega arith) (λ m. ap (drop 1) (h m)))

pub unique : (directions : List Numbers) (tensor : List ℕ → Polynomial) (first second : List Polynomial) → AreIndependent directions → AreCoordinates directions tensor first → AreCoordinates directions tensor second → first ≡ second
unique directions tensor first second free a b =
    same_by_coefficients first second (a.many ∙ sym b.many) (λ m.
    same-numbers directions free (length directions) (map (λ x. coefficient_of x m) first) (map (λ x. coefficient_of x m) second)
    (length-map first (λ x. coefficient_of x m) ∙ a.many) (length-map second (λ x. coefficient_of x m) ∙ b.many) (omega arith)
    (λ key. sym (moved-at m first directions key) ∙ ap (λ p. coefficient_of p m) (a.adds key ∙ sym (b.adds key)) ∙ moved-at m second directions key))
