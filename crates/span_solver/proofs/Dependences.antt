-- Directions that are dependent at the rows of a block are dependent at every key, and the other way round.
use Rattle.std.specs.Prelude.{◌≡◌, ◌⊎◌, ℕ, zero, suc, ◌<◌, ◌≤◌, List, [], ◌∷◌, length, map, take, slice_get, Option, None, Some}
use Rattle.std.proofs.Common.{refl, sym, ap, ap₂, ◌∙◌, subst, arith, inl, inr}
use Rattle.std.proofs.lemmas.Option.{slice_get_within}
use Rattle.frac128.specs.Rational.{ℚ, zero_ℚ, ◌+ℚ◌, ◌*ℚ◌}
use Rattle.frac128.specs.RationalLaws.{*ℚ_comm}
use Rattle.span_solver.specs.Algebra.{rationals}
use Rattle.span_solver.specs.Block.{IsIn, numbers_at}
use Rattle.span_solver.specs.Combine.{Each, AreZero, entry, combine, combine-zeros}
use Rattle.span_solver.specs.Dependence.{Numbers, combined, IsDependent, AreIndependent}
use Rattle.span_solver.specs.RowDependence.{IsDependent as IsRowDependent, AreIndependent as AreRowsIndependent}

-- ---- sums of numbers at a key
pub combined-combine : (fs : List ℚ) (ds : List Numbers) (key : List ℕ) → combined fs ds key ≡ combine rationals (numbers_at ds key) fs
combined-combine [] [] key = refl
combined-combine [] (d ∷ ds) key = refl
combined-combine (f ∷ fs) [] key = refl
combined-combine (f ∷ fs) (d ∷ ds) key = ap₂ ◌+ℚ◌ (*ℚ_comm f (d key)) (combined-combine fs ds key)

-- the first n factors see the first n numbers only
pub combine-take : (n : ℕ) (qs fs : List ℚ) → length fs ≡ n → combine rationals (take n qs) fs ≡ combine rationals qs fs
combine-take zero qs [] l = none qs
  where
    none : (ps : List ℚ) → zero_ℚ ≡ combine rationals ps []
    none [] = refl
    none (p ∷ ps) = refl
combine-take zero qs (f ∷ fs) l = absurd (omega arith)
combine-take (suc n) [] fs l = refl
combine-take (suc n) (q ∷ qs) [] l = absurd (omega arith)
combine-take (suc n) (q ∷ qs) (f ∷ fs) l = ap (λ y. q *ℚ f +ℚ y) (combine-take n qs fs (omega arith))

pub take-map : {X Y : Type 0} (f : X → Y) (n : ℕ) (xs : List X) → map f (take n xs) ≡ take n (map f xs)
take-map f zero [] = refl
take-map f zero (x ∷ xs) = refl
take-map f (suc n) [] = refl
take-map f (suc n) (x ∷ xs) = ap (λ ys. f x ∷ ys) (take-map f n xs)

pub entry-of : (ds : List Numbers) (n : ℕ) (d : Numbers) (key : List ℕ) → slice_get ds n ≡ Some d → entry n (numbers_at ds key) ≡ d key
entry-of [] n d key e = absurd (cc e)
entry-of (c ∷ ds) zero d key e = let same : c ≡ d = cc e in ap (λ g. g key) same
entry-of (c ∷ ds) (suc n) d key e = entry-of ds n d key e

entry-zero : (n : ℕ) (qs : List ℚ) → AreZero qs → entry n qs ≡ zero_ℚ
entry-zero n [] z = refl
entry-zero zero (q ∷ qs) z = z.0
entry-zero (suc n) (q ∷ qs) z = entry-zero n qs z.1

pub length-take : {X : Type 0} (n : ℕ) (xs : List X) → n ≤ length xs → length (take n xs) ≡ n
length-take zero [] l = refl
length-take zero (x ∷ xs) l = refl
length-take (suc n) [] l = absurd (omega arith)
length-take (suc n) (x ∷ xs) l = ap suc (length-take n xs (omega arith))

take-take : {X : Type 0} (p n : ℕ) (xs : List X) → p ≤ n → take p (take n xs) ≡ take p xs
take-take zero zero xs l = first xs
  where
    first : {Y : Type 0} (ys : List Y) → take zero (take zero ys) ≡ take zero ys
    first [] = refl
    first (y ∷ ys) = refl
take-take (suc p) zero xs l = absurd (omega arith)
take-take zero (suc n) [] l = refl
take-take zero (suc n) (x ∷ xs) l = refl
take-take (suc p) (suc n) [] l = refl
take-take (suc p) (suc n) (x ∷ xs) l = ap (λ ys. x ∷ ys) (take-take p n xs (omega arith))

slice_get-take : {X : Type 0} (p n : ℕ) (xs : List X) (x : X) → slice_get (take n xs) p ≡ Some x → (p < n) × (slice_get xs p ≡ Some x)
slice_get-take p zero [] x e = absurd (cc e)
slice_get-take p zero (y ∷ xs) x e = absurd (cc e)
slice_get-take p (suc n) [] x e = absurd (cc e)
slice_get-take zero (suc n) (y ∷ xs) x e = (omega arith, e)
slice_get-take (suc p) (suc n) (y ∷ xs) x e = let h = slice_get-take p n xs x e in (omega (arith, h.0), h.1)

take-all : {X : Type 0} (xs : List X) → take (length xs) xs ≡ xs
take-all [] = refl
take-all (x ∷ xs) = ap (λ ys. x ∷ ys) (take-all xs)

-- ---- the rows are those of directions
module _ (ds : List Numbers) (keys : List (List ℕ)) (covers : (key : List ℕ) → IsIn key keys ⊎ AreZero (numbers_at ds key)) where
  at_row : (fs : List ℚ) (n : ℕ) (ks : List (List ℕ)) → Each (λ e. combine rationals e fs ≡ entry n e) (map (numbers_at ds) ks) → (key : List ℕ) → IsIn key ks → combine rationals (numbers_at ds key) fs ≡ entry n (numbers_at ds key)
  at_row fs n [] h key i = absurd i
  at_row fs n (k ∷ ks) h key (inl e) = subst (λ j. combine rationals (numbers_at ds j) fs ≡ entry n (numbers_at ds j)) (sym e) h.0
  at_row fs n (k ∷ ks) h key (inr i) = at_row fs n ks h.1 key i

  at_key : (fs : List ℚ) (n : ℕ) → Each (λ e. combine rationals e fs ≡ entry n e) (map (numbers_at ds) keys) → (key : List ℕ) → IsIn key keys ⊎ AreZero (numbers_at ds key) → combine rationals (numbers_at ds key) fs ≡ entry n (numbers_at ds key)
  at_key fs n h key (inl i) = at_row fs n keys h key i
  at_key fs n h key (inr z) = combine-zeros rationals (numbers_at ds key) fs z ∙ sym (entry-zero n (numbers_at ds key) z)

  pub dependent_up : (n : ℕ) (d : Numbers) → slice_get ds n ≡ Some d → IsRowDependent (map (numbers_at ds) keys) n → IsDependent (take n ds) d
  dependent_up n d e h =
      let within : n < length ds = slice_get_within ds n d e in record {
        fractions = h.factors;
        many = h.many ∙ sym (length-take n ds (omega arith));
        adds = λ key.
            sym (entry-of ds n d key e) ∙ sym (at_key h.factors n h.adds key (covers key)) ∙ sym (combine-take n (numbers_at ds key) h.factors h.many)
            ∙ ap (λ qs. combine rationals qs h.factors) (sym (take-map (λ g. g key) n ds)) ∙ sym (combined-combine h.factors (take n ds) key);
      }

  each-row : (P : List ℚ → Type 0) (ks : List (List ℕ)) → ((key : List ℕ) → P (numbers_at ds key)) → Each P (map (numbers_at ds) ks)
  each-row P [] h = tt
  each-row P (k ∷ ks) h = (h k, each-row P ks h)

  pub dependent_down : (n : ℕ) (d : Numbers) → slice_get ds n ≡ Some d → IsDependent (take n ds) d → IsRowDependent (map (numbers_at ds) keys) n
  dependent_down n d e h =
      let within : n < length ds = slice_get_within ds n d e in
      let many : length h.fractions ≡ n = h.many ∙ length-take n ds (omega arith) in record {
        factors = h.fractions;
        many = many;
        adds = each-row (λ q. combine rationals q h.fractions ≡ entry n q) keys (λ key.
            sym (combine-take n (numbers_at ds key) h.fractions many) ∙ ap (λ qs. combine rationals qs h.fractions) (sym (take-map (λ g. g key) n ds))
            ∙ sym (combined-combine h.fractions (take n ds) key) ∙ sym (h.adds key) ∙ sym (entry-of ds n d key e));
      }

  -- the first n directions are independent where no row relates one of them to earlier ones
  pub independent_up : (n : ℕ) → ((p : ℕ) → p < n → ¬ IsRowDependent (map (numbers_at ds) keys) p) → AreIndependent (take n ds)
  independent_up n h place d =
      let there = slice_get-take place n ds d.direction d.stands in
      h place there.0 (dependent_down place d.direction there.1 (subst (λ es. IsDependent es d.direction) (take-take place n ds (omega (arith, there.0))) d.dependent))

  pub all_independent : AreRowsIndependent (length ds) (map (numbers_at ds) keys) → AreIndependent ds
  all_independent h = subst AreIndependent (take-all ds) (independent_up (length ds) h)

  pub rows_independent : AreIndependent ds → AreRowsIndependent (length ds) (map (numbers_at ds) keys)
  rows_independent h p l r = found (slice_get ds p) refl
    where
      found : (o : Option Numbers) → slice_get ds p ≡ o → ⊥
      found (Some d) e = h p (record { direction = d; stands = e; dependent = dependent_up p d e r })
      found None e = inside ds p l e
        where
          inside : (es : List Numbers) (i : ℕ) → i < length es → slice_get es i ≡ None → ⊥
          inside [] i l e = absurd (omega arith)
          inside (c ∷ es) zero l e = let none : ⊥ = cc e in none
          inside (c ∷ es) (suc i) l e = inside es i (omega arith) e
