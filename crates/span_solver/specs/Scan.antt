-- The scan of all rows: coordinates that solve the rows at the pivots solve all rows, or the first row that they fail is
-- the first one up to which nothing solves the rows.
use Rattle.std.proofs.Common.{◌≡◌, ℕ, zero, suc, ◌<◌, refl, sym, ◌∙◌, ap, ap₂, arith, List, [], ◌∷◌, ◌++◌, length, take}
use Rattle.std.specs.Prelude.{◌≢◌, map, ⊤}
use Rattle.exact_algebra.specs.Solver.{identity}
use Rattle.exact_algebra.specs.Solver.Term.{var, nought, ◌⊕◌, opposite}
use Rattle.frac128.specs.Rational.{ℚ, zero_ℚ}
use Rattle.span_solver.specs.Algebra.{Algebra}
use Rattle.span_solver.specs.Combine.{entry, without, combine, difference, combine-difference, length-difference, difference-none, combine-zeros, length-without}
use Rattle.span_solver.specs.Elimination.{leading-some, reduced, reduced-back, vanish-forth, Vanish, HaveLength, ArePivots, done, passed, found, select, independent, lengths-reduced, zero-step}
use Rattle.span_solver.specs.Systems.{Row, entries, SolvesRow, Solves}

module _ (A : Algebra) where
  open A.ring.semiring use {carrier, zero as none, add as ◌⊞◌, mul as ◌⊠◌}

  infixl 6 ◌⊞◌
  infixl 7 ◌⊠◌
  -- ---- what the rows before a row say of it

  -- what adds up to 0 at the rows before adds up to 0 at this row
  abbrev pub IsDetermined : ℕ → List (List ℚ) → List ℚ → Type 0
  IsDetermined k before e = (ds : List carrier) → length ds ≡ k → Vanish A before ds → combine A e ds ≡ none

  -- each row that is no pivot is determined by those before it
  abbrev pub PassedAreDetermined : ℕ → List (List ℚ) → List ℕ → List (List ℚ) → Type 0
  PassedAreDetermined k before gs [] = ⊤
  PassedAreDetermined k before [] (e ∷ es) = IsDetermined k before e × PassedAreDetermined k (e ∷ before) [] es
  PassedAreDetermined k before (zero ∷ gs) (e ∷ es) = PassedAreDetermined k (e ∷ before) gs es
  PassedAreDetermined k before (suc g ∷ gs) (e ∷ es) = IsDetermined k before e × PassedAreDetermined k (e ∷ before) (g ∷ gs) es

  vanish-append : (later before : List (List ℚ)) (ds : List carrier) → Vanish A (later ++ before) ds → Vanish A later ds × Vanish A before ds
  vanish-append [] before ds v = (tt, v)
  vanish-append (e ∷ later) before ds v = let h = vanish-append later before ds v.1 in ((v.0, h.0), h.1)

  -- with no directions nothing is left
  determined-none : (before es : List (List ℚ)) → HaveLength 0 es → PassedAreDetermined 0 before [] es
  determined-none before [] h = tt
  determined-none before (e ∷ es) h = (λ ds l v. short ds l, determined-none (e ∷ before) es h.1)
    where
      short : (ds : List carrier) → length ds ≡ 0 → combine A e ds ≡ none
      short ds l = by_list e ds l
        where
          by_list : (qs : List ℚ) (xs : List carrier) → length xs ≡ 0 → combine A qs xs ≡ none
          by_list [] xs l = refl
          by_list (q ∷ qs) [] l = refl
          by_list (q ∷ qs) (x ∷ xs) l = absurd (omega arith)

  determined-back : (k : ℕ) (e : List ℚ) (j : ℕ) (later before : List (List ℚ)) (f : List ℚ) → j < length e → entry j e ≢ zero_ℚ → length e ≡ suc k → length f ≡ suc k → HaveLength (suc k) later
      → IsDetermined k (map (reduced e j) later) (reduced e j f) → IsDetermined (suc k) (later ++ e ∷ before) f
  determined-back k e j later before f l n p q h d ds m v =
      let parts = vanish-append later (e ∷ before) ds v in
      reduced-back A e j f ds none none l (omega arith) n parts.1.0
      (d (without j ds) (length-without j k ds (omega arith) m) (vanish-forth A e j k later ds l p h parts.1.0 parts.0) ∙ zero-step A (A.constant (entry j e)) (A.constant (entry j f)))

  passed-back : (k : ℕ) (e : List ℚ) (j : ℕ) (later before : List (List ℚ)) (gs : List ℕ) (es : List (List ℚ)) → j < length e → entry j e ≢ zero_ℚ → length e ≡ suc k → HaveLength (suc k) later → HaveLength (suc k) es
      → PassedAreDetermined k (map (reduced e j) later) gs (map (reduced e j) es) → PassedAreDetermined (suc k) (later ++ e ∷ before) gs es
  passed-back k e j later before gs [] l n p h i d = tt
  passed-back k e j later before [] (f ∷ es) l n p h i d =
      (determined-back k e j later before f l n p i.0 h d.0, passed-back k e j (f ∷ later) before [] es l n p (i.0, h) i.1 d.1)
  passed-back k e j later before (zero ∷ gs) (f ∷ es) l n p h i d = passed-back k e j (f ∷ later) before gs es l n p (i.0, h) i.1 d
  passed-back k e j later before (suc g ∷ gs) (f ∷ es) l n p h i d =
      (determined-back k e j later before f l n p i.0 h d.0, passed-back k e j (f ∷ later) before (g ∷ gs) es l n p (i.0, h) i.1 d.1)

  pub passed-determined : {k : ℕ} {rows : List (List ℚ)} {gs : List ℕ} → ArePivots k rows gs → (before : List (List ℚ)) → HaveLength k rows → PassedAreDetermined k before gs rows
  passed-determined (done rows) before h = determined-none before rows h
  passed-determined (passed k e es g gs z p) before h = (λ ds l v. combine-zeros A e ds z, passed-determined p (e ∷ before) h.1)
  passed-determined (found k e es j gs s p) before h =
      let lead = leading-some e j s in
      passed-back k e j [] before gs es lead.0 lead.1 h.0 tt h.1 (passed-determined p [] (lengths-reduced k e j es lead.0 h.0 h.1))

  -- ---- the scan

  -- the place of the first row that the coordinates fail
  abbrev pub FailsFirst : List carrier → ℕ → List (Row A) → Type 0
  FailsFirst xs m [] = ⊥
  FailsFirst xs zero (r ∷ rows) = ¬ SolvesRow A xs r
  FailsFirst xs (suc m) (r ∷ rows) = SolvesRow A xs r × FailsFirst xs m rows

  -- no coordinates solve the rows up to this one, and some solve those before it
  pub record IsNotSpanned (k : ℕ) (rows : List (Row A)) (place : ℕ) : Type 0 where
    pub within : place < length rows
    pub before : (xs : List carrier) × (length xs ≡ k) × Solves A xs (take place rows)
    pub none : (xs : List carrier) → length xs ≡ k → ¬ Solves A xs (take (suc place) rows)

  pub fails-within : (xs : List carrier) (m : ℕ) (rows : List (Row A)) → FailsFirst xs m rows → m < length rows
  fails-within xs m [] f = absurd f
  fails-within xs zero (r ∷ rows) f = omega arith
  fails-within xs (suc m) (r ∷ rows) f = let h = fails-within xs m rows f.1 in omega (arith, h)

  pub fails-before : (xs : List carrier) (m : ℕ) (rows : List (Row A)) → FailsFirst xs m rows → Solves A xs (take m rows)
  fails-before xs m [] f = absurd f
  fails-before xs zero (r ∷ rows) f = tt
  fails-before xs (suc m) (r ∷ rows) f = (f.0, fails-before xs m rows f.1)

  same-sums : (xs ys : List carrier) (r : Row A) → SolvesRow A xs r → SolvesRow A ys r → combine A r.0 (difference A ys xs) ≡ none
  same-sums xs ys r h k =
      combine-difference A r.0 ys xs ∙ ap₂ (λ x y. x ⊞ A.ring.neg y) k h ∙ A.ring.add_neg r.1

  solves-determined : (xs ys : List carrier) (r : Row A) → SolvesRow A ys r → combine A r.0 (difference A ys xs) ≡ none → SolvesRow A xs r
  solves-determined xs ys r k d =
      identity A.ring (combine A r.0 xs ∷ combine A r.0 ys ∷ []) (var 0) (var 1 ⊕ opposite (var 1 ⊕ opposite (var 0))) refl
      ∙ ap (λ z. combine A r.0 ys ⊞ A.ring.neg z) (sym (combine-difference A r.0 ys xs) ∙ d)
      ∙ identity A.ring (combine A r.0 ys ∷ []) (var 0 ⊕ opposite nought) (var 0) refl ∙ k

  none-solve : (k : ℕ) (before : List (List ℚ)) (gs : List ℕ) (rows : List (Row A)) (xs ys : List carrier) (m : ℕ) → length xs ≡ k → length ys ≡ k → PassedAreDetermined k before gs (entries A rows) → Solves A xs (select gs rows) → FailsFirst xs m rows → Vanish A before (difference A ys xs) → ¬ Solves A ys (take (suc m) rows)
  none-solve k before gs [] xs ys m l n d s f v t = absurd f
  none-solve k before [] (r ∷ rows) xs ys zero l n d s f v t = f (solves-determined xs ys r t.0 (d.0 (difference A ys xs) (length-difference A k ys xs n l) v))
  none-solve k before [] (r ∷ rows) xs ys (suc m) l n d s f v t = none-solve k (r.0 ∷ before) [] rows xs ys m l n d.1 tt f.1 (same-sums xs ys r f.0 t.0, v) t.1
  none-solve k before (zero ∷ gs) (r ∷ rows) xs ys zero l n d s f v t = f s.0
  none-solve k before (zero ∷ gs) (r ∷ rows) xs ys (suc m) l n d s f v t = none-solve k (r.0 ∷ before) gs rows xs ys m l n d s.1 f.1 (same-sums xs ys r f.0 t.0, v) t.1
  none-solve k before (suc g ∷ gs) (r ∷ rows) xs ys zero l n d s f v t = f (solves-determined xs ys r t.0 (d.0 (difference A ys xs) (length-difference A k ys xs n l) v))
  none-solve k before (suc g ∷ gs) (r ∷ rows) xs ys (suc m) l n d s f v t = none-solve k (r.0 ∷ before) (g ∷ gs) rows xs ys m l n d.1 s f.1 (same-sums xs ys r f.0 t.0, v) t.1

  pub not_spanned : (k : ℕ) (gs : List ℕ) (rows : List (Row A)) (xs : List carrier) (m : ℕ) → ArePivots k (entries A rows) gs → HaveLength k (entries A rows) → length xs ≡ k → Solves A xs (select gs rows) → FailsFirst xs m rows → IsNotSpanned k rows m
  not_spanned k gs rows xs m p h l s f = record {
    within = fails-within xs m rows f;
    before = (xs, l, fails-before xs m rows f);
    none = λ ys n t. none-solve k [] gs rows xs ys m l n (passed-determined p [] h) s f tt t;
  }

  -- ---- coordinates are unique where the directions are independent
  vanish-difference : (xs ys : List carrier) (rows : List (Row A)) → Solves A xs rows → Solves A ys rows → Vanish A (entries A rows) (difference A ys xs)
  vanish-difference xs ys [] s t = tt
  vanish-difference xs ys (r ∷ rows) s t = (same-sums xs ys r s.0 t.0, vanish-difference xs ys rows s.1 t.1)

  pub coordinates_unique : (k : ℕ) (gs : List ℕ) (rows : List (Row A)) (xs ys : List carrier) → ArePivots k (entries A rows) gs → HaveLength k (entries A rows) → length xs ≡ k → length ys ≡ k → Solves A xs rows → Solves A ys rows → ys ≡ xs
  coordinates_unique k gs rows xs ys p h l n s t =
      difference-none A k ys xs n l (independent A p h (difference A ys xs) (length-difference A k ys xs n l) (vanish-difference xs ys rows s t))
