-- Rows with values, and the steps that solve as many rows as there are directions.
use Rattle.std.proofs.Common.{◌≡◌, ℕ, zero, suc, ◌<◌, refl, sym, ◌∙◌, ap, subst, arith, List, [], ◌∷◌, length, Option, None, Some}
use Rattle.std.specs.Prelude.{◌≢◌, map, ⊤}
use Rattle.exact_algebra.specs.Ring.{one_mul}
use Rattle.exact_algebra.specs.Solver.{identity}
use Rattle.exact_algebra.specs.Solver.Term.{var, nought, ◌⊕◌, ◌⊗◌, opposite}
use Rattle.frac128.specs.Rational.{ℚ, zero_ℚ, one_ℚ, ◌*ℚ◌, neg_ℚ, ◌-ℚ◌, reciprocal}
use Rattle.frac128.specs.RationalLaws.{ring_ℚ, product-zero}
use Rattle.span_solver.specs.Algebra.{Algebra, constant-step, inverse-left}
use Rattle.span_solver.specs.Combine.{Each, entry, length-inserted, combine, scaled, combine-scaled}
use Rattle.span_solver.specs.Elimination.{leading, leading-some, reduced, HaveLength, ArePivots, done, passed, found, select, select-map, lengths-reduced, extended, extended-pivot, extended-row, length-scaled}

-- as many rows as directions, each with an entry other than 0 once the directions of the earlier ones are taken out
abbrev pub IsRegular : ℕ → List (List ℚ) → Type 0
IsRegular zero [] = ⊤
IsRegular zero (e ∷ es) = ⊥
IsRegular (suc k) [] = ⊥
IsRegular (suc k) (e ∷ es) = (j : ℕ) × (leading e ≡ Some j) × IsRegular k (map (reduced e j) es)

-- the rows at the pivots are of this kind
pub regular-select : {k : ℕ} {rows : List (List ℚ)} {gs : List ℕ} → ArePivots k rows gs → IsRegular k (select gs rows)
regular-select (done rows) = tt
regular-select (passed k e es g gs z p) = regular-select p
regular-select (found k e es j gs s p) = (j, s, subst (IsRegular k) (select-map (reduced e j) gs es) (regular-select p))

determinant-left : (a b c d : ℚ) → (a *ℚ d -ℚ c *ℚ b) ≢ zero_ℚ → (a *ℚ d -ℚ b *ℚ c) ≢ zero_ℚ
determinant-left a b c d h e = h (identity ring_ℚ (a ∷ b ∷ c ∷ d ∷ []) (var 0 ⊗ var 3 ⊕ opposite (var 2 ⊗ var 1)) (var 0 ⊗ var 3 ⊕ opposite (var 1 ⊗ var 2)) refl ∙ e)

determinant-right : (a b c d : ℚ) → (b *ℚ c -ℚ d *ℚ a) ≢ zero_ℚ → (a *ℚ d -ℚ b *ℚ c) ≢ zero_ℚ
determinant-right a b c d h e =
    h (identity ring_ℚ (a ∷ b ∷ c ∷ d ∷ []) (var 1 ⊗ var 2 ⊕ opposite (var 3 ⊗ var 0)) (opposite (var 0 ⊗ var 3 ⊕ opposite (var 1 ⊗ var 2))) refl ∙ ap neg_ℚ e ∙ identity ring_ℚ [] (opposite nought) nought refl)

-- two regular rows have a determinant other than 0
determinant : (a b c d : ℚ) (j i : ℕ) → leading (a ∷ b ∷ []) ≡ Some j → leading (reduced (a ∷ b ∷ []) j (c ∷ d ∷ [])) ≡ Some i → (a *ℚ d -ℚ b *ℚ c) ≢ zero_ℚ
determinant a b c d zero zero s u = determinant-left a b c d (leading-some ((a *ℚ d -ℚ c *ℚ b) ∷ []) zero u).1
determinant a b c d zero (suc i) s u = absurd (omega (arith, (leading-some ((a *ℚ d -ℚ c *ℚ b) ∷ []) (suc i) u).0))
determinant a b c d (suc zero) zero s u = determinant-right a b c d (leading-some ((b *ℚ c -ℚ d *ℚ a) ∷ []) zero u).1
determinant a b c d (suc zero) (suc i) s u = absurd (omega (arith, (leading-some ((b *ℚ c -ℚ d *ℚ a) ∷ []) (suc i) u).0))
determinant a b c d (suc (suc j)) i s u = absurd (omega (arith, (leading-some (a ∷ b ∷ []) (suc (suc j)) s).0))

product-other : (x y : ℚ) → x ≢ zero_ℚ → y ≢ zero_ℚ → (x *ℚ y) ≢ zero_ℚ
product-other x y m n e = m (product-zero x y n e)

module _ (A : Algebra) where
  open A.ring.semiring use {carrier, zero as none, add as ◌⊞◌, mul as ◌⊠◌}

  infixl 6 ◌⊞◌
  infixl 7 ◌⊠◌
  -- an entry per direction, and the value that the directions are to add up to
  abbrev pub Row : Type 0
  Row = List ℚ × carrier

  abbrev pub entries : List Row → List (List ℚ)
  entries rows = map (λ r. r.0) rows

  abbrev pub SolvesRow : List carrier → Row → Type 0
  SolvesRow xs r = combine A r.0 xs ≡ r.1

  -- the coordinates add up to the value at every row
  abbrev pub Solves : List carrier → List Row → Type 0
  Solves xs rows = Each (SolvesRow xs) rows

  -- the same for coordinates times t
  abbrev pub SolvesTimes : ℚ → List carrier → Row → Type 0
  SolvesTimes t ns r = combine A r.0 ns ≡ A.constant t ⊠ r.1

  -- a row after the pivot's direction is taken out
  abbrev pub reduced_row : Row → ℕ → Row → Row
  reduced_row r j s = (reduced r.0 j s.0, (A.constant (entry j r.0) ⊠ s.1) ⊞ A.ring.neg (A.constant (entry j s.0) ⊠ r.1))

  -- ---- the steps: a number t, and for each direction the value that is t times its coordinate
  abbrev pub Steps : Type 0
  Steps = ℚ × List carrier

  abbrev pub one_step : List Row → Steps
  one_step [] = (one_ℚ, [])
  one_step (r ∷ rows) = (entry 0 r.0, r.1 ∷ [])

  abbrev pub two_steps : List Row → Steps
  two_steps [] = (one_ℚ, [])
  two_steps (r ∷ []) = (one_ℚ, [])
  two_steps (r ∷ s ∷ rows) = (
    entry 0 r.0 *ℚ entry 1 s.0 -ℚ entry 1 r.0 *ℚ entry 0 s.0,
    ((A.constant (entry 1 s.0) ⊠ r.1) ⊞ A.ring.neg (A.constant (entry 1 r.0) ⊠ s.1))
        ∷ ((A.constant (entry 0 r.0) ⊠ s.1) ⊞ A.ring.neg (A.constant (entry 0 s.0) ⊠ r.1)) ∷ [],
  )

  abbrev pub step_back : Row → ℕ → Steps → Steps
  step_back r j n = (entry j r.0 *ℚ n.0, extended A r.0 j (A.constant n.0) r.1 n.1)

  abbrev pub step_at : (List Row → Steps) → Row → List Row → Option ℕ → Steps
  step_at rest r rows None = (one_ℚ, [])
  step_at rest r rows (Some j) = step_back r j (rest (map (reduced_row r j) rows))

  abbrev pub step : (List Row → Steps) → List Row → Steps
  step rest [] = (one_ℚ, [])
  step rest (r ∷ rows) = step_at rest r rows (leading r.0)

  abbrev pub steps : ℕ → List Row → Steps
  steps zero rows = (one_ℚ, [])
  steps (suc zero) rows = one_step rows
  steps (suc (suc zero)) rows = two_steps rows
  steps (suc (suc (suc k))) rows = step (steps (suc (suc k))) rows

  -- what the steps give
  pub record AreSteps (k : ℕ) (rows : List Row) (n : Steps) : Type 0 where
    pub other : n.0 ≢ zero_ℚ
    pub many : length n.1 ≡ k
    pub solve : Each (SolvesTimes n.0 n.1) rows

  entries-reduced : (r : Row) (j : ℕ) (rows : List Row) → entries (map (reduced_row r j) rows) ≡ map (reduced r.0 j) (entries rows)
  entries-reduced r j [] = refl
  entries-reduced r j (s ∷ rows) = ap (λ es. reduced r.0 j s.0 ∷ es) (entries-reduced r j rows)

  one_step-solves : (e : List ℚ) (v : carrier) (j : ℕ) → length e ≡ 1 → leading e ≡ Some j → AreSteps 1 ((e, v) ∷ []) (one_step ((e, v) ∷ []))
  one_step-solves [] v j l s = absurd (omega arith)
  one_step-solves (a ∷ []) v zero l s = record {
    other = (leading-some (a ∷ []) zero s).1;
    many = refl;
    solve = (A.ring.semiring.add_zero (A.constant a ⊠ v), tt);
  }
  one_step-solves (a ∷ []) v (suc j) l s = absurd (omega (arith, (leading-some (a ∷ []) (suc j) s).0))
  one_step-solves (a ∷ b ∷ e) v j l s = absurd (omega arith)

  cramer : (a b c d : ℚ) (v w : carrier) → (a *ℚ d -ℚ b *ℚ c) ≢ zero_ℚ → AreSteps 2 ((a ∷ b ∷ [], v) ∷ (c ∷ d ∷ [], w) ∷ []) (two_steps ((a ∷ b ∷ [], v) ∷ (c ∷ d ∷ [], w) ∷ []))
  cramer a b c d v w h = record {
    other = h;
    many = refl;
    solve = (
      identity A.ring (A.constant a ∷ A.constant b ∷ A.constant c ∷ A.constant d ∷ v ∷ w ∷ [])
          (var 0 ⊗ (var 3 ⊗ var 4 ⊕ opposite (var 1 ⊗ var 5)) ⊕ (var 1 ⊗ (var 0 ⊗ var 5 ⊕ opposite (var 2 ⊗ var 4)) ⊕ nought))
          ((var 0 ⊗ var 3 ⊕ opposite (var 1 ⊗ var 2)) ⊗ var 4) refl
          ∙ ap (λ z. z ⊠ v) (sym (constant-step A a d b c)),
      (
        identity A.ring (A.constant a ∷ A.constant b ∷ A.constant c ∷ A.constant d ∷ v ∷ w ∷ [])
            (var 2 ⊗ (var 3 ⊗ var 4 ⊕ opposite (var 1 ⊗ var 5)) ⊕ (var 3 ⊗ (var 0 ⊗ var 5 ⊕ opposite (var 2 ⊗ var 4)) ⊕ nought))
            ((var 0 ⊗ var 3 ⊕ opposite (var 1 ⊗ var 2)) ⊗ var 5) refl
            ∙ ap (λ z. z ⊠ w) (sym (constant-step A a d b c)),
        tt,
      ),
    );
  }

  two_steps-solve : (e f : List ℚ) (v w : carrier) (j i : ℕ) → length e ≡ 2 → length f ≡ 2 → leading e ≡ Some j → leading (reduced e j f) ≡ Some i → AreSteps 2 ((e, v) ∷ (f, w) ∷ []) (two_steps ((e, v) ∷ (f, w) ∷ []))
  two_steps-solve [] f v w j i l m s u = absurd (omega arith)
  two_steps-solve (a ∷ []) f v w j i l m s u = absurd (omega arith)
  two_steps-solve (a ∷ b ∷ x ∷ e) f v w j i l m s u = absurd (omega arith)
  two_steps-solve (a ∷ b ∷ []) [] v w j i l m s u = absurd (omega arith)
  two_steps-solve (a ∷ b ∷ []) (c ∷ []) v w j i l m s u = absurd (omega arith)
  two_steps-solve (a ∷ b ∷ []) (c ∷ d ∷ x ∷ f) v w j i l m s u = absurd (omega arith)
  two_steps-solve (a ∷ b ∷ []) (c ∷ d ∷ []) v w j i l m s u = cramer a b c d v w (determinant a b c d j i s u)

  rows-back : (r : Row) (j k : ℕ) (t : ℚ) (ns : List carrier) (rows : List Row) → j < length r.0 → length r.0 ≡ suc k → HaveLength (suc k) (entries rows) → entry j r.0 ≢ zero_ℚ → length ns ≡ k
      → Each (SolvesTimes t ns) (map (reduced_row r j) rows) → Each (SolvesTimes (entry j r.0 *ℚ t) (extended A r.0 j (A.constant t) r.1 ns)) rows
  rows-back r j k t ns [] l p h n m e = tt
  rows-back r j k t ns (s ∷ rows) l p h n m e = (
    extended-row A r.0 j s.0 (A.constant t) r.1 s.1 ns (omega arith) l (omega (arith, h.0)) n e.0 ∙ ap (λ z. z ⊠ s.1) (sym (A.constant_mul (entry j r.0) t)),
    rows-back r j k t ns rows l p h.1 n m e.1,
  )

  step-solves : (k : ℕ) (r : Row) (rows : List Row) (j : ℕ) (n : Steps) → length r.0 ≡ suc k → HaveLength (suc k) (entries rows) → leading r.0 ≡ Some j → AreSteps k (map (reduced_row r j) rows) n → AreSteps (suc k) (r ∷ rows) (step_back r j n)
  step-solves k r rows j n l h s a =
      let lead = leading-some r.0 j s in
      record {
        other = product-other (entry j r.0) n.0 lead.1 a.other;
        many = length-inserted j _ (scaled A (entry j r.0) n.1) ∙ ap suc (length-scaled A (entry j r.0) n.1 ∙ a.many);
        solve = (
          extended-pivot A r.0 j (A.constant n.0) r.1 n.1 (omega (arith, lead.0, a.many)) ∙ ap (λ z. z ⊠ r.1) (sym (A.constant_mul (entry j r.0) n.0)),
          rows-back r j k n.0 n.1 rows lead.0 l h lead.1 a.many a.solve,
        );
      }

  -- the steps solve regular rows
  pub steps-solve : (k : ℕ) (rows : List Row) → IsRegular k (entries rows) → HaveLength k (entries rows) → AreSteps k rows (steps k rows)
  steps-solve zero [] g h = record { other = λ e. one-zero e; many = refl; solve = tt }
    where
      one-zero : one_ℚ ≡ zero_ℚ → ⊥
      one-zero e = let d = ap (λ (q : ℚ). q.num) e in cc d
  steps-solve zero (r ∷ rows) g h = absurd g
  steps-solve (suc k) [] g h = absurd g
  steps-solve (suc zero) (r ∷ []) g h = one_step-solves r.0 r.1 g.0 h.0 g.1
  steps-solve (suc zero) (r ∷ s ∷ rows) g h = absurd g.2
  steps-solve (suc (suc zero)) (r ∷ []) g h = absurd g.2
  steps-solve (suc (suc zero)) (r ∷ s ∷ []) g h = two_steps-solve r.0 s.0 r.1 s.1 g.0 g.2.0 h.0 h.1.0 g.1 g.2.1
  steps-solve (suc (suc zero)) (r ∷ s ∷ u ∷ rows) g h = absurd g.2.2
  steps-solve (suc (suc (suc k))) (r ∷ rows) g h =
      let j = g.0 in
      let smaller = steps-solve (suc (suc k)) (map (reduced_row r j) rows)
      (subst (IsRegular (suc (suc k))) (sym (entries-reduced r j rows)) g.2)
      (subst (HaveLength (suc (suc k))) (sym (entries-reduced r j rows)) (lengths-reduced (suc (suc k)) r.0 j (entries rows) (leading-some r.0 j g.1).0 h.0 h.1)) in
      subst (λ o. AreSteps (suc (suc (suc k))) (r ∷ rows) (step_at (steps (suc (suc k))) r rows o)) (sym g.1)
      (step-solves (suc (suc k)) r rows j (steps (suc (suc k)) (map (reduced_row r j) rows)) h.0 h.1 g.1 smaller)

  -- ---- the coordinates, where t is not 0
  pub coordinates-solve : (t : ℚ) (ns : List carrier) (r : Row) → t ≢ zero_ℚ → SolvesTimes t ns r → SolvesRow (scaled A (reciprocal t) ns) r
  coordinates-solve t ns r n h =
      combine-scaled A (reciprocal t) r.0 ns ∙ ap (λ z. A.constant (reciprocal t) ⊠ z) h
      ∙ sym (A.ring.semiring.mul_assoc (A.constant (reciprocal t)) (A.constant t) r.1) ∙ ap (λ z. z ⊠ r.1) (inverse-left A t n) ∙ one_mul A.ring.semiring r.1

  pub coordinates-need : (t : ℚ) (ns : List carrier) (r : Row) → t ≢ zero_ℚ → SolvesRow (scaled A (reciprocal t) ns) r → SolvesTimes t ns r
  coordinates-need t ns r n h =
      sym (one_mul A.ring.semiring (combine A r.0 ns)) ∙ ap (λ z. z ⊠ combine A r.0 ns) (sym (inverse-left A t n))
      ∙ identity A.ring (A.constant (reciprocal t) ∷ A.constant t ∷ combine A r.0 ns ∷ []) ((var 0 ⊗ var 1) ⊗ var 2) (var 1 ⊗ (var 0 ⊗ var 2)) refl
      ∙ ap (λ z. A.constant t ⊠ z) (sym (combine-scaled A (reciprocal t) r.0 ns) ∙ h)
