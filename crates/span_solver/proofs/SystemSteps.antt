-- Lemmas for the steps that solve a system.
use Rattle.std.proofs.Common.{◌≡◌, ℕ, zero, suc, ◌+◌, ◌-◌, ◌<◌, ◌≤◌, refl, sym, ◌∙◌, ap, ap₂, subst, arith, List, [], ◌∷◌, length, drop, get_or, Some, add-one}
use Rattle.std.specs.Prelude.{map}
use Rattle.std.specs.List.{insert}
use Rattle.exact_algebra.specs.Ring.{zero_add, one_mul}
use Rattle.frac128.specs.Rational.{ℚ, one_ℚ, ◌*ℚ◌}
use Rattle.beta_poly.specs.Polynomial.{Polynomial, poly_ring, zero_poly, add_poly, mul_poly, scale_poly}
use Rattle.span_solver.specs.Algebra.{polynomials}
use Rattle.span_solver.specs.Combine.{without, inserted, entry, combine, scaled, combine-none_right}
use Rattle.span_solver.specs.Elimination.{leading, reduced, HaveLength, lengths-reduced, leading-some}
use Rattle.span_solver.specs.Systems.{entries, reduced_row, IsRegular, steps, step_back, step_at}
use Rattle.span_solver.proofs.Steps.{entry-at}

-- p * v - a * w
abbrev pub poly_step : ℚ → Polynomial → ℚ → Polynomial → Polynomial
poly_step p v a w = add_poly (scale_poly p v) (poly_ring.neg (scale_poly a w))

pub reduced_row-is : (r s : List ℚ × Polynomial) (j : ℕ) (es : List ℚ) (v : Polynomial) (p a : ℚ) → es ≡ reduced r.0 j s.0 → j < length r.0 → length s.0 ≡ length r.0 → p ≡ get_or r.0 j p → a ≡ get_or s.0 j a → v ≡ poly_step p s.1 a r.1 → (es, v) ≡ reduced_row polynomials r j s
reduced_row-is r s j es v p a e l m h k f =
    let same : v ≡ poly_step (entry j r.0) s.1 (entry j s.0) r.1 =
    f ∙ ap₂ (λ x y. poly_step x s.1 y r.1) (sym (entry-at j r.0 p l h)) (sym (entry-at j s.0 a (omega arith) k)) in
    λ i. (e i, same i)

pub length-at : (k : ℕ) (rows : List (List ℚ × Polynomial)) (i : ℕ) (r : List ℚ × Polynomial) → HaveLength k (entries polynomials rows) → i < length rows → r ≡ get_or rows i r → length r.0 ≡ k
length-at k [] i r h l e = absurd (omega arith)
length-at k (s ∷ rows) zero r h l e = ap (λ x. length x.0) e ∙ h.0
length-at k (s ∷ rows) (suc i) r h l e = length-at k rows i r h.1 (omega arith) e

inserted-insert : {X : Type 0} (j : ℕ) (y : X) (xs : List X) → insert xs j y ≡ inserted j y xs
inserted-insert zero y [] = refl
inserted-insert zero y (x ∷ xs) = refl
inserted-insert (suc j) y [] = refl
inserted-insert (suc j) y (x ∷ xs) = ap (λ zs. x ∷ zs) (inserted-insert j y xs)

pub once : (sum : Polynomial) → scale_poly one_ℚ sum ≡ sum
once sum = ap (λ c. mul_poly c sum) polynomials.constant_one ∙ one_mul poly_ring.semiring sum

pub step_back-is : (r : List ℚ × Polynomial) (j : ℕ) (n t p : ℚ) (own sum : Polynomial) (ns : List Polynomial) (others : List ℚ) (many all : List Polynomial) → j < length r.0 → p ≡ get_or r.0 j p → n ≡ p *ℚ t → others ≡ without j r.0 → sum ≡ combine polynomials others ns → own ≡ poly_step t r.1 one_ℚ sum → many ≡ scaled polynomials p ns → all ≡ insert many j own
    → (n, all) ≡ step_back polynomials r j (t, ns)
step_back-is r j n t p own sum ns others many all l e f g h o m a =
    let lead : p ≡ entry j r.0 = sym (entry-at j r.0 p l e) in
    let number : n ≡ entry j r.0 *ℚ t = f ∙ ap (λ x. x *ℚ t) lead in
    let own_is : own ≡ add_poly (scale_poly t r.1) (poly_ring.neg (combine polynomials (without j r.0) ns)) = o ∙ ap (λ y. add_poly (scale_poly t r.1) (poly_ring.neg y)) (once sum ∙ h ∙ ap (λ qs. combine polynomials qs ns) g) in
    let all_is : all ≡ inserted j (add_poly (scale_poly t r.1) (poly_ring.neg (combine polynomials (without j r.0) ns))) (scaled polynomials (entry j r.0) ns) =
    a ∙ inserted-insert j own many ∙ ap₂ (λ x xs. inserted j x xs) own_is (m ∙ ap (λ x. scaled polynomials x ns) lead) in
    λ i. (number i, all_is i)

-- the first of regular rows
pub record IsFirstPivot (k : ℕ) (rows : List (List ℚ × Polynomial)) (r : List ℚ × Polynomial) (j : ℕ) : Type 0 where
  pub within : j < length r.0
  pub many : length r.0 ≡ k
  pub later : HaveLength (length r.0) (entries polynomials (drop 1 rows))
  pub regular : IsRegular (k - 1) (entries polynomials (map (reduced_row polynomials r j) (drop 1 rows)))
  pub smaller : HaveLength (k - 1) (entries polynomials (map (reduced_row polynomials r j) (drop 1 rows)))

entries-reduced : (r : List ℚ × Polynomial) (j : ℕ) (rows : List (List ℚ × Polynomial)) → entries polynomials (map (reduced_row polynomials r j) rows) ≡ map (reduced r.0 j) (entries polynomials rows)
entries-reduced r j [] = refl
entries-reduced r j (s ∷ rows) = ap (λ es. reduced r.0 j s.0 ∷ es) (entries-reduced r j rows)

regular-leads : (k : ℕ) (r : List ℚ × Polynomial) (rows : List (List ℚ × Polynomial)) (j : ℕ) → leading r.0 ≡ Some j → IsRegular (suc k) (entries polynomials (r ∷ rows)) → IsRegular k (map (reduced r.0 j) (entries polynomials rows))
regular-leads k r rows j s g =
    let same : Some g.0 ≡ Some j = sym g.1 ∙ s in
    let at : g.0 ≡ j = cc same in
    subst (λ i. IsRegular k (map (reduced r.0 i) (entries polynomials rows))) at g.2

pub first_pivot-of : (k : ℕ) (rows : List (List ℚ × Polynomial)) (r : List ℚ × Polynomial) (j : ℕ) → 0 < k → IsRegular k (entries polynomials rows) → HaveLength k (entries polynomials rows) → r ≡ get_or rows 0 r → leading r.0 ≡ Some j → IsFirstPivot k rows r j
first_pivot-of zero rows r j l g h e s = absurd (omega arith)
first_pivot-of (suc k) [] r j l g h e s = absurd g
first_pivot-of (suc k) (x ∷ rows) r j l g h e s = subst (λ y. IsFirstPivot (suc k) (x ∷ rows) y j) (sym e) at_head
  where
    at_head : IsFirstPivot (suc k) (x ∷ rows) x j
    at_head =
        let leads : leading x.0 ≡ Some j = ap (λ y. leading y.0) (sym e) ∙ s in
        let lead = leading-some x.0 j leads in
        let less : suc k - 1 ≡ k = omega arith in
        record {
          within = lead.0;
          many = h.0;
          later = subst (λ n. HaveLength n (entries polynomials rows)) (sym h.0) h.1;
          regular = subst (λ n. IsRegular n (entries polynomials (map (reduced_row polynomials x j) rows))) (sym less)
              (subst (IsRegular k) (sym (entries-reduced x j rows)) (regular-leads k x rows j leads g));
          smaller = subst (λ n. HaveLength n (entries polynomials (map (reduced_row polynomials x j) rows))) (sym less)
              (subst (HaveLength k) (sym (entries-reduced x j rows)) (lengths-reduced k x.0 j (entries polynomials rows) lead.0 h.0 h.1));
        }

pub steps-at : (k : ℕ) (rows : List (List ℚ × Polynomial)) (r : List ℚ × Polynomial) (j : ℕ) → 2 < k → 0 < length rows → r ≡ get_or rows 0 r → leading r.0 ≡ Some j → steps polynomials k rows ≡ step_back polynomials r j (steps polynomials (k - 1) (map (reduced_row polynomials r j) (drop 1 rows)))
steps-at zero rows r j l m e s = absurd (omega arith)
steps-at (suc zero) rows r j l m e s = absurd (omega arith)
steps-at (suc (suc zero)) rows r j l m e s = absurd (omega arith)
steps-at (suc (suc (suc k))) [] r j l m e s = absurd (omega arith)
steps-at (suc (suc (suc k))) (x ∷ rows) r j l m e s =
    let leads : leading x.0 ≡ Some j = ap (λ y. leading y.0) (sym e) ∙ s in
    let less : suc (suc (suc k)) - 1 ≡ suc (suc k) = omega arith in
    ap (step_at polynomials (steps polynomials (suc (suc k))) x rows) leads
    ∙ ap₂ (λ y n. step_back polynomials y j (steps polynomials n (map (reduced_row polynomials y j) rows))) (sym e) (sym less)

-- ---- the sum, one product at a time
combine-drop : (i : ℕ) (qs : List ℚ) (xs : List Polynomial) (q : ℚ) (x : Polynomial) → i < length qs → i < length xs → q ≡ get_or qs i q → x ≡ get_or xs i x → combine polynomials (drop i qs) (drop i xs) ≡ add_poly (scale_poly q x) (combine polynomials (drop (suc i) qs) (drop (suc i) xs))
combine-drop i [] xs q x l m e f = absurd (omega arith)
combine-drop i (p ∷ qs) [] q x l m e f = absurd (omega arith)
combine-drop zero (p ∷ qs) (y ∷ xs) q x l m e f = ap₂ (λ a b. add_poly (scale_poly a b) (combine polynomials qs xs)) (sym e) (sym f)
combine-drop (suc i) (p ∷ qs) (y ∷ xs) q x l m e f = combine-drop i qs xs q x (omega arith) (omega arith) e f

pub combine-more : (i : ℕ) (qs : List ℚ) (xs : List Polynomial) (q : ℚ) (x sum product next : Polynomial) → length qs ≡ length xs → i < length xs → q ≡ get_or qs i q → x ≡ get_or xs i x → add_poly sum (combine polynomials (drop i qs) (drop i xs)) ≡ combine polynomials qs xs → product ≡ scale_poly q x → next ≡ add_poly sum product
    → add_poly next (combine polynomials (drop (i + 1) qs) (drop (i + 1) xs)) ≡ combine polynomials qs xs
combine-more i qs xs q x sum product next l m e f h g n =
    ap₂ (λ y k. add_poly y (combine polynomials (drop k qs) (drop k xs))) (n ∙ ap (λ y. add_poly sum y) g) (add-one i)
    ∙ poly_ring.semiring.add_assoc sum (scale_poly q x) (combine polynomials (drop (suc i) qs) (drop (suc i) xs))
    ∙ ap (λ y. add_poly sum y) (sym (combine-drop i qs xs q x (omega arith) m e f)) ∙ h

pub combine-start : (qs : List ℚ) (xs : List Polynomial) (sum : Polynomial) → sum ≡ zero_poly → add_poly sum (combine polynomials qs xs) ≡ combine polynomials qs xs
combine-start qs xs sum e = ap (λ y. add_poly y (combine polynomials qs xs)) e ∙ zero_add poly_ring.semiring (combine polynomials qs xs)

pub combine-end : (i : ℕ) (qs : List ℚ) (xs : List Polynomial) (sum : Polynomial) → length xs ≤ i → length qs ≤ i → add_poly sum (combine polynomials (drop i qs) (drop i xs)) ≡ combine polynomials qs xs → sum ≡ combine polynomials qs xs
combine-end i qs xs sum l m h = sym (poly_ring.semiring.add_zero sum) ∙ ap (λ y. add_poly sum y) (sym (past i qs xs m)) ∙ h
  where
    past : (k : ℕ) (ps : List ℚ) (ys : List Polynomial) → length ps ≤ k → combine polynomials (drop k ps) (drop k ys) ≡ zero_poly
    past k [] ys l = none_left k ys
      where
        none_left : (n : ℕ) (zs : List Polynomial) → combine polynomials (drop n []) (drop n zs) ≡ zero_poly
        none_left zero zs = refl
        none_left (suc n) zs = refl
    past zero (p ∷ ps) ys l = absurd (omega arith)
    past (suc k) (p ∷ ps) [] l = combine-none_right polynomials (drop k ps)
    past (suc k) (p ∷ ps) (y ∷ ys) l = past k ps ys (omega arith)
