-- The values of monomials and polynomials where each symbol is given a fraction.
use Rattle.std.proofs.Common.{◌≡◌, ℕ, zero, suc, ◌+◌, [], ◌∷◌, eqb, eqb-true, Bool, true, false, refl, sym, ap, ap₂, ◌∙◌, arith, Ordering, Less, Equal, Greater}
use Rattle.exact_algebra.specs.Naturals.{nat_semiring, nat_zero}
use Rattle.exact_algebra.specs.Sums.{sum, sum-mul}
use mathlib.Core.Path.{fun_ext}
use Rattle.exact_algebra.specs.Formal.{eval, canonical_fixed}
use Rattle.exact_algebra.specs.Canon.{of_whole, of_entries, value, value-plus, value-mult}
use Rattle.exact_algebra.specs.Merge.{merge, merge_none, merge_rest, merge_less, merge_greater, merge_gone, merge_both, IsCanonical-merge}
use Rattle.exact_algebra.specs.Solver.{identity}
use Rattle.exact_algebra.specs.Solver.Term.{var, ◌⊗◌}
use Rattle.frac128.specs.Rational.{ℚ, one_ℚ, ◌+ℚ◌, ◌*ℚ◌}
use Rattle.frac128.specs.RationalLaws.{ring_ℚ, one-*ℚ, *ℚ-one, *ℚ_assoc}
use Rattle.beta_poly.specs.declared.symbol.Symbol.{Symbol}
use Rattle.beta_poly.specs.Symbol.{symbol_keys, symbol_cmp}
use Rattle.beta_poly.specs.Monomial.{Powers, Monomial, monomial_keys, monomials, times_monomial}
use Rattle.beta_poly.specs.Polynomial.{Polynomial, Terms, zero_test, add_poly, mul_poly, evaluate, to_power, powers_value}
use Rattle.beta_poly.specs.Laws.{EvaluationLaws}
use Rattle.beta_poly.proofs.Steps.{of-merge}

-- a factor of all weights
factor : (ts : Terms) (c : ℚ) (G : Monomial → ℚ) → eval monomial_keys ring_ℚ.semiring ts (λ k. c *ℚ G k) ≡ c *ℚ eval monomial_keys ring_ℚ.semiring ts G
unfolding eval
factor ts c G =
    ap (sum ring_ℚ.semiring ts) (fun_ext (λ e. identity ring_ℚ (e.1 ∷ c ∷ G e.0 ∷ []) (var 0 ⊗ (var 1 ⊗ var 2)) (var 1 ⊗ (var 0 ⊗ var 2)) refl)) ∙ sum-mul ring_ℚ.semiring c ts (λ e. e.1 *ℚ G e.0)

to_power-zero : (x : ℚ) → to_power x 0 ≡ one_ℚ
unfolding to_power
to_power-zero x = refl

to_power-add : (x : ℚ) (m n : ℕ) → to_power x (m + n) ≡ to_power x m *ℚ to_power x n
unfolding to_power
to_power-add x zero n = ap (to_power x) (none n) ∙ sym (one-*ℚ (to_power x n))
  where
    none : (k : ℕ) → 0 + k ≡ k
    none k = omega arith
to_power-add x (suc m) n = ap (to_power x) (next m n) ∙ ap (λ y. x *ℚ y) (to_power-add x m n) ∙ sym (*ℚ_assoc x (to_power x m) (to_power x n))
  where
    next : (j k : ℕ) → suc j + k ≡ suc (j + k)
    next j k = omega arith

module _ (F : Symbol → ℚ) where
  abbrev val : Powers → ℚ
  val p = powers_value F p

  abbrev one_power : Symbol × ℕ → ℚ
  one_power p = to_power (F p.0) p.1

  val-cons : (p : Symbol × ℕ) (ps : Powers) → val (p ∷ ps) ≡ one_power p *ℚ val ps
  unfolding powers_value
  val-cons p ps = refl

  val-none : val [] ≡ one_ℚ
  unfolding powers_value
  val-none = refl

  both_at : (b : Bool) (d e : Symbol × ℕ) (ds es : Powers) → eqb (d.1 + e.1) 0 ≡ b → symbol_cmp d.0 e.0 ≡ Equal → val (merge symbol_keys nat_semiring nat_zero ds es) ≡ val ds *ℚ val es → val (merge symbol_keys nat_semiring nat_zero (d ∷ ds) (e ∷ es)) ≡ val (d ∷ ds) *ℚ val (e ∷ es)
  both_at b d e ds es z o h = joined b z ∙ ap₂ ◌*ℚ◌ (to_power-add (F d.0) d.1 e.1 ∙ ap (λ s. one_power d *ℚ to_power (F s) e.1) (symbol_keys.equal d.0 e.0 o)) h ∙ identity ring_ℚ (one_power d ∷ one_power e ∷ val ds ∷ val es ∷ []) ((var 0 ⊗ var 1) ⊗ (var 2 ⊗ var 3)) ((var 0 ⊗ var 2) ⊗ (var 1 ⊗ var 3)) refl ∙ sym (ap₂ ◌*ℚ◌ (val-cons d ds) (val-cons e es))
    where
      joined : (c : Bool) → eqb (d.1 + e.1) 0 ≡ c → val (merge symbol_keys nat_semiring nat_zero (d ∷ ds) (e ∷ es)) ≡ to_power (F d.0) (d.1 + e.1) *ℚ val (merge symbol_keys nat_semiring nat_zero ds es)
      joined true c =
          ap val (merge_gone symbol_keys nat_semiring nat_zero d e ds es o c) ∙ sym (one-*ℚ (val (merge symbol_keys nat_semiring nat_zero ds es))) ∙ ap (λ y. y *ℚ val (merge symbol_keys nat_semiring nat_zero ds es)) (sym (to_power-zero (F d.0))) ∙ ap (λ n. to_power (F d.0) n *ℚ val (merge symbol_keys nat_semiring nat_zero ds es)) (sym (eqb-true (d.1 + e.1) 0 c))
      joined false c =
          ap val (merge_both symbol_keys nat_semiring nat_zero d e ds es o c) ∙ val-cons (d.0, d.1 + e.1) (merge symbol_keys nat_semiring nat_zero ds es)

  step_at : (o : Ordering) (d e : Symbol × ℕ) (ds es : Powers) → symbol_cmp d.0 e.0 ≡ o → val (merge symbol_keys nat_semiring nat_zero ds (e ∷ es)) ≡ val ds *ℚ val (e ∷ es) → val (merge symbol_keys nat_semiring nat_zero ds es) ≡ val ds *ℚ val es → val (merge symbol_keys nat_semiring nat_zero (d ∷ ds) es) ≡ val (d ∷ ds) *ℚ val es → val (merge symbol_keys nat_semiring nat_zero (d ∷ ds) (e ∷ es)) ≡ val (d ∷ ds) *ℚ val (e ∷ es)
  step_at Less d e ds es o l b g =
      ap val (merge_less symbol_keys nat_semiring nat_zero d e ds es o) ∙ val-cons d (merge symbol_keys nat_semiring nat_zero ds (e ∷ es)) ∙ ap (λ x. one_power d *ℚ x) l ∙ sym (*ℚ_assoc (one_power d) (val ds) (val (e ∷ es))) ∙ ap (λ x. x *ℚ val (e ∷ es)) (sym (val-cons d ds))
  step_at Greater d e ds es o l b g =
      ap val (merge_greater symbol_keys nat_semiring nat_zero d e ds es o) ∙ val-cons e (merge symbol_keys nat_semiring nat_zero (d ∷ ds) es) ∙ ap (λ x. one_power e *ℚ x) g ∙ identity ring_ℚ (one_power e ∷ val (d ∷ ds) ∷ val es ∷ []) (var 0 ⊗ (var 1 ⊗ var 2)) (var 1 ⊗ (var 0 ⊗ var 2)) refl ∙ ap (λ x. val (d ∷ ds) *ℚ x) (sym (val-cons e es))
  step_at Equal d e ds es o l b g = both_at (eqb (d.1 + e.1) 0) d e ds es refl o b

  val_into : (d : Symbol × ℕ) (ds q : Powers) → ((r : Powers) → val (merge symbol_keys nat_semiring nat_zero ds r) ≡ val ds *ℚ val r) → val (merge symbol_keys nat_semiring nat_zero (d ∷ ds) q) ≡ val (d ∷ ds) *ℚ val q
  val_into d ds [] h =
      ap val (merge_rest symbol_keys nat_semiring nat_zero (d ∷ ds)) ∙ sym (*ℚ-one (val (d ∷ ds))) ∙ ap (λ x. val (d ∷ ds) *ℚ x) (sym val-none)
  val_into d ds (e ∷ es) h =
      step_at (symbol_cmp d.0 e.0) d e ds es refl (h (e ∷ es)) (h es) (val_into d ds es h)

  val-merge : (p q : Powers) → val (merge symbol_keys nat_semiring nat_zero p q) ≡ val p *ℚ val q
  val-merge [] q =
      ap val (merge_none symbol_keys nat_semiring nat_zero q) ∙ sym (one-*ℚ (val q)) ∙ ap (λ x. x *ℚ val q) (sym val-none)
  val-merge (d ∷ ds) q = val_into d ds q (λ r. val-merge ds r)

  val-times : (m n : Monomial) → val (times_monomial m n).0 ≡ val m.0 *ℚ val n.0
  val-times m n =
      sym (ap (λ k. val k.0) (of-merge symbol_keys nat_semiring nat_zero m.0 n.0 ∙ ap₂ times_monomial (of_whole symbol_keys nat_semiring nat_zero m) (of_whole symbol_keys nat_semiring nat_zero n)))
      ∙ ap val (of_entries symbol_keys nat_semiring nat_zero (merge symbol_keys nat_semiring nat_zero m.0 n.0) ∙ canonical_fixed symbol_keys nat_semiring nat_zero (merge symbol_keys nat_semiring nat_zero m.0 n.0) (IsCanonical-merge symbol_keys nat_semiring nat_zero m.0 n.0 m.1 n.1))
      ∙ val-merge m.0 n.0

  as_value : (p : Polynomial) → evaluate F p ≡ value monomial_keys ring_ℚ.semiring zero_test p (λ m. val m.0)
  unfolding eval
  as_value p = refl

  pub evaluate-add : (p q : Polynomial) → evaluate F (add_poly p q) ≡ evaluate F p +ℚ evaluate F q
  evaluate-add p q =
      as_value (add_poly p q) ∙ value-plus monomial_keys ring_ℚ.semiring zero_test p q (λ m. val m.0) ∙ sym (ap₂ ◌+ℚ◌ (as_value p) (as_value q))

  pub evaluate-mul : (p q : Polynomial) → evaluate F (mul_poly p q) ≡ evaluate F p *ℚ evaluate F q
  unfolding sum eval
  evaluate-mul p q =
      as_value (mul_poly p q) ∙ value-mult monomials ring_ℚ.semiring zero_test p q (λ m. val m.0) ∙ ap (value monomial_keys ring_ℚ.semiring zero_test p) (fun_ext (λ j. inner j)) ∙ outer
    where
      inner : (j : Monomial) → value monomial_keys ring_ℚ.semiring zero_test q (λ k. val (times_monomial j k).0) ≡ val j.0 *ℚ evaluate F q
      inner j =
          ap (value monomial_keys ring_ℚ.semiring zero_test q) (fun_ext (λ k. val-times j k)) ∙ factor q.0 (val j.0) (λ k. val k.0)

      outer : value monomial_keys ring_ℚ.semiring zero_test p (λ j. val j.0 *ℚ evaluate F q) ≡ evaluate F p *ℚ evaluate F q
      outer =
          ap (value monomial_keys ring_ℚ.semiring zero_test p) (fun_ext (λ j. ring_ℚ.semiring.mul_comm (val j.0) (evaluate F q))) ∙ factor p.0 (evaluate F q) (λ j. val j.0) ∙ ring_ℚ.semiring.mul_comm (evaluate F q) (evaluate F p)

pub evaluation_laws : EvaluationLaws
evaluation_laws = record { add = evaluate-add; mul = evaluate-mul }
