-- From the fields of monomials and polynomials to the finite maps that they stand for.
use Rattle.std.specs.Prelude.{◌≡◌, ℕ, ◌+◌, ◌<◌, ◌≤◌, map, false, true, eqb, Bool, if◌then◌else◌, [], ◌∷◌, length, drop}
use Rattle.std.specs.List.{refill}
use Rattle.std.proofs.Common.{List, ◌++◌, take, take_all, append-nil, refl, true≢false, sym, ap, ap₂, ◌∙◌, arith, subst, drop-cons, drop_of_length-le, Less, Greater}
use Rattle.exact_algebra.specs.Naturals.{nat_semiring}
use Rattle.exact_algebra.specs.Formal.{coefficient, strip_at, scaled, eval-scaled, eval}
use Rattle.exact_algebra.specs.Canon.{of-zero, same_values, value, value-of, value-mult}
use Rattle.exact_algebra.specs.Maps.{value-const, value-rename}
use Rattle.exact_algebra.specs.Sums.{sum-map}
use mathlib.Core.Path.{fun_ext}
use Rattle.beta_poly.specs.declared.symbol.Symbol.{Symbol}
use Rattle.beta_poly.specs.Symbol.{symbol_keys}
use Rattle.frac128.specs.Rational.{ℚ, zero_ℚ, ◌*ℚ◌}
use Rattle.frac128.specs.RationalLaws.{ring_ℚ}
use Rattle.beta_poly.specs.Polynomial.{Terms, Polynomial, IsPolynomial, polynomial, polynomial_terms, coefficient_of, is_zero_ℚ, is_zero_ℚ-zero, zero_test, kept, term, scale_poly, conj_poly, constant}
use Rattle.beta_poly.proofs.Steps.{term_kept}
use Rattle.beta_poly.specs.Monomial.{monomial_keys, monomials, one_monomial, times_monomial, conj_monomial, Powers, Monomial, IsMonomial, monomial, monomial_powers, powers_cmp, ExponentsFit}

-- the power that an index out of range would give
abbrev pub no_power : Symbol × ℕ
no_power = (record { id = 0; real = false; conj = false }, 0)

-- the powers of the view
pub powers_are : (p : Powers) (m : Monomial) → IsMonomial p → monomial p ≡ m → p ≡ m.0
powers_are p m h e = sym (monomial_powers p h) ∙ ap (λ x. x.0) e

pub sum_nonzero : (x y : ℕ) → eqb x 0 ≡ false → eqb (x + y) 0 ≡ false
sum_nonzero x y h = grind arith

-- the list that ends first comes later
pub longer_first : (a b : Powers) (i : ℕ) → i < length a → length b ≤ i → powers_cmp (drop i a) (drop i b) ≡ Less
longer_first a b i l e = ap₂ powers_cmp (drop-cons a i no_power l) (drop_of_length-le b e)

pub shorter_later : (a b : Powers) (i : ℕ) → i < length b → length a ≤ i → powers_cmp (drop i a) (drop i b) ≡ Greater
shorter_later a b i l e = ap₂ powers_cmp (drop_of_length-le a e) (drop-cons b i no_power l)

-- what the bound says of lists of powers
pub exponents_fit : (a b : Powers) (s : Symbol) → IsMonomial a → IsMonomial b → ExponentsFit (monomial a) (monomial b) → coefficient symbol_keys nat_semiring a s + coefficient symbol_keys nat_semiring b s ≤ 1000
exponents_fit a b s ha hb h =
    subst (λ n. n ≤ 1000) (ap₂ (λ p q. coefficient symbol_keys nat_semiring p s + coefficient symbol_keys nat_semiring q s) (monomial_powers a ha) (monomial_powers b hb)) (h s)

-- the terms of the view
pub terms_are : (ts : Terms) (p : Polynomial) → IsPolynomial ts → polynomial ts ≡ p → ts ≡ p.0
terms_are ts p h e = sym (polynomial_terms ts h) ∙ ap (λ x. x.0) e

-- the coefficients of canonical terms
pub coefficients_are : (ts : Terms) (m : Monomial) → IsPolynomial ts → coefficient_of (polynomial ts) m ≡ coefficient monomial_keys ring_ℚ.semiring ts m
coefficients_are ts m h = ap (λ q. coefficient monomial_keys ring_ℚ.semiring q m) (polynomial_terms ts h)

pub not_zero : (x : ℚ) → is_zero_ℚ x ≡ false → x ≡ zero_ℚ → ⊥
not_zero x h e = true≢false (sym is_zero_ℚ-zero ∙ ap is_zero_ℚ (sym e) ∙ h)

kept_at : (b : Bool) (m : Monomial) (c : ℚ) → (if b then [] else (m, c) ∷ []) ≡ strip_at monomial_keys ring_ℚ.semiring zero_test b (m, c) []
unfolding strip_at
kept_at true m c = refl
kept_at false m c = refl

pub kept_is : (m : Monomial) (c : ℚ) → kept m c ≡ term_kept monomial_keys ring_ℚ.semiring zero_test m c
kept_is m c = kept_at (is_zero_ℚ c) m c

kept-term_at : (b : Bool) (m : Monomial) (c : ℚ) → is_zero_ℚ c ≡ b → polynomial (if b then [] else (m, c) ∷ []) ≡ term m c
unfolding polynomial
kept-term_at true m c h = sym (of-zero monomial_keys ring_ℚ.semiring zero_test m c (zero_test.yes c h))
kept-term_at false m c h = refl

-- one term, kept where its coefficient isn't 0
pub kept-term : (m : Monomial) (c : ℚ) → polynomial (kept m c) ≡ term m c
kept-term m c = kept-term_at (is_zero_ℚ c) m c refl

-- the terms of a multiple
pub polynomial-scaled : (c : ℚ) (ts : Terms) → polynomial (scaled monomial_keys ring_ℚ.semiring zero_test c ts) ≡ scale_poly c (polynomial ts)
unfolding polynomial
polynomial-scaled c ts =
    same_values monomial_keys ring_ℚ.semiring zero_test (polynomial (scaled monomial_keys ring_ℚ.semiring zero_test c ts)) (scale_poly c (polynomial ts)) (λ F. value-of monomial_keys ring_ℚ.semiring zero_test (scaled monomial_keys ring_ℚ.semiring zero_test c ts) F ∙ eval-scaled monomial_keys ring_ℚ.semiring zero_test c ts F ∙ ap (λ s. c *ℚ s) (sym (value-of monomial_keys ring_ℚ.semiring zero_test ts F)) ∙ sym (value-mult monomials ring_ℚ.semiring zero_test (constant c) (polynomial ts) F ∙ value-const monomials ring_ℚ.semiring zero_test c (λ j. value monomial_keys ring_ℚ.semiring zero_test (polynomial ts) (λ k. F (times_monomial j k))) ∙ ap (λ G. c *ℚ value monomial_keys ring_ℚ.semiring zero_test (polynomial ts) G) (fun_ext (λ k. ap F (monomials.times_comm one_monomial k ∙ monomials.times_unit k)))))

pub kept-zero : (m : Monomial) (c : ℚ) → c ≡ zero_ℚ → kept m c ≡ []
kept-zero m c h = ap (λ b. if b then [] else (m, c) ∷ []) (ap is_zero_ℚ h ∙ is_zero_ℚ-zero)

is_other : (b : Bool) (c : ℚ) → is_zero_ℚ c ≡ b → (c ≡ zero_ℚ → ⊥) → is_zero_ℚ c ≡ false
is_other true c h other = absurd (other (zero_test.yes c h))
is_other false c h other = h

pub kept-other : (m : Monomial) (c : ℚ) → (c ≡ zero_ℚ → ⊥) → kept m c ≡ (m, c) ∷ []
kept-other m c other = ap (λ b. if b then [] else (m, c) ∷ []) (is_other (is_zero_ℚ c) c refl other)

-- the conjugates of the terms stand for the conjugate
pub polynomial-conjugate : (p : Polynomial) → polynomial (map (λ e. (conj_monomial e.0, e.1)) p.0) ≡ conj_poly p
unfolding polynomial eval
polynomial-conjugate p =
    same_values monomial_keys ring_ℚ.semiring zero_test (polynomial (map (λ e. (conj_monomial e.0, e.1)) p.0)) (conj_poly p) (λ F. value-of monomial_keys ring_ℚ.semiring zero_test (map (λ e. (conj_monomial e.0, e.1)) p.0) F ∙ sum-map ring_ℚ.semiring (λ (e : Monomial × ℚ). (conj_monomial e.0, e.1)) p.0 (λ e. e.1 *ℚ F e.0) ∙ sym (value-rename monomials ring_ℚ.semiring zero_test conj_monomial p F))

-- a slice that was written whole
pub refilled : {X : Type 0} (xs ws : List X) → length ws ≡ length xs → refill (length xs) xs ws ≡ ws
refilled xs ws e =
    ap (take (length xs)) (ap (λ r. ws ++ r) (drop_of_length-le xs (omega (arith, e))) ∙ append-nil ws) ∙ take_all (length xs) ws (omega (arith, e))
