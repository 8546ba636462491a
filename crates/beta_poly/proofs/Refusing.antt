-- The refusals of sums and multiples, from the pairs that a walk has tried.
use Rattle.std.proofs.Common.{◌≡◌, ℕ, ◌+◌, ◌≤◌, ◌∷◌, length, drop, sym, ap, ◌∙◌, subst, ◌⊎◌, Equal, refl, inl}
use Rattle.std.specs.Prelude.{◌≢◌}
use Rattle.exact_algebra.specs.Formal.{coefficient}
use Rattle.frac128.specs.Rational.{ℚ, zero_ℚ, ◌*ℚ◌}
use Rattle.frac128.specs.RationalLaws.{ring_ℚ}
use Rattle.frac128.specs.Frac.{SumFits, IsSmall}
use Rattle.beta_poly.specs.Monomial.{Monomial, monomial_keys}
use Rattle.beta_poly.specs.Polynomial.{Terms, IsPolynomial, polynomial, coefficient_of, zero_test}
use Rattle.beta_poly.specs.Refusals.{Has, SumsFit, IsFirstRefusedSum, MultiplesFit, IsFirstRefusedMultiple}
use Rattle.beta_poly.proofs.Steps.{nonzero_at, coefficient_at}
use Rattle.beta_poly.proofs.Views.{coefficients_are, not_zero}
use Rattle.beta_poly.proofs.Refused.{Checked, checked_before, checked_end}

abbrev at : Terms → Monomial → ℚ
at ts m = coefficient monomial_keys ring_ℚ.semiring ts m

-- what holds of the coefficients in two lists holds of those of their polynomials
of_lists : (Fits : ℚ → ℚ → Type 0) (a b : Terms) (m : Monomial) → IsPolynomial a → IsPolynomial b → (at a m ≢ zero_ℚ → at b m ≢ zero_ℚ → Fits (at a m) (at b m)) → Has (polynomial a) m → Has (polynomial b) m → Fits (coefficient_of (polynomial a) m) (coefficient_of (polynomial b) m)
of_lists Fits a b m ca cb f p q =
    subst (λ x. Fits x (coefficient_of (polynomial b) m)) (sym (coefficients_are a m ca))
    (subst (λ y. Fits (at a m) y) (sym (coefficients_are b m cb)) (f (λ z. p (coefficients_are a m ca ∙ z)) (λ z. q (coefficients_are b m cb ∙ z))))

pub sums_fit : (a b : Terms) (i j : ℕ) → IsPolynomial a → IsPolynomial b → (length a ≤ i) ⊎ (length b ≤ j) → Checked monomial_keys ring_ℚ.semiring zero_test SumFits a b i j → SumsFit (polynomial a) (polynomial b)
sums_fit a b i j ca cb used h m =
    of_lists SumFits a b m ca cb (checked_end monomial_keys ring_ℚ.semiring zero_test SumFits a b i j used h m)

-- the coefficient at the place i
coefficient_is : (a : Terms) (i : ℕ) (d : Monomial × ℚ) (k : Monomial) → drop i a ≡ d ∷ drop (i + 1) a → IsPolynomial a → k ≡ d.0 → d.1 ≡ coefficient_of (polynomial a) k
coefficient_is a i d k da ca e =
    sym (coefficients_are a k ca ∙ ap (at a) e ∙ coefficient_at monomial_keys ring_ℚ.semiring zero_test a i d da ca)

has_it : (a : Terms) (i : ℕ) (d : Monomial × ℚ) (k : Monomial) → drop i a ≡ d ∷ drop (i + 1) a → IsPolynomial a → k ≡ d.0 → Has (polynomial a) k
has_it a i d k da ca e z =
    not_zero d.1 (nonzero_at monomial_keys ring_ℚ.semiring zero_test a i d da ca) (coefficient_is a i d k da ca e ∙ z)

pub first_refused_sum : (a b : Terms) (i j : ℕ) (d e : Monomial × ℚ) → drop i a ≡ d ∷ drop (i + 1) a → drop j b ≡ e ∷ drop (j + 1) b → IsPolynomial a → IsPolynomial b → monomial_keys.cmp d.0 e.0 ≡ Equal → Checked monomial_keys ring_ℚ.semiring zero_test SumFits a b i j → (SumFits d.1 e.1 → ⊥) → IsFirstRefusedSum (polynomial a) (polynomial b) d.1 e.1
first_refused_sum a b i j d e da db ca cb o h not = record {
  at = d.0;
  in_first = has_it a i d d.0 da ca refl;
  in_second = has_it b j e d.0 db cb (monomial_keys.equal d.0 e.0 o);
  left = coefficient_is a i d d.0 da ca refl;
  right = coefficient_is b j e d.0 db cb (monomial_keys.equal d.0 e.0 o);
  refused = not;
  fits_before = λ m l. of_lists SumFits a b m ca cb (checked_before monomial_keys ring_ℚ.semiring zero_test SumFits a b i j d e da db ca cb h m l);
}

pub multiples_fit : (a : Terms) (c : ℚ) (i : ℕ) → IsPolynomial a → length a ≤ i → Checked monomial_keys ring_ℚ.semiring zero_test (λ x y. IsSmall (x *ℚ c)) a a i i → MultiplesFit (polynomial a) c
multiples_fit a c i ca used h m p =
    of_lists (λ x y. IsSmall (x *ℚ c)) a a m ca ca (checked_end monomial_keys ring_ℚ.semiring zero_test (λ x y. IsSmall (x *ℚ c)) a a i i (inl used) h m) p p

pub first_refused_multiple : (a : Terms) (c : ℚ) (i : ℕ) (d : Monomial × ℚ) → drop i a ≡ d ∷ drop (i + 1) a → IsPolynomial a → Checked monomial_keys ring_ℚ.semiring zero_test (λ x y. IsSmall (x *ℚ c)) a a i i → (IsSmall (d.1 *ℚ c) → ⊥) → IsFirstRefusedMultiple (polynomial a) c d.1 c
first_refused_multiple a c i d da ca h not = record {
  at = d.0;
  in_first = has_it a i d d.0 da ca refl;
  left = coefficient_is a i d d.0 da ca refl;
  right = refl;
  refused = not;
  fits_before = λ m l p. of_lists (λ x y. IsSmall (x *ℚ c)) a a m ca ca (checked_before monomial_keys ring_ℚ.semiring zero_test (λ x y. IsSmall (x *ℚ c)) a a i i d d da da ca ca h m l) p p;
}
