-- Polynomials: finite maps from monomials to non-zero fractions, a commutative ring with an involution.
use Rattle.std.specs.Prelude.{◌≡◌, ℕ, zero, suc, Bool, true, if◌then◌else◌, eqb, ℤ, pos, unsigned_abs, List, [], ◌∷◌}
use Rattle.std.specs.List.{All}
use Rattle.std.specs.Coded.{Coded, code_by, coded×, coded_list}
use Rattle.std.proofs.Common.{refl, ◌∙◌, eqb-true, arith}
use Rattle.std.proofs.lemmas.Int.{ints}
use Rattle.exact_algebra.specs.Ring.{CommutativeRing, ZeroTest, IsSemiringMap, involution_map}
use Rattle.exact_algebra.specs.Sums.{sum}
use Rattle.exact_algebra.specs.Formal.{IsCanonical, coefficient, canonical_fixed}
use Rattle.exact_algebra.specs.Canon.{Canon, of, of_whole, of_entries, nought, plus, mult, products, key_monoid}
use Rattle.exact_algebra.specs.Maps.{rename, rename-rename, rename-IsSemiringMap, const, canon_ring}
use Rattle.frac128.specs.Rational.{ℚ, code_ℚ, zero_ℚ, one_ℚ, ◌*ℚ◌}
use Rattle.frac128.specs.RationalLaws.{ring_ℚ, zero_num}
use Rattle.beta_poly.specs.declared.symbol.Symbol.{Symbol}
use Rattle.beta_poly.specs.Monomial.{Monomial, monomial_keys, monomials, monomial_code, conj_monomial, conj_monomial-times, conj_monomial-conj_monomial, ExponentsFit}

-- whether a fraction is 0
unfoldable pub is_zero_ℚ : ℚ → Bool
is_zero_ℚ x = eqb (unsigned_abs x.num) 0

size_zero : (z : ℤ) → unsigned_abs z ≡ 0 → z ≡ pos 0
size_zero z h = omega (arith, ints)

pub is_zero_ℚ-yes : (x : ℚ) → is_zero_ℚ x ≡ true → x ≡ zero_ℚ
unfolding is_zero_ℚ
is_zero_ℚ-yes x h = zero_num x (size_zero x.num (eqb-true (unsigned_abs x.num) 0 h))

pub is_zero_ℚ-zero : is_zero_ℚ zero_ℚ ≡ true
unfolding is_zero_ℚ
is_zero_ℚ-zero = refl

-- the test for the fraction 0
abbrev pub zero_test : ZeroTest ring_ℚ.semiring
zero_test = record { is_zero = is_zero_ℚ; yes = is_zero_ℚ-yes; at_zero = is_zero_ℚ-zero }

-- terms: monomials with coefficients
abbrev pub Terms : Type 0
Terms = List (Monomial × ℚ)

-- the monomials ascend in the canonical order, and no coefficient is 0
abbrev pub IsPolynomial : Terms → Type 0
IsPolynomial = IsCanonical monomial_keys ring_ℚ.semiring zero_test

-- a polynomial: a finite map from monomials to fractions other than 0
abbrev pub Polynomial : Type 0
Polynomial = Canon monomial_keys ring_ℚ.semiring zero_test

-- the sum of terms, in any order and with repeats
unfoldable pub polynomial : Terms → Polynomial
polynomial = of monomial_keys ring_ℚ.semiring zero_test

-- the ring of polynomials, in which `identity poly_ring` calculates
abbrev pub poly_ring : CommutativeRing
poly_ring = canon_ring monomials ring_ℚ zero_test

-- the polynomial 0
abbrev pub zero_poly : Polynomial
zero_poly = nought monomial_keys ring_ℚ.semiring zero_test

-- the sum adds the coefficients of each monomial
abbrev pub add_poly : Polynomial → Polynomial → Polynomial
add_poly = plus monomial_keys ring_ℚ.semiring zero_test

-- the product: the sum of all products of a term of the one and a term of the other
abbrev pub mul_poly : Polynomial → Polynomial → Polynomial
mul_poly = mult monomials ring_ℚ.semiring zero_test

-- one term; the coefficient 0 gives the polynomial 0
abbrev pub term : Monomial → ℚ → Polynomial
term m c = polynomial ((m, c) ∷ [])

-- a fraction as a polynomial of degree 0
abbrev pub constant : ℚ → Polynomial
constant = const monomials ring_ℚ.semiring zero_test

-- the multiple by a fraction
abbrev pub scale_poly : ℚ → Polynomial → Polynomial
scale_poly c p = mul_poly (constant c) p

-- the conjugate: each complex symbol swapped with its conjugate
abbrev pub conj_poly : Polynomial → Polynomial
conj_poly = rename monomials ring_ℚ.semiring zero_test conj_monomial

-- the coefficient at a monomial, 0 where it isn't there
abbrev pub coefficient_of : Polynomial → Monomial → ℚ
coefficient_of p m = coefficient monomial_keys ring_ℚ.semiring p.0 m

-- each sum of exponents in a product of a monomial of the one and a monomial of the other is at most 1,000
abbrev pub TermsFit : Terms → Terms → Type 0
TermsFit p q = All (λ d. All (λ e. ExponentsFit d.0 e.0) q) p

abbrev pub ProductsFit : Polynomial → Polynomial → Type 0
ProductsFit p q = TermsFit p.0 q.0

-- the products of each term of the one and each term of the other
abbrev pub all_products : Terms → Terms → Terms
all_products = products monomials ring_ℚ.semiring zero_test

-- a term, or nothing where its coefficient is 0
abbrev pub kept : Monomial → ℚ → Terms
kept m c = if is_zero_ℚ c then [] else (m, c) ∷ []

-- a power of a fraction
unfoldable pub to_power : ℚ → ℕ → ℚ
to_power x zero = one_ℚ
to_power x (suc n) = x *ℚ to_power x n

-- the value of powers of symbols where each symbol is given a fraction
unfoldable pub powers_value : (Symbol → ℚ) → List (Symbol × ℕ) → ℚ
powers_value F [] = one_ℚ
powers_value F (p ∷ ps) = to_power (F p.0) p.1 *ℚ powers_value F ps

-- the value of a polynomial where each symbol is given a fraction
abbrev pub evaluate : (Symbol → ℚ) → Polynomial → ℚ
evaluate F p = sum ring_ℚ.semiring p.0 (λ e. e.1 *ℚ powers_value F e.0.0)

-- ---- laws

-- the conjugate respects 0, 1, sums and products
pub conj_poly-IsSemiringMap : IsSemiringMap poly_ring.semiring poly_ring.semiring conj_poly
conj_poly-IsSemiringMap =
    rename-IsSemiringMap monomials ring_ℚ.semiring zero_test conj_monomial
    (involution_map (key_monoid monomials) conj_monomial conj_monomial-conj_monomial conj_monomial-times)

-- the conjugate of the conjugate is the polynomial itself
pub conj_poly-conj_poly : (p : Polynomial) → conj_poly (conj_poly p) ≡ p
conj_poly-conj_poly = rename-rename monomials ring_ℚ.semiring zero_test conj_monomial conj_monomial-conj_monomial

-- canonical terms are those of the polynomial that they stand for
pub polynomial_terms : (ts : Terms) → IsPolynomial ts → (polynomial ts).0 ≡ ts
unfolding polynomial
polynomial_terms ts h =
    of_entries monomial_keys ring_ℚ.semiring zero_test ts ∙ canonical_fixed monomial_keys ring_ℚ.semiring zero_test ts h

-- the terms of a polynomial stand for it
pub polynomial_back : (p : Polynomial) → polynomial p.0 ≡ p
unfolding polynomial
polynomial_back = of_whole monomial_keys ring_ℚ.semiring zero_test

-- a polynomial is stored as its terms
abbrev pub polynomial_code : Coded Polynomial
polynomial_code =
    code_by Terms (coded_list (coded× monomial_code code_ℚ)) (λ p. p.0) polynomial polynomial_back
