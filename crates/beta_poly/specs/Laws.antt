-- The laws of polynomials, of their conjugates and coefficients, and of the order of monomials.
use Rattle.std.specs.Prelude.{◌≡◌, ◌<◌}
use Rattle.std.proofs.Common.{Less, Equal}
use Rattle.frac128.specs.Rational.{ℚ, zero_ℚ, one_ℚ, ◌+ℚ◌, ◌*ℚ◌}
use Rattle.beta_poly.specs.declared.symbol.Symbol.{Symbol}
use Rattle.beta_poly.specs.Symbol.{symbol_cmp}
use Rattle.beta_poly.specs.Monomial.{Monomial, exponent, monomial_cmp}
use Rattle.beta_poly.specs.Polynomial.{Polynomial, poly_ring, zero_poly, add_poly, mul_poly, constant, scale_poly, conj_poly, coefficient_of, evaluate}

-- polynomials are a commutative ring
pub record PolynomialRingLaws : Type 0 where
  pub add_assoc : (p q r : Polynomial) → add_poly (add_poly p q) r ≡ add_poly p (add_poly q r)
  pub add_comm : (p q : Polynomial) → add_poly p q ≡ add_poly q p
  pub add_zero : (p : Polynomial) → add_poly p zero_poly ≡ p
  pub add_neg : (p : Polynomial) → add_poly p (poly_ring.neg p) ≡ zero_poly
  pub mul_assoc : (p q r : Polynomial) → mul_poly (mul_poly p q) r ≡ mul_poly p (mul_poly q r)
  pub mul_comm : (p q : Polynomial) → mul_poly p q ≡ mul_poly q p
  pub mul_one : (p : Polynomial) → mul_poly p (constant one_ℚ) ≡ p
  pub mul_add : (p q r : Polynomial) → mul_poly p (add_poly q r) ≡ add_poly (mul_poly p q) (mul_poly p r)

-- fractions stand among the polynomials with their sums and products
pub record ConstantLaws : Type 0 where
  pub zero : constant zero_ℚ ≡ zero_poly
  pub add : (c d : ℚ) → constant (c +ℚ d) ≡ add_poly (constant c) (constant d)
  pub mul : (c d : ℚ) → constant (c *ℚ d) ≡ mul_poly (constant c) (constant d)

-- the conjugate is an involution that respects fractions, sums and products
pub record ConjugateLaws : Type 0 where
  pub twice : (p : Polynomial) → conj_poly (conj_poly p) ≡ p
  pub add : (p q : Polynomial) → conj_poly (add_poly p q) ≡ add_poly (conj_poly p) (conj_poly q)
  pub mul : (p q : Polynomial) → conj_poly (mul_poly p q) ≡ mul_poly (conj_poly p) (conj_poly q)
  pub scale : (c : ℚ) (p : Polynomial) → conj_poly (scale_poly c p) ≡ scale_poly c (conj_poly p)

-- polynomials are known by their coefficients, and a sum adds them
pub record CoefficientLaws : Type 0 where
  pub same : (p q : Polynomial) → ((m : Monomial) → coefficient_of p m ≡ coefficient_of q m) → p ≡ q
  pub zero : (m : Monomial) → coefficient_of zero_poly m ≡ zero_ℚ
  pub add : (p q : Polynomial) (m : Monomial) → coefficient_of (add_poly p q) m ≡ coefficient_of p m +ℚ coefficient_of q m
  pub scale : (c : ℚ) (p : Polynomial) (m : Monomial) → coefficient_of (scale_poly c p) m ≡ c *ℚ coefficient_of p m

-- the value where each symbol is given a fraction respects sums and products
pub record EvaluationLaws : Type 0 where
  pub add : (F : Symbol → ℚ) (p q : Polynomial) → evaluate F (add_poly p q) ≡ evaluate F p +ℚ evaluate F q
  pub mul : (F : Symbol → ℚ) (p q : Polynomial) → evaluate F (mul_poly p q) ≡ evaluate F p *ℚ evaluate F q

-- at the first symbol where the exponents differ, that of m is greater
pub record Precedes (m n : Monomial) : Type 0 where
  pub at : Symbol
  pub greater : exponent n at < exponent m at
  pub same_before : (s : Symbol) → symbol_cmp s at ≡ Less → exponent m s ≡ exponent n s

-- the canonical order is the descending lexicographic order of the vectors of exponents
pub record OrderLaws : Type 0 where
  pub precedes : (m n : Monomial) → monomial_cmp m n ≡ Less → Precedes m n
  pub less : (m n : Monomial) → Precedes m n → monomial_cmp m n ≡ Less
  pub same : (m n : Monomial) → monomial_cmp m n ≡ Equal → m ≡ n
