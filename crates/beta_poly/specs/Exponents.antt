-- Bounds on the exponents of monomials and polynomials, by which a caller shows that products keep to the limit.
use Rattle.std.specs.Prelude.{ℕ, ◌≤◌}
use Rattle.exact_algebra.specs.Formal.{AllKeys}
use Rattle.frac128.specs.Rational.{ℚ}
use Rattle.beta_poly.specs.declared.symbol.Symbol.{Symbol}
use Rattle.beta_poly.specs.Monomial.{Monomial, monomial_keys, exponent}
use Rattle.beta_poly.specs.Polynomial.{Polynomial}

-- each exponent of the monomial is at most n
abbrev pub IsWithin : ℕ → Monomial → Type 0
IsWithin n m = (s : Symbol) → exponent m s ≤ n

-- each exponent of each monomial is at most n
abbrev pub AllWithin : ℕ → Polynomial → Type 0
AllWithin n p = AllKeys monomial_keys ℚ (IsWithin n) p.0
