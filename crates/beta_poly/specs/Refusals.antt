-- Where a sum, a multiple or a product of polynomials is refused, and the pair of fractions that the refusal carries.
use Rattle.std.specs.Prelude.{◌≡◌, ◌≢◌, ⊤, ◌⊎◌}
use Rattle.std.proofs.Common.{Less}
use Rattle.frac128.specs.Rational.{ℚ, zero_ℚ, ◌*ℚ◌}
use Rattle.frac128.specs.Frac.{SumFits, IsSmall}
use Rattle.beta_poly.specs.declared.fault.PolyFault.{PolyFault}
use Rattle.beta_poly.specs.declared.fault.PolyFault.TheVariants.{Overflow, NoMemory}
use Rattle.beta_poly.specs.Monomial.{Monomial, monomial_cmp}
use Rattle.beta_poly.specs.Polynomial.{Polynomial, coefficient_of}

-- the polynomial has the monomial
abbrev pub Has : Polynomial → Monomial → Type 0
Has p m = coefficient_of p m ≢ zero_ℚ

-- the sum of the two coefficients of each monomial that both have fits
abbrev pub SumsFit : Polynomial → Polynomial → Type 0
SumsFit p q = (m : Monomial) → Has p m → Has q m → SumFits (coefficient_of p m) (coefficient_of q m)

-- x and y are the coefficients of the first monomial that both have where their sum doesn't fit
pub record IsFirstRefusedSum (p q : Polynomial) (x y : ℚ) : Type 0 where
  pub at : Monomial
  pub in_first : Has p at
  pub in_second : Has q at
  pub left : x ≡ coefficient_of p at
  pub right : y ≡ coefficient_of q at
  pub refused : SumFits x y → ⊥
  pub fits_before : (m : Monomial) → monomial_cmp m at ≡ Less → Has p m → Has q m → SumFits (coefficient_of p m) (coefficient_of q m)

-- a refused sum carries that pair; want of memory says nothing
abbrev pub IsSumRefusal : Polynomial → Polynomial → PolyFault → Type 0
IsSumRefusal p q (Overflow pair) = IsFirstRefusedSum p q pair.a pair.b
IsSumRefusal p q NoMemory = ⊤

-- the multiple of each coefficient fits
abbrev pub MultiplesFit : Polynomial → ℚ → Type 0
MultiplesFit p c = (m : Monomial) → Has p m → IsSmall (coefficient_of p m *ℚ c)

-- x is the coefficient of the first monomial whose multiple by y = c doesn't fit
pub record IsFirstRefusedMultiple (p : Polynomial) (c x y : ℚ) : Type 0 where
  pub at : Monomial
  pub in_first : Has p at
  pub left : x ≡ coefficient_of p at
  pub right : y ≡ c
  pub refused : IsSmall (x *ℚ y) → ⊥
  pub fits_before : (m : Monomial) → monomial_cmp m at ≡ Less → Has p m → IsSmall (coefficient_of p m *ℚ c)

-- a refused multiple carries that pair; want of memory says nothing
abbrev pub IsMultipleRefusal : Polynomial → ℚ → PolyFault → Type 0
IsMultipleRefusal p c (Overflow pair) = IsFirstRefusedMultiple p c pair.a pair.b
IsMultipleRefusal p c NoMemory = ⊤

-- a refused sum of several polynomials carries two fractions whose sum doesn't fit; want of memory says nothing
abbrev pub IsRefusedSum : PolyFault → Type 0
IsRefusedSum (Overflow pair) = SumFits pair.a pair.b → ⊥
IsRefusedSum NoMemory = ⊤

-- the sum or the product of the two fractions doesn't fit
abbrev pub IsRefusedPair : ℚ → ℚ → Type 0
IsRefusedPair x y = (SumFits x y → ⊥) ⊎ (IsSmall (x *ℚ y) → ⊥)

-- a refused product carries such a pair; want of memory says nothing
abbrev pub IsProductRefusal : PolyFault → Type 0
IsProductRefusal (Overflow pair) = IsRefusedPair pair.a pair.b
IsProductRefusal NoMemory = ⊤
