-- Grids: bounds on the denominators and the sizes of a polynomial's coefficients, class by class.
use Rattle.std.specs.Prelude.{◌≡◌, ℕ, ◌^◌, ◌≤◌, ◌==◌, ◌&&◌, Bool, true, false, ℤ, pos, List, get_or, if◌then◌else◌}
use Rattle.std.specs.List.{All}
use Rattle.exact_algebra.specs.Naturals.{nat_semiring}
use Rattle.exact_algebra.specs.Sums.{sum}
use Rattle.frac128.specs.Rational.{ℚ, ratio, whole, zero_ℚ, abs_ℚ, ◌*ℚ◌, ◌≤ℚ◌}
use Rattle.frac128.specs.RationalLaws.{ring_ℚ}
use Rattle.beta_poly.specs.declared.symbol.Symbol.{Symbol}
use Rattle.beta_poly.specs.Monomial.{Monomial}
use Rattle.beta_poly.specs.Polynomial.{Polynomial, constant}

-- the kinds of symbols: gauge couplings, couplings of terms with fermions, and couplings of scalar terms
pub data Kind : Type 0 where
  Gauge : Kind
  FermionTerm : Kind
  ScalarTerm : Kind

abbrev pub same_kind : Kind → Kind → Bool
same_kind Gauge Gauge = true
same_kind FermionTerm FermionTerm = true
same_kind ScalarTerm ScalarTerm = true
same_kind a b = false

-- the class of a monomial: its degrees in the symbols of the three kinds
pub record Class : Type 0 where
  pub gauge : ℕ
  pub fermion : ℕ
  pub scalar : ℕ

abbrev pub same_class : Class → Class → Bool
same_class a b = (a.gauge == b.gauge) && (a.fermion == b.fermion) && (a.scalar == b.scalar)

-- the kind that the list gives a symbol and its conjugate, by their id; gauge beyond the list's end
abbrev pub kind_of : List Kind → Symbol → Kind
kind_of kinds s = get_or kinds s.id Gauge

-- the degree of a monomial in the symbols of a kind
abbrev pub degree : List Kind → Kind → Monomial → ℕ
degree kinds kind m = sum nat_semiring m.0 (λ p. if same_kind (kind_of kinds p.0) kind then p.1 else 0)

abbrev pub class_of : List Kind → Monomial → Class
class_of kinds m =
    record { gauge = degree kinds Gauge m; fermion = degree kinds FermionTerm m; scalar = degree kinds ScalarTerm m }

-- a grid gives each class a denominator D and a bound S, both at most 2^126
pub record Grid : Type 0 where
  pub den : Class → ℕ
  pub bound : Class → ℕ
  pub den_small : (k : Class) → den k ≤ 2 ^ 126
  pub bound_small : (k : Class) → bound k ≤ 2 ^ 126

-- a multiple of 1/D, for a D of at least 1
pub record IsMultiple (den : ℕ) (x : ℚ) : Type 0 where
  pub positive : 1 ≤ den
  pub multiple : ℤ
  pub is : x ≡ ratio multiple den

-- the sum of the sizes of the coefficients of a class
abbrev pub class_size : List Kind → Class → Polynomial → ℚ
class_size kinds k p =
    sum ring_ℚ.semiring p.0 (λ e. if same_class (class_of kinds e.0) k then abs_ℚ e.1 else zero_ℚ)

-- each coefficient is a multiple of its class's 1/D
abbrev pub HasMultiples : List Kind → Grid → Polynomial → Type 0
HasMultiples kinds grid p = All (λ e. IsMultiple (grid.den (class_of kinds e.0)) e.1) p.0

-- for each class, each coefficient is a multiple of 1/D, and D times the sum of their sizes is at most S
pub record IsOnGrid (kinds : List Kind) (grid : Grid) (p : Polynomial) : Type 0 where
  pub multiples : HasMultiples kinds grid p
  pub sizes : (k : Class) → (whole (pos (grid.den k)) *ℚ class_size kinds k p) ≤ℚ whole (pos (grid.bound k))

-- a fraction is on a grid as a polynomial of degree 0
pub record IsFractionOnGrid (kinds : List Kind) (grid : Grid) (x : ℚ) : Type 0 where
  pub on_grid : IsOnGrid kinds grid (constant x)

-- the sum of the sizes of the coefficients of a class in all polynomials of a list
abbrev pub list_size : List Kind → Class → List Polynomial → ℚ
list_size kinds k ps = sum ring_ℚ.semiring ps (class_size kinds k)

-- each polynomial is on the grid, and for each class D times the sum of the sizes in all of them is at most S
pub record IsWholeOnGrid (kinds : List Kind) (grid : Grid) (ps : List Polynomial) : Type 0 where
  pub each : All (IsOnGrid kinds grid) ps
  pub sizes : (k : Class) → (whole (pos (grid.den k)) *ℚ list_size kinds k ps) ≤ℚ whole (pos (grid.bound k))
