-- The printed text of polynomials, for any style of their parts.
use Rattle.std.specs.Prelude.{ℕ, ◌==◌, ◌&&◌, if◌then◌else◌, ℤ, pos, negsuc, unsigned_abs, List, [], ◌∷◌, ◌++◌, codes}
use Rattle.std.specs.List.{flat_map}
use Rattle.frac128.specs.Rational.{ℚ}
use Rattle.beta_poly.specs.declared.symbol.Symbol.{Symbol}
use Rattle.beta_poly.specs.Monomial.{Powers, Monomial}
use Rattle.beta_poly.specs.Polynomial.{Terms}
use Rattle.derive_core.specs.declared.betas.Target.{Target}

-- what stands between two parts of a term, a positive fraction, and a symbol with its power
pub record Style : Type 0 where
  pub times : List ℕ
  pub ratio : ℕ → ℕ → List ℕ
  pub factor : List Target → Symbol × ℕ → List ℕ

-- ---- terms

-- one factor more
abbrev pub next_factor : Style → List Target → Symbol × ℕ → List ℕ
next_factor style targets power = style.times ++ style.factor targets power

-- the size of a coefficient before a factor, left out where it is 1
abbrev pub size_text : Style → ℕ → ℕ → List ℕ
size_text style num den = if num == 1 && den == 1 then [] else style.ratio num den ++ style.times

-- a term without its sign: the size of its coefficient and its factors
abbrev pub unsigned_text : Style → List Target → ℚ → Powers → List ℕ
unsigned_text style targets c [] = style.ratio (unsigned_abs c.num) c.den
unsigned_text style targets c (power ∷ powers) =
    size_text style (unsigned_abs c.num) c.den ++ style.factor targets power ++ flat_map (next_factor style targets) powers

-- the sign of a first term, `-` where it is negative, and that of a later one
abbrev pub sign_text : ℤ → List ℕ
sign_text (pos n) = []
sign_text (negsuc n) = codes "-"

abbrev pub joint_text : ℤ → List ℕ
joint_text (pos n) = codes " + "
joint_text (negsuc n) = codes " - "

abbrev pub first_term : Style → List Target → Monomial × ℚ → List ℕ
first_term style targets e = sign_text e.1.num ++ unsigned_text style targets e.1 e.0.0

abbrev pub next_term : Style → List Target → Monomial × ℚ → List ℕ
next_term style targets e = joint_text e.1.num ++ unsigned_text style targets e.1 e.0.0

-- ---- polynomials

-- a polynomial's terms in their order, or `0`
abbrev pub sum_text : Style → List Target → Terms → List ℕ
sum_text style targets [] = codes "0"
sum_text style targets (e ∷ es) = first_term style targets e ++ flat_map (next_term style targets) es
