-- Products of numbers fit.
use Rattle.std.specs.Prelude.{◌≡◌, ◌≤◌, ◌+◌, ℕ, zero, suc, List, [], ◌∷◌, length, slice_get, Some, IsTrue}
use Rattle.std.specs.List.{All}
use Rattle.std.proofs.Common.{ap, ◌∙◌, arith, nat_eq}
use Rattle.exact_algebra.specs.Naturals.{nat_semiring, nat_zero}
use Rattle.exact_algebra.specs.Formal.{coefficient, coefficient-nil}
use Rattle.frac128.specs.Rational.{ℚ}
use Rattle.beta_poly.specs.declared.symbol.Symbol.{Symbol}
use Rattle.beta_poly.specs.Symbol.{symbol_keys}
use Rattle.beta_poly.specs.Monomial.{Monomial}
use Rattle.beta_poly.specs.Polynomial.{Polynomial, ProductsFit}
use Rattle.sparse_tensor.specs.Tensor.{Tensor, entries_of}
use Rattle.sparse_tensor.specs.Constants.{IsConstant, AllConstant}

first_of : (ts : List (Monomial × ℚ)) (m : Monomial × ℚ) → length ts ≡ 1 → slice_get ts 0 ≡ Some m → length m.0.0 ≡ 0 → All (λ d. length d.0.0 ≡ 0) ts
first_of [] m l s h i d k = absurd (omega arith)
first_of (t ∷ []) m l s h zero d k = let e : t ≡ m = cc in ap (λ x. length x.0.0) e ∙ h
first_of (t ∷ []) m l s h (suc i) d k = absurd (omega arith)
first_of (t ∷ u ∷ us) m l s h i d k = absurd (omega arith)

pub constant_of : (p : Polynomial) (m : Monomial × ℚ) → length p.0 ≡ 1 → slice_get p.0 0 ≡ Some m → length m.0.0 ≡ 0 → IsConstant p
constant_of p m l s h = first_of p.0 m l s h

no_symbol : (ps : List (Symbol × ℕ)) (s : Symbol) → length ps ≡ 0 → coefficient symbol_keys nat_semiring ps s ≡ 0
no_symbol [] s h = coefficient-nil symbol_keys nat_semiring nat_zero s
no_symbol (p ∷ ps) s h = absurd (omega arith)

none_fits : (m n : ℕ) → m ≡ 0 → n ≡ 0 → m + n ≤ 1000
none_fits m n h k = omega arith

pub constants_fit : (s t : Tensor) → AllConstant s → AllConstant t → All (λ a. All (λ b. ProductsFit a.1 b.1) (entries_of t)) (entries_of s)
constants_fit s t hs ht i a l j b k i' d l' j' e k' x =
    none_fits _ _ (no_symbol _ x (hs i a l i' d l')) (no_symbol _ x (ht j b k j' e k'))

pub no_powers : (n : ℕ) → IsTrue (nat_eq n 0) → n ≡ 0
no_powers n h = grind arith
