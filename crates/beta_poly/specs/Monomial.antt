-- Monomials: finite maps from symbols to exponents, their products, their conjugates and their canonical order.
use Rattle.std.specs.Prelude.{◌≡◌, ℕ, ◌+◌, ◌≤◌, List, [], ◌∷◌, map}
use Rattle.std.specs.Cmp.{IsTotalOrder}
use Rattle.std.specs.Cmp.Lexicographic.{slice_cmp}
use Rattle.std.specs.Coded.{Coded, code_by, coded×, coded_list, coded_ℕ}
use Rattle.std.specs.Ordering.{nat_cmp, on, then_cmp, flip_args}
use Rattle.std.proofs.Common.{refl, sym, ap, ap₂, ◌∙◌, Ordering, Equal}
use Rattle.std.proofs.lemmas.Cmp.{nat_cmp_total, on_total, then_total, back_total, lists_total}
use mathlib.Core.HLevel.{Σ_prop_path}
use mathlib.Core.Path.{fun_ext}
use Rattle.exact_algebra.specs.Naturals.{nat_semiring, nat_zero}
use Rattle.exact_algebra.specs.Sums.{nat_equal, sum-map}
use Rattle.exact_algebra.specs.Formal.{Keys, IsCanonical, coefficient, canonical_fixed, eval}
use Rattle.exact_algebra.specs.Canon.{Monomials, Canon, of, of_whole, of_entries, nought, plus, plus_assoc, plus_comm, plus_nought, IsCanonical_prop, value, value-of, value-plus, same_values}
use Rattle.beta_poly.specs.declared.symbol.Symbol.{Symbol}
use Rattle.beta_poly.specs.Symbol.{symbol_keys, symbol_cmp, symbol_code, then_equal, conj_symbol, conj_symbol-conj_symbol}

-- powers of symbols
abbrev pub Powers : Type 0
Powers = List (Symbol × ℕ)

-- the symbols ascend, and no exponent is 0
abbrev pub IsMonomial : Powers → Type 0
IsMonomial = IsCanonical symbol_keys nat_semiring nat_zero

-- a monomial: a finite map from symbols to exponents of at least 1
abbrev pub Monomial : Type 0
Monomial = Canon symbol_keys nat_semiring nat_zero

-- the product of powers, in any order and with repeats
unfoldable pub monomial : Powers → Monomial
monomial = of symbol_keys nat_semiring nat_zero

-- the exponent of a symbol, 0 where it isn't there
abbrev pub exponent : Monomial → Symbol → ℕ
exponent m s = coefficient symbol_keys nat_semiring m.0 s

-- the monomial 1
abbrev pub one_monomial : Monomial
one_monomial = nought symbol_keys nat_semiring nat_zero

-- the product adds the exponents of each symbol
abbrev pub times_monomial : Monomial → Monomial → Monomial
times_monomial = plus symbol_keys nat_semiring nat_zero

-- a power of a symbol; the exponent 0 gives the monomial 1
abbrev pub power : Symbol → ℕ → Monomial
power s n = monomial ((s, n) ∷ [])

-- the conjugate: each symbol swapped with its conjugate
unfoldable pub conj_monomial : Monomial → Monomial
conj_monomial m = monomial (map (λ p. (conj_symbol p.0, p.1)) m.0)

-- each sum of exponents of the two is at most 1,000
abbrev pub ExponentsFit : Monomial → Monomial → Type 0
ExponentsFit m n = (s : Symbol) → exponent m s + exponent n s ≤ 1000

-- the power with the later symbol, or for one symbol with the smaller exponent, comes first
abbrev pub power_cmp : Symbol × ℕ → Symbol × ℕ → Ordering
power_cmp = then_cmp (flip_args (on (λ p. p.0) symbol_cmp)) (on (λ p. p.1) nat_cmp)

-- the descending lexicographic order of the vectors of exponents, read off the powers that aren't 0
abbrev pub powers_cmp : Powers → Powers → Ordering
powers_cmp = flip_args (slice_cmp power_cmp)

-- the canonical order: the monomial that comes first is `Less`
abbrev pub monomial_cmp : Monomial → Monomial → Ordering
monomial_cmp = on (λ m. m.0) powers_cmp

-- ---- laws

pub powers_total : IsTotalOrder powers_cmp
powers_total =
    back_total (lists_total (then_total (back_total (on_total (λ (p : Symbol × ℕ). p.0) symbol_keys.total)) (on_total (λ (p : Symbol × ℕ). p.1) nat_cmp_total)))

power_equal : (a b : Symbol × ℕ) → power_cmp a b ≡ Equal → a ≡ b
power_equal a b h =
    let both = then_equal (symbol_cmp b.0 a.0) (nat_cmp a.1 b.1) h in
    λ i. (sym (symbol_keys.equal b.0 a.0 both.0) i, nat_equal a.1 b.1 both.1 i)

slice_equal : (xs ys : Powers) → slice_cmp power_cmp xs ys ≡ Equal → xs ≡ ys
slice_equal [] [] h = refl
slice_equal [] (y ∷ ys) h = cc
slice_equal (x ∷ xs) [] h = cc
slice_equal (x ∷ xs) (y ∷ ys) h =
    let both = then_equal (power_cmp x y) (slice_cmp power_cmp xs ys) h in
    λ i. power_equal x y both.0 i ∷ slice_equal xs ys both.1 i

pub same_monomial : (m n : Monomial) → m.0 ≡ n.0 → m ≡ n
same_monomial m n = Σ_prop_path (IsCanonical_prop symbol_keys nat_semiring nat_zero)

pub monomial_equal : (m n : Monomial) → monomial_cmp m n ≡ Equal → m ≡ n
monomial_equal m n h = same_monomial m n (sym (slice_equal n.0 m.0 h))

pub monomial_total : IsTotalOrder monomial_cmp
monomial_total = on_total (λ (m : Monomial). m.0) powers_total

-- monomials as the keys of polynomials
abbrev pub monomial_keys : Keys
monomial_keys = record { carrier = Monomial; cmp = monomial_cmp; total = monomial_total; equal = monomial_equal }

-- monomials are a commutative monoid of ordered keys
abbrev pub monomials : Monomials
monomials = record {
  keys = monomial_keys;
  unit = one_monomial;
  times = times_monomial;
  times_assoc = plus_assoc symbol_keys nat_semiring nat_zero;
  times_comm = plus_comm symbol_keys nat_semiring nat_zero;
  times_unit = plus_nought symbol_keys nat_semiring nat_zero;
}

-- the powers of a monomial stand for it
pub monomial_back : (m : Monomial) → monomial m.0 ≡ m
unfolding monomial
monomial_back m = of_whole symbol_keys nat_semiring nat_zero m

-- canonical powers are those of the monomial that they stand for
pub monomial_powers : (p : Powers) → IsMonomial p → (monomial p).0 ≡ p
unfolding monomial
monomial_powers p h =
    of_entries symbol_keys nat_semiring nat_zero p ∙ canonical_fixed symbol_keys nat_semiring nat_zero p h

pub value-conj_monomial : (m : Monomial) (F : Symbol → ℕ) → value symbol_keys nat_semiring nat_zero (conj_monomial m) F ≡ value symbol_keys nat_semiring nat_zero m (λ s. F (conj_symbol s))
unfolding conj_monomial monomial eval
value-conj_monomial m F =
    value-of symbol_keys nat_semiring nat_zero (map (λ (p : Symbol × ℕ). (conj_symbol p.0, p.1)) m.0) F ∙ sum-map nat_semiring (λ (p : Symbol × ℕ). (conj_symbol p.0, p.1)) m.0 (λ e. nat_semiring.mul e.1 (F e.0))

pub conj_monomial-times : (m n : Monomial) → conj_monomial (times_monomial m n) ≡ times_monomial (conj_monomial m) (conj_monomial n)
conj_monomial-times m n =
    same_values symbol_keys nat_semiring nat_zero (conj_monomial (times_monomial m n)) (times_monomial (conj_monomial m) (conj_monomial n)) (λ F. value-conj_monomial (times_monomial m n) F ∙ value-plus symbol_keys nat_semiring nat_zero m n (λ s. F (conj_symbol s)) ∙ ap₂ ◌+◌ (sym (value-conj_monomial m F)) (sym (value-conj_monomial n F)) ∙ sym (value-plus symbol_keys nat_semiring nat_zero (conj_monomial m) (conj_monomial n) F))

pub conj_monomial-conj_monomial : (m : Monomial) → conj_monomial (conj_monomial m) ≡ m
conj_monomial-conj_monomial m =
    same_values symbol_keys nat_semiring nat_zero (conj_monomial (conj_monomial m)) m (λ F. value-conj_monomial (conj_monomial m) F ∙ value-conj_monomial m (λ s. F (conj_symbol s)) ∙ ap (value symbol_keys nat_semiring nat_zero m) (fun_ext (λ s. ap F (conj_symbol-conj_symbol s))))

-- a monomial is stored as its powers
abbrev pub monomial_code : Coded Monomial
monomial_code = code_by Powers (coded_list (coded× symbol_code coded_ℕ)) (λ m. m.0) monomial monomial_back
