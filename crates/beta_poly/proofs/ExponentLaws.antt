-- Bounds on exponents: of powers, products and conjugates, of sums, multiples and products of polynomials.
-- A crate above shows the condition of `Mono::times` by `exponents_fit_within` and that of `Poly::mul` by `products_fit_within`.
use Rattle.std.specs.Prelude.{◌≡◌, ◌≢◌, ℕ, zero, suc, ◌+◌, ◌≤◌, ◌<◌, List, [], ◌∷◌, ◌++◌, map, length, get_or, drop}
use Rattle.std.proofs.Common.{refl, sym, ap, ap₂, ◌∙◌, subst, arith, Ordering, Less, Equal, Greater, true≢false, false}
use Rattle.exact_algebra.specs.Ring.{Semiring, ZeroTest, zero_add}
use Rattle.exact_algebra.specs.Naturals.{nat_semiring, nat_zero}
use Rattle.exact_algebra.specs.Sums.{where_equal}
use Rattle.exact_algebra.specs.Formal.{Keys, Formal, AllKeys, IsCanonical, coefficient, coefficient-cons, coefficient-eval, unit_at}
use Rattle.exact_algebra.specs.Canon.{Canon, of, of_whole, of-append, of-products, value-of, value-plus, value-nought, plus, products, same_values, eval-single}
use Rattle.exact_algebra.specs.Maps.{zero_entries, value-const}
use Rattle.frac128.specs.Rational.{ℚ, ◌*ℚ◌}
use Rattle.frac128.specs.RationalLaws.{ring_ℚ}
use Rattle.beta_poly.specs.declared.symbol.Symbol.{Symbol}
use Rattle.beta_poly.specs.Symbol.{symbol_keys, symbol_cmp}
use Rattle.beta_poly.specs.Monomial.{one_monomial, Monomial, monomial_keys, monomials, monomial, exponent, power, times_monomial, ExponentsFit}
use Rattle.beta_poly.specs.Polynomial.{Polynomial, Terms, zero_test, polynomial, term, zero_poly, add_poly, mul_poly, scale_poly, constant, all_products, ProductsFit}
use Rattle.beta_poly.specs.Exponents.{IsWithin, AllWithin}
use Rattle.beta_poly.proofs.Steps.{at_number, nonzero_at, coefficient_at, coefficient_none}
use Rattle.beta_poly.proofs.Gathered.{all_keys}

-- ---- monomials

-- the exponents of a product are sums
pub exponent-times : (m n : Monomial) (s : Symbol) → exponent (times_monomial m n) s ≡ exponent m s + exponent n s
exponent-times m n s =
    coefficient-eval symbol_keys nat_semiring (times_monomial m n).0 s ∙ value-plus symbol_keys nat_semiring nat_zero m n (unit_at symbol_keys nat_semiring s) ∙ ap₂ ◌+◌ (sym (coefficient-eval symbol_keys nat_semiring m.0 s)) (sym (coefficient-eval symbol_keys nat_semiring n.0 s))

at_most_at : (o : Ordering) (n : ℕ) → where_equal nat_semiring o n + 0 ≤ n
at_most_at Less n = omega arith
at_most_at Equal n = omega arith
at_most_at Greater n = omega arith

coefficient_one : (s t : Symbol) (n : ℕ) → coefficient symbol_keys nat_semiring ((t, n) ∷ []) s ≡ where_equal nat_semiring (symbol_cmp s t) n + 0
coefficient_one s t n =
    coefficient-cons symbol_keys nat_semiring nat_zero (t, n) [] s ∙ ap (λ k. where_equal nat_semiring (symbol_cmp s t) n + k) (coefficient_none symbol_keys nat_semiring nat_zero s)

-- the exponents of a list of powers are those of its monomial
exponent_of : (p : List (Symbol × ℕ)) (s : Symbol) → exponent (monomial p) s ≡ coefficient symbol_keys nat_semiring p s
unfolding monomial
exponent_of p s =
    coefficient-eval symbol_keys nat_semiring (monomial p).0 s ∙ value-of symbol_keys nat_semiring nat_zero p (unit_at symbol_keys nat_semiring s) ∙ sym (coefficient-eval symbol_keys nat_semiring p s)

pub IsWithin-power : (s : Symbol) (n : ℕ) → IsWithin n (power s n)
IsWithin-power s n t =
    subst (λ k. k ≤ n) (sym (exponent_of ((s, n) ∷ []) t ∙ coefficient_one t s n)) (at_most_at (symbol_cmp t s) n)

pub IsWithin-times : (a b : ℕ) (m n : Monomial) → IsWithin a m → IsWithin b n → IsWithin (a + b) (times_monomial m n)
IsWithin-times a b m n h k s = subst (λ x. x ≤ a + b) (sym (exponent-times m n s)) (both (exponent m s) (exponent n s) (h s) (k s))
  where
    both : (x y : ℕ) → x ≤ a → y ≤ b → x + y ≤ a + b
    both x y p q = omega arith

-- bounds that make at most 1,000 together
pub exponents_fit_within : (a b : ℕ) (m n : Monomial) → a + b ≤ 1000 → IsWithin a m → IsWithin b n → ExponentsFit m n
exponents_fit_within a b m n l h k s = both (exponent m s) (exponent n s) (h s) (k s)
  where
    both : (x y : ℕ) → x ≤ a → y ≤ b → x + y ≤ 1000
    both x y p q = omega arith

-- ---- polynomials: the monomials of a sum of terms are among those of the terms

module _ (K : Keys) (R : Semiring) (Z : ZeroTest R) (P : K.carrier → Type 0) where
  met_at : (o : Ordering) (k : K.carrier) (e : K.carrier × R.carrier) (es : Formal K R) → K.cmp k e.0 ≡ o → P e.0 → (coefficient K R es k ≢ R.zero → P k) → R.add (where_equal R o e.1) (coefficient K R es k) ≢ R.zero → P k
  met_at Less k e es h p rest n = rest (λ z. n (zero_add R (coefficient K R es k) ∙ z))
  met_at Equal k e es h p rest n = subst P (sym (K.equal k e.0 h)) p
  met_at Greater k e es h p rest n = rest (λ z. n (zero_add R (coefficient K R es k) ∙ z))

  -- a key with a coefficient other than 0 is one of the list
  met : (es : Formal K R) (k : K.carrier) → AllKeys K R.carrier P es → coefficient K R es k ≢ R.zero → P k
  met [] k h n = absurd (n (none k))
    where
      none : (k : K.carrier) → coefficient K R [] k ≡ R.zero
      none k = coefficient_none K R Z k
  met (e ∷ es) k h n =
      met_at (K.cmp k e.0) k e es refl h.0 (met es k h.1) (λ z. n (coefficient-cons K R Z e es k ∙ z))

  not_zero : (c : R.carrier) → Z.is_zero c ≡ false → c ≢ R.zero
  not_zero c h z = true≢false (sym Z.at_zero ∙ ap Z.is_zero (sym z) ∙ h)

  -- the keys of a canonical list have coefficients other than 0
  each : (es : Formal K R) → IsCanonical K R Z es → ((k : K.carrier) → coefficient K R es k ≢ R.zero → P k) → AllKeys K R.carrier P es
  each es c h = all_keys K R.carrier P es (λ i d l. by_place i d (at_number es i d l))
    where
      by_place : (i : ℕ) (d : K.carrier × R.carrier) → drop i es ≡ get_or es i d ∷ drop (i + 1) es → P (get_or es i d).0
      by_place i d there =
          h (get_or es i d).0 (λ z. not_zero (get_or es i d).1 (nonzero_at K R Z es i (get_or es i d) there c) (sym (coefficient_at K R Z es i (get_or es i d) there c) ∙ z))

  -- the keys of a map are among those of any list that it stands for
  pub keys_of : (es : Formal K R) → AllKeys K R.carrier P es → AllKeys K R.carrier P (of K R Z es).0
  keys_of es h =
      each (of K R Z es).0 (of K R Z es).1 (λ k n. met es k h (λ z. n (coefficient-eval K R (of K R Z es).0 k ∙ value-of K R Z es (unit_at K R k) ∙ sym (coefficient-eval K R es k) ∙ z)))

  pub keys_append : (p q : Formal K R) → AllKeys K R.carrier P p → AllKeys K R.carrier P q → AllKeys K R.carrier P (p ++ q)
  keys_append [] q h k = k
  keys_append (e ∷ es) q h k = (h.0, keys_append es q h.1 k)

  pub keys_plus : (x y : Canon K R Z) → AllKeys K R.carrier P x.0 → AllKeys K R.carrier P y.0 → AllKeys K R.carrier P (plus K R Z x y).0
  keys_plus x y h k =
      subst (λ m. AllKeys K R.carrier P m.0) (of-append K R Z x.0 y.0 ∙ ap₂ (plus K R Z) (of_whole K R Z x) (of_whole K R Z y)) (keys_of (x.0 ++ y.0) (keys_append x.0 y.0 h k))

pub AllWithin-zero : (n : ℕ) → AllWithin n zero_poly
AllWithin-zero n = subst (AllKeys monomial_keys ℚ (IsWithin n)) (sym (zero_entries monomials ring_ℚ.semiring zero_test)) tt

pub AllWithin-term : (n : ℕ) (m : Monomial) (c : ℚ) → IsWithin n m → AllWithin n (term m c)
unfolding polynomial
AllWithin-term n m c h = keys_of monomial_keys ring_ℚ.semiring zero_test (IsWithin n) ((m, c) ∷ []) (h, tt)

pub AllWithin-add : (n : ℕ) (p q : Polynomial) → AllWithin n p → AllWithin n q → AllWithin n (add_poly p q)
AllWithin-add n = keys_plus monomial_keys ring_ℚ.semiring zero_test (IsWithin n)

row_within : (a b : ℕ) (d : Monomial × ℚ) (q : Terms) → IsWithin a d.0 → AllKeys monomial_keys ℚ (IsWithin b) q → AllKeys monomial_keys ℚ (IsWithin (a + b)) (map (λ e. (times_monomial d.0 e.0, d.1 *ℚ e.1)) q)
row_within a b d [] h k = tt
row_within a b d (e ∷ es) h k = (IsWithin-times a b d.0 e.0 h k.0, row_within a b d es h k.1)

products_within : (a b : ℕ) (p q : Terms) → AllKeys monomial_keys ℚ (IsWithin a) p → AllKeys monomial_keys ℚ (IsWithin b) q → AllKeys monomial_keys ℚ (IsWithin (a + b)) (all_products p q)
unfolding products
products_within a b [] q h k = tt
products_within a b (d ∷ ds) q h k =
    keys_append monomial_keys ring_ℚ.semiring zero_test (IsWithin (a + b)) (map (λ e. (times_monomial d.0 e.0, d.1 *ℚ e.1)) q) (all_products ds q) (row_within a b d q h.0 k) (products_within a b ds q h.1 k)

pub AllWithin-mul : (a b : ℕ) (p q : Polynomial) → AllWithin a p → AllWithin b q → AllWithin (a + b) (mul_poly p q)
AllWithin-mul a b p q h k =
    subst (λ m. AllKeys monomial_keys ℚ (IsWithin (a + b)) m.0) (of-products monomials ring_ℚ.semiring zero_test p.0 q.0 ∙ ap₂ mul_poly (of_whole monomial_keys ring_ℚ.semiring zero_test p) (of_whole monomial_keys ring_ℚ.semiring zero_test q)) (keys_of monomial_keys ring_ℚ.semiring zero_test (IsWithin (a + b)) (all_products p.0 q.0) (products_within a b p.0 q.0 h k))

pub IsWithin-one : (n : ℕ) → IsWithin n one_monomial
IsWithin-one n s = subst (λ k. k ≤ n) (sym none) (omega arith)
  where
    none : exponent one_monomial s ≡ 0
    none = coefficient-eval symbol_keys nat_semiring one_monomial.0 s ∙ value-nought symbol_keys nat_semiring nat_zero (unit_at symbol_keys nat_semiring s)

constant_term : (c : ℚ) → constant c ≡ term one_monomial c
unfolding polynomial
constant_term c =
    same_values monomial_keys ring_ℚ.semiring zero_test (constant c) (term one_monomial c) (λ F. value-const monomials ring_ℚ.semiring zero_test c F ∙ sym (value-of monomial_keys ring_ℚ.semiring zero_test ((one_monomial, c) ∷ []) F ∙ eval-single monomial_keys ring_ℚ.semiring zero_test one_monomial c F))

pub AllWithin-scale : (n : ℕ) (c : ℚ) (p : Polynomial) → AllWithin n p → AllWithin n (scale_poly c p)
AllWithin-scale n c p h =
    subst (λ k. AllWithin k (scale_poly c p)) (plain n) (AllWithin-mul 0 n (constant c) p (subst (AllWithin 0) (sym (constant_term c)) (AllWithin-term 0 one_monomial c (IsWithin-one 0))) h)
  where
    plain : (k : ℕ) → 0 + k ≡ k
    plain k = omega arith

all_at : (P : Monomial → Type 0) (ts : Terms) → AllKeys monomial_keys ℚ P ts → (i : ℕ) (d : Monomial × ℚ) → i < length ts → P (get_or ts i d).0
all_at P [] h i d l = absurd (omega arith)
all_at P (e ∷ es) h zero d l = h.0
all_at P (e ∷ es) h (suc i) d l = all_at P es h.1 i d (omega arith)

-- bounds that make at most 1,000 together
pub products_fit_within : (a b : ℕ) (p q : Polynomial) → a + b ≤ 1000 → AllWithin a p → AllWithin b q → ProductsFit p q
products_fit_within a b p q l h k i d li j e lj =
    exponents_fit_within a b (get_or p.0 i d).0 (get_or q.0 j e).0 l (all_at (IsWithin a) p.0 h i d li) (all_at (IsWithin b) q.0 k j e lj)

-- the same of values that are known by an equation
pub within_power : (n : ℕ) (m : Monomial) (s : Symbol) → m ≡ power s n → IsWithin n m
within_power n m s e = subst (IsWithin n) (sym e) (IsWithin-power s n)

pub within_times : (a b : ℕ) (m n both : Monomial) → both ≡ times_monomial m n → IsWithin a m → IsWithin b n → IsWithin (a + b) both
within_times a b m n both e h k = subst (IsWithin (a + b)) (sym e) (IsWithin-times a b m n h k)
