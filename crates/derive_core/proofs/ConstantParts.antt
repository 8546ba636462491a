-- Polynomials that are numbers, and tensors of numbers.
use Rattle.std.specs.Prelude.{◌≡◌, ◌≢◌, ◌<◌, ◌+◌, ◌==◌, ℕ, zero, suc, Bool, true, false, List, [], ◌∷◌, length, get_or}
use Rattle.std.proofs.Common.{drop, drop-cons, refl, sym, ap, ap₂, subst, ◌∙◌, arith, true≢false, inl, inr}
use mathlib.Core.Path.{fun_ext}
use Rattle.std.proofs.lemmas.Bool.{cases_Bool}
use Rattle.std.proofs.lemmas.Bool.Decides.{nat_tests}
use Rattle.std.proofs.lemmas.Cmp.{tied_itself}
use Rattle.std.proofs.lemmas.List.Elements.{All-nil, All-cons, All-same}
use Rattle.exact_algebra.specs.Naturals.{nat_semiring, nat_zero}
use Rattle.exact_algebra.specs.Canon.{nought-of}
use Rattle.exact_algebra.specs.Formal.{coefficient-cons, coefficient-nil, coefficient-eval, unit_at}
use Rattle.exact_algebra.specs.Maps.{const-zero, value-const}
use Rattle.exact_algebra.specs.Sums.{where_equal, where_equal-apart}
use Rattle.exact_algebra.specs.TensorContraction.{places_keys, places_cmp, places_equal}
use Rattle.frac128.specs.Rational.{ℚ, zero_ℚ, one_ℚ, ◌*ℚ◌}
use Rattle.frac128.specs.RationalLaws.{ring_ℚ}
use Rattle.beta_poly.specs.Symbol.{symbol_keys}
use Rattle.beta_poly.specs.Monomial.{Monomial, monomial, monomial_powers, monomial_keys, monomials, one_monomial}
use Rattle.beta_poly.specs.Polynomial.{Polynomial, poly_ring, polynomial, polynomial_terms, zero_test, is_zero_ℚ, zero_poly, add_poly, constant, coefficient_of}
use Rattle.beta_poly.proofs.Steps.{coefficient_at}
use Rattle.sparse_tensor.specs.Constants.{IsConstant, AllConstant}
use Rattle.sparse_tensor.specs.Tensor.{Entries, Tensor, HasRank, HasValues, poly_zero_test, entries_of, rank_of, value, value_in}
use Rattle.term_expand.proofs.Constants.{constant_term}
use Rattle.derive_core.proofs.BlockNames.{nat_same}

-- ---- the number of a polynomial

number_of : (c : ℚ) → coefficient_of (constant c) one_monomial ≡ c
number_of c =
    coefficient-eval monomial_keys ring_ℚ.semiring (constant c).0 one_monomial
    ∙ value-const monomials ring_ℚ.semiring zero_test c (unit_at monomial_keys ring_ℚ.semiring one_monomial)
    ∙ ap (λ o. c *ℚ where_equal ring_ℚ.semiring o one_ℚ) (tied_itself monomial_keys.total one_monomial)
    ∙ ring_ℚ.semiring.mul_one c

zero_number : constant zero_ℚ ≡ zero_poly
zero_number = const-zero monomials ring_ℚ.semiring zero_test

number_of_zero : coefficient_of zero_poly one_monomial ≡ zero_ℚ
number_of_zero = ap (λ p. coefficient_of p one_monomial) (sym zero_number) ∙ number_of zero_ℚ

-- ---- no symbols

one_is : one_monomial ≡ monomial []
unfolding monomial
one_is = nought-of symbol_keys nat_semiring nat_zero

one_powers : length one_monomial.0 ≡ 0
one_powers = ap (λ m. length m.0) one_is ∙ ap length (monomial_powers [] (record { ascending = tt; nonzero = tt }))

zero_is : zero_poly ≡ polynomial []
unfolding polynomial
zero_is = nought-of monomial_keys ring_ℚ.semiring zero_test

zero_terms : zero_poly.0 ≡ []
zero_terms = ap (λ p. p.0) zero_is ∙ polynomial_terms [] (record { ascending = tt; nonzero = tt })

one_term : (c : ℚ) → is_zero_ℚ c ≡ false → (constant c).0 ≡ (one_monomial, c) ∷ []
one_term c other = ap (λ p. p.0) (sym (constant_term c)) ∙ polynomial_terms ((one_monomial, c) ∷ []) (record { ascending = (tt, tt); nonzero = (other, tt) })

abbrev HasNoSymbol : Monomial × ℚ → Type 0
HasNoSymbol d = length d.0.0 ≡ 0

constant_by : (c : ℚ) (b : Bool) → is_zero_ℚ c ≡ b → IsConstant (constant c)
constant_by c true none =
    All-same HasNoSymbol (constant c).0 [] (ap (λ p. p.0) (ap constant (zero_test.yes c none) ∙ zero_number) ∙ zero_terms) (All-nil HasNoSymbol)
constant_by c false other =
    All-same HasNoSymbol (constant c).0 ((one_monomial, c) ∷ []) (one_term c other) (All-cons HasNoSymbol (one_monomial, c) [] one_powers (All-nil HasNoSymbol))

is_constant : (c : ℚ) → IsConstant (constant c)
is_constant c = constant_by c (is_zero_ℚ c) refl

-- ---- tensors of numbers

rank_at : (rank : ℕ) (es : Entries) (i : ℕ) (d : List ℕ × Polynomial) → HasRank rank es → i < length es → length (get_or es i d).0 ≡ rank
rank_at rank [] i d keys inside = absurd (omega (arith, inside))
rank_at rank (e ∷ es) zero d keys inside = keys.0
rank_at rank (e ∷ es) (suc i) d keys inside = rank_at rank es i d keys.1 (omega (arith, inside))

-- each value of a tensor with numbers as values is a number
pub all_constant : (rank : ℕ) (g : List ℕ → ℚ) (t : Tensor) → HasValues rank (λ key. constant (g key)) t → AllConstant t
all_constant rank g t has i d inside =
    let e : List ℕ × Polynomial = get_or (entries_of t) i d in
    let next : suc i ≡ i + 1 = omega arith in
    let here : drop i (entries_of t) ≡ e ∷ drop (i + 1) (entries_of t) = drop-cons (entries_of t) i d inside ∙ ap (λ n. e ∷ drop n (entries_of t)) next in
    let own : value t e.0 ≡ e.1 = coefficient_at places_keys poly_ring.semiring poly_zero_test (entries_of t) i e here t.1.is_map in
    let long : length e.0 ≡ rank = rank_at (rank_of t) (entries_of t) i d t.1.keys inside ∙ has.rank_is in
    let is : e.1 ≡ constant (g e.0) = sym own ∙ has.value_is e.0 long in
    subst IsConstant (sym is) (is_constant (g e.0))

-- no value at keys of another length
pub value_elsewhere : (rank : ℕ) (es : Entries) (key : List ℕ) → HasRank rank es → length key ≢ rank → value_in es key ≡ zero_poly
value_elsewhere rank [] key keys other = coefficient-nil places_keys poly_ring.semiring poly_zero_test key
value_elsewhere rank (e ∷ es) key keys other =
    coefficient-cons places_keys poly_ring.semiring poly_zero_test e es key
    ∙ ap₂ add_poly (where_equal-apart poly_ring.semiring (places_cmp key e.0) e.1 (λ same. other (ap length (places_equal key e.0 same) ∙ keys.0))) (value_elsewhere rank es key keys.1 other)
    ∙ poly_ring.semiring.add_zero zero_poly

-- the numbers at each key, where they are 0 at keys of another length
number_at : (rank : ℕ) (g : List ℕ → ℚ) (t : Tensor) → HasValues rank (λ key. constant (g key)) t → ((key : List ℕ) → length key ≢ rank → g key ≡ zero_ℚ)
    → (key : List ℕ) → coefficient_of (value t key) one_monomial ≡ g key
number_at rank g t has elsewhere key = elim (cases_Bool (length key == rank)) [
  | inl same ↦ ap (λ p. coefficient_of p one_monomial) (has.value_is key (nat_same (length key) rank same)) ∙ number_of (g key)
  | inr differs ↦
      let other : length key ≢ rank = λ same. true≢false (sym (tied rank) ∙ ap (λ n. n == rank) (sym same) ∙ differs) in
      ap (λ p. coefficient_of p one_monomial) (value_elsewhere (rank_of t) (entries_of t) key t.1.keys (λ same. other (same ∙ has.rank_is))) ∙ number_of_zero ∙ sym (elsewhere key other)
]
  where
    tied : (n : ℕ) → (n == n) ≡ true
    tied n = grind (arith, nat_tests)

pub numbers_are : (rank : ℕ) (g : List ℕ → ℚ) (t : Tensor) → HasValues rank (λ key. constant (g key)) t → ((key : List ℕ) → length key ≢ rank → g key ≡ zero_ℚ)
    → (λ key. coefficient_of (value t key) one_monomial) ≡ g
numbers_are rank g t has elsewhere = fun_ext (number_at rank g t has elsewhere)
