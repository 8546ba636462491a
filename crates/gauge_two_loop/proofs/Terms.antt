-- Products and coefficients of terms, and polynomials with small coefficients, of which no sum is refused.
use Rattle.std.proofs.Common.{◌≡◌, ℕ, ◌+◌, ◌^◌, ◌≤◌, [], ◌∷◌, sym, subst, ap, ◌∙◌, arith, inl, inr, Ordering, Less, Equal, Greater}
use Rattle.exact_algebra.specs.Canon.{of-products, products, value-of, value-nought, coefficient-plus}
use Rattle.exact_algebra.specs.Formal.{coefficient-eval, coefficient-cons, coefficient-nil, unit_at}
use Rattle.exact_algebra.specs.Sums.{where_equal}
use Rattle.frac128.specs.Rational.{ℚ, zero_ℚ, one_ℚ, ◌+ℚ◌, ◌*ℚ◌}
use Rattle.frac128.specs.RationalLaws.{ring_ℚ, +ℚ-zero, *ℚ-one}
use Rattle.frac128.specs.Frac.{SumFits}
use Rattle.beta_poly.specs.declared.fault.PolyFault.{PolyFault}
use Rattle.beta_poly.specs.declared.fault.PolyFault.TheVariants.{Overflow as PolyOverflow, NoMemory as PolyNoMemory}
use Rattle.beta_poly.specs.Monomial.{Monomial, monomial_cmp, monomial_keys, monomials, one_monomial, times_monomial}
use Rattle.beta_poly.specs.Polynomial.{Polynomial, zero_test, polynomial, zero_poly, add_poly, mul_poly, scale_poly, coefficient_of, term}
use Rattle.beta_poly.specs.Refusals.{SumsFit, IsFirstRefusedSum, IsSumRefusal, IsMultipleRefusal, IsProductRefusal, IsRefusedPair}
use Rattle.sparse_tensor.specs.Refusals.{IsTensorRefusal, tensor_fault}
use Rattle.model_core.specs.declared.model.Model.{Model}
use Rattle.model_core.specs.Plain.{IsPlain}
use Rattle.term_expand.proofs.Constants.{constant_term}
use Rattle.gauge_two_loop.specs.Refused.{IsShare, IsPlainRefusal}
use Rattle.gauge_two_loop.specs.Pieces.{AllShares}
use Rattle.gauge_two_loop.proofs.Shares.{weaker, share_whole, share_plus, sum_fits}

-- ---- products

pub term_mul : (m n : Monomial) (c d : ℚ) → mul_poly (term m c) (term n d) ≡ term (times_monomial m n) (c *ℚ d)
unfolding polynomial products
term_mul m n c d = sym (of-products monomials ring_ℚ.semiring zero_test ((m, c) ∷ []) ((n, d) ∷ []))

pub scale_term : (c : ℚ) (m : Monomial) (d : ℚ) → scale_poly c (term m d) ≡ term m (c *ℚ d)
scale_term c m d =
    ap (λ p. mul_poly p (term m d)) (sym (constant_term c)) ∙ term_mul one_monomial m c d
    ∙ ap (λ n. term n (c *ℚ d)) (monomials.times_comm one_monomial m ∙ monomials.times_unit m)

-- a multiple of a monomial
pub scaled_term : (c : ℚ) (m : Monomial) → term m c ≡ scale_poly c (term m one_ℚ)
scaled_term c m = ap (term m) (sym (*ℚ-one c)) ∙ sym (scale_term c m one_ℚ)

-- a multiple of a product
pub product_term : (c : ℚ) (m n : Monomial) → term (times_monomial m n) c ≡ scale_poly c (mul_poly (term m one_ℚ) (term n one_ℚ))
product_term c m n =
    scaled_term c (times_monomial m n) ∙ ap (λ d. scale_poly c (term (times_monomial m n) d)) (sym (*ℚ-one one_ℚ)) ∙ ap (scale_poly c) (sym (term_mul m n one_ℚ one_ℚ))

-- ---- coefficients

pub coefficient-term : (m : Monomial) (c : ℚ) (n : Monomial) → coefficient_of (term m c) n ≡ where_equal ring_ℚ.semiring (monomial_cmp n m) c
unfolding polynomial
coefficient-term m c n =
    coefficient-eval monomial_keys ring_ℚ.semiring (term m c).0 n
    ∙ value-of monomial_keys ring_ℚ.semiring zero_test ((m, c) ∷ []) (unit_at monomial_keys ring_ℚ.semiring n)
    ∙ sym (coefficient-eval monomial_keys ring_ℚ.semiring ((m, c) ∷ []) n)
    ∙ coefficient-cons monomial_keys ring_ℚ.semiring zero_test (m, c) [] n
    ∙ ap (λ k. where_equal ring_ℚ.semiring (monomial_cmp n m) c +ℚ k) (coefficient-nil monomial_keys ring_ℚ.semiring zero_test n)
    ∙ +ℚ-zero (where_equal ring_ℚ.semiring (monomial_cmp n m) c)

pub coefficient-zero : (m : Monomial) → coefficient_of zero_poly m ≡ zero_ℚ
coefficient-zero m = coefficient-eval monomial_keys ring_ℚ.semiring zero_poly.0 m ∙ value-nought monomial_keys ring_ℚ.semiring zero_test (unit_at monomial_keys ring_ℚ.semiring m)

no_share : (bound : ℕ) → IsShare 129600 bound zero_ℚ
no_share bound = weaker 129600 0 bound zero_ℚ (omega arith) (share_whole 0 129600 (omega arith))

where_share : (bound : ℕ) (o : Ordering) (c : ℚ) → IsShare 129600 bound c → IsShare 129600 bound (where_equal ring_ℚ.semiring o c)
where_share bound Less c on = no_share bound
where_share bound Equal c on = on
where_share bound Greater c on = no_share bound

pub term_shares : (bound : ℕ) (m : Monomial) (c : ℚ) → IsShare 129600 bound c → AllShares bound (term m c)
term_shares bound m c on n = subst (IsShare 129600 bound) (sym (coefficient-term m c n)) (where_share bound (monomial_cmp n m) c on)

pub add_shares : (a b : ℕ) (p q : Polynomial) → AllShares a p → AllShares b q → AllShares (a + b) (add_poly p q)
add_shares a b p q on over m =
    subst (IsShare 129600 (a + b)) (sym (coefficient-plus monomial_keys ring_ℚ.semiring zero_test p q m)) (share_plus 129600 a b (coefficient_of p m) (coefficient_of q m) (omega arith) (on m) (over m))

pub shares_weaker : (a b : ℕ) (p : Polynomial) → a ≤ b → AllShares a p → AllShares b p
shares_weaker a b p h on m = weaker 129600 a b (coefficient_of p m) h (on m)

-- ---- sums

pub sums_fit : (a b : ℕ) (p q : Polynomial) → a + b ≤ 2 ^ 126 → AllShares a p → AllShares b q → SumsFit p q
sums_fit a b p q h on over m _ _ =
    sum_fits 129600 a b (coefficient_of p m) (coefficient_of q m) (omega arith) (omega arith) h (on m) (over m)

-- a sum with 0 fits
pub zero_fits : (p q : Polynomial) → q ≡ zero_poly → SumsFit p q
zero_fits p q e m _ has = absurd (has (ap (λ r. coefficient_of r m) e ∙ coefficient-zero m))

-- a refused sum doesn't fit
pub first_refused : (p q : Polynomial) (x y : ℚ) → IsFirstRefusedSum p q x y → SumsFit p q → ⊥
first_refused p q x y first fits =
    first.refused (subst (λ a. SumFits a y) (sym first.left) (subst (SumFits (coefficient_of p first.at)) (sym first.right) (fits first.at first.in_first first.in_second)))

pub refused_pair : (p q : Polynomial) (x y : ℚ) → IsFirstRefusedSum p q x y → IsRefusedPair x y
refused_pair p q x y first = inl first.refused

-- ---- the faults of sums, products and multiples

-- a sum that fits for a plain model
pub plain_refusal : (model : Model) (p q : Polynomial) (fault : PolyFault) → (IsPlain model → SumsFit p q) → IsSumRefusal p q fault → IsPlainRefusal model (tensor_fault fault)
plain_refusal model p q (PolyOverflow pair) fits first =
    (λ plain. first_refused p q pair.a pair.b first (fits plain), refused_pair p q pair.a pair.b first)
plain_refusal model p q PolyNoMemory fits first = tt

pub sum_refusal : (p q : Polynomial) (fault : PolyFault) → IsSumRefusal p q fault → IsTensorRefusal (tensor_fault fault)
sum_refusal p q (PolyOverflow pair) first = refused_pair p q pair.a pair.b first
sum_refusal p q PolyNoMemory first = tt

pub multiple_refusal : (p : Polynomial) (c : ℚ) (fault : PolyFault) → IsMultipleRefusal p c fault → IsTensorRefusal (tensor_fault fault)
multiple_refusal p c (PolyOverflow pair) first = inr first.refused
multiple_refusal p c PolyNoMemory first = tt

pub product_refusal : (fault : PolyFault) → IsProductRefusal fault → IsTensorRefusal (tensor_fault fault)
product_refusal (PolyOverflow pair) refused = refused
product_refusal PolyNoMemory refused = tt
