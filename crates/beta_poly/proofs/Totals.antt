-- The steps of a loop that collects the terms of polynomials from the front.
use Rattle.std.specs.Prelude.{◌≡◌, List, [], ◌∷◌, ◌++◌}
use Rattle.std.proofs.Common.{sym, ap, ◌∙◌}
use Rattle.exact_algebra.specs.Canon.{of-append, nought-of}
use Rattle.exact_algebra.specs.Ring.{zero_add}
use Rattle.exact_algebra.specs.Sums.{sum, sum-nil, sum-cons}
use Rattle.frac128.specs.RationalLaws.{ring_ℚ}
use Rattle.beta_poly.specs.Monomial.{monomial_keys}
use Rattle.beta_poly.specs.Polynomial.{Polynomial, Terms, polynomial, poly_ring, add_poly, zero_test}

-- the sum of polynomials
abbrev pub total_of : List Polynomial → Polynomial
total_of ps = sum poly_ring.semiring ps (λ q. q)

pub collect_none : (out : Terms) (all items : List Polynomial) → out ≡ [] → all ≡ items → add_poly (polynomial out) (total_of items) ≡ total_of all
unfolding polynomial
collect_none out all items o h =
    ap (λ ts. add_poly (polynomial ts) (total_of items)) o
    ∙ ap (λ p. add_poly p (total_of items)) (sym (nought-of monomial_keys ring_ℚ.semiring zero_test))
    ∙ zero_add poly_ring.semiring (total_of items) ∙ ap total_of (sym h)

pub collect_next : (out new ts : Terms) (items next : List Polynomial) (p m : Polynomial) → items ≡ p ∷ next → polynomial ts ≡ p → new ≡ out ++ ts → add_poly (polynomial out) (total_of items) ≡ m → add_poly (polynomial new) (total_of next) ≡ m
unfolding polynomial
collect_next out new ts items next p m i is hn h =
    ap (λ r. add_poly (polynomial r) (total_of next)) hn
    ∙ ap (λ r. add_poly r (total_of next)) (of-append monomial_keys ring_ℚ.semiring zero_test out ts)
    ∙ poly_ring.semiring.add_assoc (polynomial out) (polynomial ts) (total_of next)
    ∙ ap (λ q. add_poly (polynomial out) (add_poly q (total_of next))) is
    ∙ ap (add_poly (polynomial out)) (sym (ap total_of i ∙ sum-cons poly_ring.semiring p next (λ q. q)))
    ∙ h

pub collect_end : (out : Terms) (items : List Polynomial) (m : Polynomial) → items ≡ [] → add_poly (polynomial out) (total_of items) ≡ m → polynomial out ≡ m
collect_end out items m i h =
    sym (poly_ring.semiring.add_zero (polynomial out))
    ∙ ap (add_poly (polynomial out)) (sym (ap total_of i ∙ sum-nil poly_ring.semiring (λ q. q)))
    ∙ h
