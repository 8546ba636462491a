use Rattle.std.proofs.Common.{◌≡◌, ap, is_lt, rules}
use Rattle.std.proofs.lemmas.List.Sorted.{ranks_by, answers_always}
use Rattle.frac128.specs.Rational.{ℚ}
use Rattle.beta_poly.specs.Monomial.{Monomial, monomial_keys, monomial_cmp}
use Rattle.beta_poly.proofs.products.sort_terms.Goals as goal

pub returns-clause-sorted : goal.returns-clause-sorted
returns-clause-sorted c =
    c.in_ok-sort_by.ensures.sorted (λ x y. is_lt (monomial_cmp x.0 y.0)) (ranks_by monomial_keys.total (λ (p : Monomial × ℚ). p.0)) (answers_always _ (λ a r. is_lt r ≡ is_lt (monomial_cmp a.0.now.0 a.1.0.now.0)) _ (λ f a r f' k. let e : r ≡ monomial_cmp a.0.now.0 a.1.0.now.0 = search rules in ap is_lt e))
