use Rattle.std.proofs.Common.{◌≡◌, take}
use Rattle.std.specs.Prelude.{map}
use Rattle.beta_poly.specs.Monomial.{conj_monomial}
use Rattle.beta_poly.proofs.products.conjugate_terms.Given as goal

abbrev pub invariant-loop-term : goal.invariant-loop-term
invariant-loop-term l = l.out.items ≡ map (λ e. (conj_monomial e.0, e.1)) (take l.term-index l.terms)
