use Rattle.std.proofs.Common.{ap, sym, ◌∙◌}
use Rattle.exact_algebra.specs.Canon.{nought-of}
use Rattle.frac128.specs.RationalLaws.{ring_ℚ}
use Rattle.beta_poly.specs.Monomial.{monomial_keys}
use Rattle.beta_poly.specs.Polynomial.{polynomial, zero_test}
use Rattle.beta_poly.proofs.polynomial.Poly.zero.Goals as goal

pub returns : goal.returns
unfolding polynomial
returns c = ap polynomial c.new.ensures.items ∙ sym (nought-of monomial_keys ring_ℚ.semiring zero_test)
