use Rattle.std.proofs.Common.{◌≡◌, subst, sym}
use Rattle.beta_poly.specs.Polynomial.{term}
use Rattle.beta_poly.specs.Exponents.{AllWithin}
use Rattle.beta_poly.proofs.ExponentLaws.{AllWithin-term, within_power}
use Rattle.arithmetic_tests.proofs.polynomials.linear.Goals as goal

pub returns : goal.returns
returns g c =
    let term_is : c.expect.result ≡ term c.expect-mono.result c.expect-value.result = rw c.expect.ensures at c.term.ensures in
    subst (AllWithin 1) (sym term_is) (AllWithin-term 1 c.expect-mono.result c.expect-value.result (within_power 1 c.expect-mono.result c.symbol.result (rw c.expect-mono.ensures at c.power.ensures)))
