use Rattle.std.proofs.Common.{ap, sym, ◌∙◌}
use Rattle.exact_algebra.specs.Naturals.{nat_semiring, nat_zero}
use Rattle.exact_algebra.specs.Canon.{of-zero}
use Rattle.beta_poly.specs.Symbol.{symbol_keys}
use Rattle.beta_poly.specs.Monomial.{monomial}
use Rattle.beta_poly.proofs.monomial.Mono.power.Goals as goal

pub returns-then-exponent-eq0 : goal.returns-then-exponent-eq0
unfolding monomial
returns-then-exponent-eq0 c =
    ap monomial c.new-powers.ensures.items ∙ sym (of-zero symbol_keys nat_semiring nat_zero c.args.symbol c.args.exponent c.if-exponent-eq0.true)
