use Rattle.std.proofs.Common.{arith}
use Rattle.beta_poly.proofs.ExponentLaws.{exponents_fit_within, within_power}
use Rattle.arithmetic_tests.proofs.polynomials.at.Goals as goal

pub times-requires : goal.times-requires
times-requires g c =
    exponents_fit_within 1 1 c.expect-first.result c.expect-second.result (omega arith) (within_power 1 c.expect-first.result c.symbol.result (rw c.expect-first.ensures at c.power.ensures)) (within_power 1 c.expect-second.result c.symbol-2.result (rw c.expect-second.ensures at c.power-2.ensures))
