use Rattle.std.proofs.Common.{arith}
use Rattle.beta_poly.proofs.ExponentLaws.{exponents_fit_within, within_power, within_times}
use Rattle.arithmetic_tests.proofs.polynomials.product_of.Goals as goal

pub times-requires : goal.times-requires
times-requires c =
    exponents_fit_within 1 1 c.in_ok-first.first c.in_ok-second.second (omega arith) (within_power 1 c.in_ok-first.first c.symbol.result c.in_ok-first.ensures) (within_power 1 c.in_ok-second.second c.symbol-2.result c.in_ok-second.ensures)

pub times-requires-2 : goal.times-requires-2
times-requires-2 c =
    exponents_fit_within 2 1 c.in_ok-both.both c.in_ok-third.third (omega arith) (within_times 1 1 c.in_ok-first.first c.in_ok-second.second c.in_ok-both.both c.in_ok-both.ensures (within_power 1 c.in_ok-first.first c.symbol.result c.in_ok-first.ensures) (within_power 1 c.in_ok-second.second c.symbol-2.result c.in_ok-second.ensures)) (within_power 1 c.in_ok-third.third c.symbol-3.result c.in_ok-third.ensures)
