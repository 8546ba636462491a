use Rattle.std.proofs.Common.{arith}
use Rattle.beta_poly.proofs.ExponentLaws.{exponents_fit_within, within_power}
use Rattle.gauge_two_loop.proofs.pieces.gauge_piece.Goals as goal

pub times-requires : goal.times-requires
times-requires c =
    exponents_fit_within 3 2 c.in_ok-cube.cube c.in_ok-square.square (omega arith)
    (within_power 3 c.in_ok-cube.cube _ c.in_ok-cube.ensures)
    (within_power 2 c.in_ok-square.square _ c.in_ok-square.ensures)
