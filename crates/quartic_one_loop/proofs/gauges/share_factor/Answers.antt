use Rattle.std.proofs.Common.{arith}
use Rattle.beta_poly.proofs.ExponentLaws.{products_fit_within}
use Rattle.quartic_one_loop.proofs.gauges.share_factor.Goals as goal

pub mul-requires : goal.mul-requires
mul-requires c = products_fit_within 2 2 c.args.left.now c.args.right.now (omega arith) c.requires.left c.requires.right
