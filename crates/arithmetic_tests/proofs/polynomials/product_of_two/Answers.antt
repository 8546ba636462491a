use Rattle.std.proofs.Common.{arith}
use Rattle.beta_poly.proofs.ExponentLaws.{products_fit_within}
use Rattle.arithmetic_tests.proofs.polynomials.product_of_two.Goals as goal

pub mul-requires : goal.mul-requires
mul-requires g c = products_fit_within 1 1 c.args.a.now c.args.b.now (omega arith) c.requires.a_within c.requires.b_within
