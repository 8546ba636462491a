use Rattle.std.proofs.Common.{sym, subst, arith}
use Rattle.beta_poly.specs.Exponents.{AllWithin}
use Rattle.beta_poly.proofs.ExponentLaws.{products_fit_within, AllWithin-scale}
use Rattle.quartic_one_loop.proofs.charges.charged.Goals as goal

pub mul-requires : goal.mul-requires
mul-requires c =
    products_fit_within 2 1 c.in_ok-weight.weight c.args.value.now (omega arith)
    (subst (AllWithin 2) (sym c.in_ok-weight.ensures.value) (AllWithin-scale 2 c.index-casimirs-key.result c.args.factor.now c.requires.factor))
    c.requires.value
