use Rattle.std.proofs.Common.{sym, subst, arith}
use Rattle.beta_poly.specs.Exponents.{AllWithin}
use Rattle.beta_poly.proofs.ExponentLaws.{products_fit_within, AllWithin-scale}
use Rattle.yukawa_one_loop.proofs.gauges.weighted.Goals as goal

pub mul-requires : goal.mul-requires
mul-requires c =
    products_fit_within 2 1 c.in_ok-factor.factor c.args.value.now (omega arith)
    (subst (AllWithin 2) (sym c.in_ok-factor.ensures.value) (AllWithin-scale 2 c.in_ok-number.number c.args.line.now.factor c.requires.factor))
    c.requires.value
