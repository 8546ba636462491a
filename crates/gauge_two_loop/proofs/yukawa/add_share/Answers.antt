use Rattle.std.proofs.Common.{sym, subst, arith}
use Rattle.beta_poly.specs.Exponents.{AllWithin}
use Rattle.beta_poly.proofs.ExponentLaws.{products_fit_within}
use Rattle.gauge_two_loop.proofs.YukawaValues.{AllWithin-conj}
use Rattle.gauge_two_loop.proofs.yukawa.add_share.Goals as goal

pub mul-requires : goal.mul-requires
mul-requires c =
    products_fit_within 1 1 c.args.value.now c.in_ok-conjugate.conjugate (omega arith) c.requires.value
    (subst (AllWithin 1) (sym c.in_ok-conjugate.ensures) (AllWithin-conj 1 c.args.other.now c.requires.other))
