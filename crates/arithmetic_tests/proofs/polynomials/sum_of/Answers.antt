use Rattle.std.proofs.Common.{◌≡◌, subst, sym}
use Rattle.beta_poly.specs.Polynomial.{add_poly}
use Rattle.beta_poly.specs.Exponents.{AllWithin}
use Rattle.beta_poly.proofs.ExponentLaws.{AllWithin-add}
use Rattle.arithmetic_tests.proofs.polynomials.sum_of.Goals as goal

pub returns : goal.returns
returns g c =
    let sum_is : c.expect.result ≡ add_poly c.args.a.now c.args.b.now = rw c.expect.ensures at c.add.ensures.value in
    subst (AllWithin 1) (sym sum_is) (AllWithin-add 1 c.args.a.now c.args.b.now c.requires.a_within c.requires.b_within)
