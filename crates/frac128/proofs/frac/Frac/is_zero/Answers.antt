use Rattle.std.proofs.Common.{◌≡◌, ap, arith, pos, of_z}
use Rattle.std.specs.Int.{w128}
use Rattle.std.proofs.lemmas.Bool.{eqb-true}
use Rattle.std.proofs.lemmas.Int.{ints}
use Rattle.frac128.specs.RationalLaws.{zero_num}
use Rattle.frac128.proofs.frac.Frac.is_zero.Goals as goal

pub returns : goal.returns
returns c =
    let x = c.args.self.now in (
      λ e. let same : of_z w128 c.num.result ≡ 0 = eqb-true _ _ e in zero_num x (omega (arith, ints, c.num.ensures.value, same)),
      λ e. let none : x.num ≡ pos 0 = ap (λ y. y.num) e in grind (arith, ints, c.num.ensures.value, none),
    )
