use Rattle.std.proofs.Common.{sym, subst, ap₂, ◌∙◌}
use Rattle.beta_poly.specs.Exponents.{AllWithin}
use Rattle.beta_poly.specs.Polynomial.{add_poly, scale_poly}
use Rattle.beta_poly.proofs.ExponentLaws.{AllWithin-add, AllWithin-scale}
use Rattle.beta_formulas.specs.YukawaBeta.{scalar_square}
use Rattle.yukawa_one_loop.proofs.lines.scalar_square.Goals as goal

pub returns-clause-value : goal.returns-clause-value
unfolding scalar_square
returns-clause-value c =
    c.in_ok-scale.ensures.value
    ∙ ap₂ scale_poly c.half.ensures (c.in_ok-sum.ensures.value ∙ ap₂ add_poly c.in_ok-one.ensures.value c.in_ok-other.ensures.value)

pub returns-clause-within : goal.returns-clause-within
returns-clause-within c =
    let sum : AllWithin 2 c.in_ok-sum.sum =
    subst (AllWithin 2) (sym c.in_ok-sum.ensures.value) (AllWithin-add 2 c.in_ok-one.one c.in_ok-other.other c.in_ok-one.ensures.within c.in_ok-other.ensures.within) in
    subst (AllWithin 2) (sym c.in_ok-scale.ensures.value) (AllWithin-scale 2 c.half.result c.in_ok-sum.sum sum)
