use Rattle.std.proofs.Common.{◌≡◌, ◌∙◌, ap, arith, pos, to_z, of_z, ◌-ℤ◌}
use Rattle.std.specs.Prelude.{neg_ℤ}
use Rattle.std.specs.Int.{w128}
use Rattle.std.proofs.lemmas.Int.{ints}
use Rattle.frac128.proofs.Negation.{negation_found}
use Rattle.frac128.proofs.frac.Frac.negated.Goals as goal

pub returns : goal.returns
returns c =
    let read : to_z w128 (of_z w128 (pos 0 -ℤ to_z w128 (of_z w128 c.num.result))) ≡ neg_ℤ c.num.result = omega (arith, ints) in
    negation_found _ _ (c.from_lowest_terms.ensures.num ∙ read ∙ ap neg_ℤ c.num.ensures.value) (c.from_lowest_terms.ensures.den ∙ c.den_size.ensures.value)
