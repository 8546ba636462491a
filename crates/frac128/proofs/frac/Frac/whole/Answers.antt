use Rattle.std.proofs.Common.{rules, ◌≡◌, ◌∙◌, to_z, of_z}
use Rattle.std.specs.Int.{w64, w128}
use Rattle.frac128.specs.Rational.{same_ℚ, whole, whole_lowest}
use Rattle.frac128.proofs.frac.Frac.whole.Goals as goal

pub from_lowest_terms-requires-clause-lowest : goal.from_lowest_terms-requires-clause-lowest
from_lowest_terms-requires-clause-lowest c = whole_lowest _

pub returns : goal.returns
returns c =
    let read : to_z w128 (of_z w128 (to_z w64 (of_z w64 c.args.number))) ≡ c.args.number = search rules in
    same_ℚ c.from_lowest_terms.result (whole c.args.number) (c.from_lowest_terms.ensures.num ∙ read) c.from_lowest_terms.ensures.den
