use Rattle.std.proofs.Common.{ap}
use Rattle.frac128.proofs.FracFacts.{cast_invariant, cast_made}
use Rattle.frac128.proofs.frac.Frac.from_lowest_terms.Goals as goal

pub returns : goal.returns
returns c =
    let is = cast_made c.args.num c.args.den c.ranges.num c.requires.lowest c.requires.den_small in
    record { num = ap (λ x. x.num) is; den = ap (λ x. x.den) is }

pub invariant_of-result : goal.invariant_of-result
invariant_of-result c = cast_invariant c.args.num c.args.den c.ranges.num c.requires.lowest c.requires.num_small c.requires.den_small
