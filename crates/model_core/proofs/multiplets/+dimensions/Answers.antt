use Rattle.std.proofs.Common.{◌≤◌, ◌*◌, ◌^◌, rules, length, arith}
use Rattle.model_core.proofs.Dimensions.{product_bound, four_fit}
use Rattle.exact_algebra.specs.Slices.{length-tail}
use Rattle.model_core.proofs.multiplets.+dimensions.Goals as goal

pub returns-in-len1-up-reps-clause-bound : goal.returns-in-len1-up-reps-clause-bound
returns-in-len1-up-reps-clause-bound t c =
    let groups = c.args.groups.now in
    let some : 1 ≤ length groups = search rules in
    product_bound c.from.result c.dimensions.result _ (length groups) (omega (arith, c.from.ensures, c.dimension_of.ensures.bound)) c.dimensions.ensures.bound (length-tail groups some)

pub overflow_mul-result : goal.overflow_mul-result
overflow_mul-result t c =
    let bound : c.from.result * c.dimensions.result ≤ 36 ^ length c.args.groups.now = returns-in-len1-up-reps-clause-bound t c in
    omega (arith, bound, four_fit (length c.args.groups.now) c.requires.few)
