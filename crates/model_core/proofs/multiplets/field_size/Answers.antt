use Rattle.std.proofs.Common.{◌≤◌, ◌*◌, length, arith}
use Rattle.model_core.proofs.ValidLaws.{group_limit, field_generations}
use Rattle.model_core.proofs.Dimensions.{field_size_bound}
use Rattle.model_core.proofs.multiplets.field_size.Goals as goal

pub returns-clause-bound : goal.returns-clause-bound
returns-clause-bound c =
    let groups = c.args.groups.now in
    let generations = field_generations groups c.args.field.now c.requires.field in
    field_size_bound c.from.result c.dimensions.result (length groups) (omega (arith, c.from.ensures, generations.1)) (group_limit groups c.requires.groups) c.dimensions.ensures.bound

pub overflow_mul-result : goal.overflow_mul-result
overflow_mul-result c =
    let bound : c.from.result * c.dimensions.result ≤ 10077696 = returns-clause-bound c in
    omega (arith, bound)
