use Rattle.std.proofs.Common.{◌≤◌, ◌+◌, ◌*◌, length, take, drop, ap, ap₂, ◌∙◌, arith}
use Rattle.model_core.proofs.ValidLaws.{group_limit, field_generations, field_reps, length-reps}
use Rattle.model_core.specs.Valid.{are_reps}
use Rattle.model_core.proofs.Dimensions.{are_reps-take, are_reps-drop, four_fit, others_bound, multiplicity_bound}
use Rattle.model_core.proofs.multiplets.multiplicity.Goals as goal

pub overflow_mul-others : goal.overflow_mul-others
overflow_mul-others c =
    let limit = group_limit c.args.groups.now c.requires.groups in
    let before : c.dimensions.result ≤ 1679616 = omega (arith, c.dimensions.ensures.bound, four_fit (length c.split_at.result.0.now) (omega (arith, c.split_at.ensures.front_len, limit))) in
    let after : c.dimensions-2.result ≤ 1679616 = omega (arith, c.dimensions-2.ensures.bound, four_fit (length c.split_at-3.result.1.now) (omega (arith, c.split_at-3.ensures.back_len, limit))) in
    omega (arith, others_bound c.dimensions.result c.dimensions-2.result before after)

pub returns-clause-bound : goal.returns-clause-bound
returns-clause-bound c =
    let limit = group_limit c.args.groups.now c.requires.groups in
    let before : c.dimensions.result ≤ 1679616 = omega (arith, c.dimensions.ensures.bound, four_fit (length c.split_at.result.0.now) (omega (arith, c.split_at.ensures.front_len, limit))) in
    let after : c.dimensions-2.result ≤ 1679616 = omega (arith, c.dimensions-2.ensures.bound, four_fit (length c.split_at-3.result.1.now) (omega (arith, c.split_at-3.ensures.back_len, limit))) in
    let generations = field_generations c.args.groups.now c.args.field.now c.requires.field in
    multiplicity_bound c.from.result (c.dimensions.result * c.dimensions-2.result) (omega (arith, c.from.ensures, generations.1)) (others_bound c.dimensions.result c.dimensions-2.result before after)

pub overflow_mul-result : goal.overflow_mul-result
overflow_mul-result c =
    let bound : c.from.result * (c.dimensions.result * c.dimensions-2.result) ≤ 6 * (1679616 * 1679616) = returns-clause-bound c in
    omega (arith, bound)

pub split_at-requires-2 : goal.split_at-requires-2
split_at-requires-2 c =
    omega (arith, ap length c.as_slice-reps.ensures, length-reps c.args.groups.now c.args.field.now.reps (field_reps c.args.groups.now c.args.field.now c.requires.field), c.requires.place)

pub split_at-requires-4 : goal.split_at-requires-4
split_at-requires-4 c =
    omega (arith, ap length c.as_slice-reps.ensures, length-reps c.args.groups.now c.args.field.now.reps (field_reps c.args.groups.now c.args.field.now c.requires.field), c.requires.place)

pub dimensions-requires-clause-reps : goal.dimensions-requires-clause-reps
dimensions-requires-clause-reps c =
    let valid = field_reps c.args.groups.now c.args.field.now c.requires.field in
    ap₂ are_reps c.split_at.ensures.front (c.split_at-2.ensures.front ∙ ap (take c.args.place) c.as_slice-reps.ensures)
    ∙ are_reps-take c.args.groups.now c.args.field.now.reps c.args.place valid

pub dimensions-requires-2-clause-reps : goal.dimensions-requires-2-clause-reps
dimensions-requires-2-clause-reps c =
    let valid = field_reps c.args.groups.now c.args.field.now c.requires.field in
    ap₂ are_reps c.split_at-3.ensures.back (c.split_at-4.ensures.back ∙ ap (drop (c.args.place + 1)) c.as_slice-reps.ensures)
    ∙ are_reps-drop c.args.groups.now c.args.field.now.reps (c.args.place + 1) valid
