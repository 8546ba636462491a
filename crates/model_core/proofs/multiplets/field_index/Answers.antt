use Rattle.std.proofs.Common.{◌≤◌, ◌*◌, ◌^◌, arith}
use Rattle.std.proofs.lemmas.Option.{slice_get_within}
use Rattle.model_core.proofs.ValidLaws.{field_reps, length-reps}
use Rattle.model_core.proofs.Dimensions.{group_limit_at, index_bound, field_index_bound}
use Rattle.model_core.proofs.multiplets.field_index.Goals as goal

pub doubled_index-requires-clause-high : goal.doubled_index-requires-clause-high
doubled_index-requires-clause-high c = group_limit_at c.args.groups.now c.args.place c.args.group.now c.requires.groups c.requires.group

pub returns-clause-bound : goal.returns-clause-bound
returns-clause-bound c =
    let limit = group_limit_at c.args.groups.now c.args.place c.args.group.now c.requires.groups c.requires.group in
    let small : c.doubled_index.result ≤ 12 = index_bound _ _ _ c.doubled_index.ensures.value c.requires.special limit in
    field_index_bound c.multiplicity.result c.from.result c.multiplicity.ensures.bound (omega (arith, c.from.ensures, small))

pub overflow_mul-result : goal.overflow_mul-result
overflow_mul-result c =
    let bound : c.multiplicity.result * c.from.result ≤ 2 ^ 50 = returns-clause-bound c in
    omega (arith, bound)

pub multiplicity-requires-clause-place : goal.multiplicity-requires-clause-place
multiplicity-requires-clause-place c = slice_get_within c.args.groups.now c.args.place c.args.group.now c.requires.group

pub item-rep-requires : goal.item-rep-requires
item-rep-requires c =
    let within = slice_get_within c.args.groups.now c.args.place c.args.group.now c.requires.group in
    omega (arith, within, length-reps c.args.groups.now c.args.field.now.reps (field_reps c.args.groups.now c.args.field.now c.requires.field))
