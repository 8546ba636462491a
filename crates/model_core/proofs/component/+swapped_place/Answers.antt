use Rattle.std.proofs.Common.{arith}
use Rattle.model_core.proofs.PairLaws.{swapped_step, swapped_small, tuples_fit}
use Rattle.model_core.proofs.component.+swapped_place.Goals as goal

pub overflow_add-result : goal.overflow_add-result
overflow_add-result t c =
    let sizes = c.args.sizes.now in
    let small = swapped_small sizes c.args.place c.tuple_count-count.result c.from-n.result c.in-len2-up.len_at_least c.requires.pairs c.tuple_count-count.ensures.value c.from-n.ensures c.requires.place in
    omega (arith, small.0, small.1, tuples_fit sizes c.requires.small c.requires.few)

pub overflow_mul-result-in-len2-up : goal.overflow_mul-result-in-len2-up
overflow_mul-result-in-len2-up t c =
    let sizes = c.args.sizes.now in
    let small = swapped_small sizes c.args.place c.tuple_count-count.result c.from-n.result c.in-len2-up.len_at_least c.requires.pairs c.tuple_count-count.ensures.value c.from-n.ensures c.requires.place in
    omega (arith, small.1, tuples_fit sizes c.requires.small c.requires.few)

pub returns-in-len2-up-clause-within : goal.returns-in-len2-up-clause-within
returns-in-len2-up-clause-within t c =
    (swapped_step c.args.sizes.now c.args.place c.swapped_place.result c.tuple_count-count.result c.from-n.result c.in-len2-up.len_at_least c.requires.pairs c.tuple_count-count.ensures.value c.from-n.ensures c.requires.place c.swapped_place.ensures.within c.swapped_place.ensures.value).1

pub overflow_add-result-in-len2-up : goal.overflow_add-result-in-len2-up
overflow_add-result-in-len2-up t c =
    let within = (swapped_step c.args.sizes.now c.args.place c.swapped_place.result c.tuple_count-count.result c.from-n.result c.in-len2-up.len_at_least c.requires.pairs c.tuple_count-count.ensures.value c.from-n.ensures c.requires.place c.swapped_place.ensures.within c.swapped_place.ensures.value).1 in
    omega (arith, within, tuples_fit c.args.sizes.now c.requires.small c.requires.few)

pub returns-in-len2-up-clause-value : goal.returns-in-len2-up-clause-value
returns-in-len2-up-clause-value t c =
    (swapped_step c.args.sizes.now c.args.place c.swapped_place.result c.tuple_count-count.result c.from-n.result c.in-len2-up.len_at_least c.requires.pairs c.tuple_count-count.ensures.value c.from-n.ensures c.requires.place c.swapped_place.ensures.within c.swapped_place.ensures.value).0
