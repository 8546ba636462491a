use Rattle.std.proofs.Common.{◌≡◌, ◌≤◌, ◌*◌, length, ap, sym, ◌∙◌, arith, false}
use Rattle.model_core.specs.Component.{slot_sizes, tuples}
use Rattle.model_core.proofs.CountLaws.{length-copies_of, field_bound}
use Rattle.model_core.proofs.component.field_count.Goals as goal

pub returns-clause-bound : goal.returns-clause-bound
returns-clause-bound c =
    field_bound c.args.field.now.generations c.tuple_count.result _ c.requires.generations c.tuple_count.ensures.bound
    (omega (arith, ap length c.as_slice-2.ensures.value))

pub overflow_mul-result : goal.overflow_mul-result
overflow_mul-result c =
    let bound : c.args.field.now.generations * c.tuple_count.result ≤ 10077696 = returns-clause-bound c in
    omega arith

pub returns-clause-value : goal.returns-clause-value
returns-clause-value c =
    let sizes : c.as_slice-2.result.now ≡ slot_sizes c.args.groups.now c.args.field.now.reps = cc in
    ap (λ k. c.args.field.now.generations * k) (c.tuple_count.ensures.value ∙ ap (λ s. length (tuples s)) sizes)
    ∙ sym (length-copies_of false c.args.groups.now c.args.field.now)
