use Rattle.std.proofs.Common.{◌≡◌, ◌<◌, ◌+◌, ◌/◌, ◌%◌, false, length, Some, ap, sym, ◌∙◌, arith}
use Rattle.model_core.specs.Component.{slot_sizes, tuples, copies_of}
use Rattle.model_core.specs.Place.{tuple_at}
use Rattle.model_core.proofs.CountLaws.{component_at, length-copies_of}
use Rattle.model_core.proofs.component.position_of.Goals as goal

pub overflow_add-generation : goal.overflow_add-generation
overflow_add-generation c =
    let sizes : c.as_slice-2.result.now ≡ slot_sizes c.args.groups.now c.args.field.now.reps = cc in
    let found =
    component_at false c.args.groups.now c.args.field.now c.args.place c.tuple_count-count.result (c.tuple_count-count.ensures.value ∙ ap (λ s. length (tuples s)) sizes) c.requires.place in
    omega (arith, found.0, c.requires.generations)

pub returns : goal.returns
returns c conj =
    let groups = c.args.groups.now in
    let field = c.args.field.now in
    let m = c.tuple_count-count.result in
    let sizes : c.as_slice-2.result.now ≡ slot_sizes groups field.reps = cc in
    let sizes_again : c.as_slice-3.result.now ≡ slot_sizes groups field.reps = cc in
    let within : c.args.place < length (copies_of conj groups field) = omega (arith, c.requires.place, length-copies_of conj groups field, length-copies_of false groups field) in
    let found = component_at conj groups field c.args.place m (c.tuple_count-count.ensures.value ∙ ap (λ s. length (tuples s)) sizes) within in
    let values : tuple_at (slot_sizes groups field.reps) (c.args.place % m) ≡ c.tuple_at.result = ap (λ s. tuple_at s (c.args.place % m)) (sym sizes_again) ∙ sym c.tuple_at.ensures in
    found.2 ∙ ap (λ v. Some (record { field = field; conj = conj; generation = c.args.place / m + 1; values = v })) values
