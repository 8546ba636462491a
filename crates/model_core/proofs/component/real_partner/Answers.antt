use Rattle.std.proofs.Common.{◌≡◌, ◌≤◌, ◌<◌, ◌*◌, ◌%◌, false, length, ap, sym, ◌∙◌, arith}
use Rattle.model_core.specs.Component.{slot_sizes, tuples, copies_of}
use Rattle.model_core.specs.Place.{tuple_at, are_pairs}
use Rattle.model_core.specs.Scalar.{swapped_pairs}
use Rattle.model_core.proofs.PairLaws.{real_sizes}
use Rattle.model_core.proofs.CountLaws.{length-copies_of, field_bound}
use Rattle.model_core.proofs.ScalarLaws.{real_coordinates}
use Rattle.model_core.proofs.PartnerLaws.{swapped_below, real_partner_at}
use Rattle.model_core.proofs.component.real_partner.Goals as goal

pub swapped_place-swapped-requires-clause-pairs : goal.swapped_place-swapped-requires-clause-pairs
swapped_place-swapped-requires-clause-pairs c =
    let sizes : c.as_slice-3.result.now ≡ slot_sizes c.args.groups.now c.args.field.now.reps = cc in
    ap are_pairs sizes ∙ real_sizes c.args.groups.now c.args.field.now.reps c.requires.reps

pub returns : goal.returns
returns c =
    let groups = c.args.groups.now in
    let field = c.args.field.now in
    let m = c.tuple_count-count.result in
    let sizes : c.as_slice-2.result.now ≡ slot_sizes groups field.reps = cc in
    let sizes_again : c.as_slice-3.result.now ≡ slot_sizes groups field.reps = cc in
    let counted : m ≡ length (tuples (slot_sizes groups field.reps)) = c.tuple_count-count.ensures.value ∙ ap (λ s. length (tuples s)) sizes in
    let below : c.swapped_place-swapped.result < m = omega (arith, counted, c.swapped_place-swapped.ensures.within, ap (λ s. length (tuples s)) sizes_again) in
    let swapped : tuple_at (slot_sizes groups field.reps) c.swapped_place-swapped.result ≡ swapped_pairs (tuple_at (slot_sizes groups field.reps) (c.args.place % m)) =
    ap (λ s. tuple_at s c.swapped_place-swapped.result) (sym sizes_again) ∙ c.swapped_place-swapped.ensures.value ∙ ap (λ s. swapped_pairs (tuple_at s (c.args.place % m))) sizes_again in
    real_partner_at groups field c.args.place m c.swapped_place-swapped.result c.requires.real counted c.requires.place below swapped

pub overflow_add-result : goal.overflow_add-result
overflow_add-result c =
    let groups = c.args.groups.now in
    let field = c.args.field.now in
    let m = c.tuple_count-count.result in
    let sizes : c.as_slice-2.result.now ≡ slot_sizes groups field.reps = cc in
    let sizes_again : c.as_slice-3.result.now ≡ slot_sizes groups field.reps = cc in
    let counted : m ≡ length (tuples (slot_sizes groups field.reps)) = c.tuple_count-count.ensures.value ∙ ap (λ s. length (tuples s)) sizes in
    let below : c.swapped_place-swapped.result < m = omega (arith, counted, c.swapped_place-swapped.ensures.within, ap (λ s. length (tuples s)) sizes_again) in
    let inside : c.args.place < length (copies_of false groups field) = omega (arith, c.requires.place, ap length (real_coordinates groups field c.requires.real)) in
    let total : length (copies_of false groups field) ≡ field.generations * m = length-copies_of false groups field ∙ ap (λ k. field.generations * k) (sym counted) in
    let most : field.generations * m ≤ 10077696 = field_bound field.generations m _ c.requires.generations c.tuple_count-count.ensures.bound (omega (arith, ap length c.as_slice-2.ensures.value, c.slot_sizes-sizes.ensures.few)) in
    omega (arith, total, most, swapped_below groups field c.args.place m c.swapped_place-swapped.result counted inside below)
