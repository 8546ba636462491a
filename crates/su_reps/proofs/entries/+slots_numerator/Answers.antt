use Rattle.std.proofs.Common.{rules, ◌∙◌, ap, ap₂, length, ◌≡◌, ◌≤◌, ◌+ℤ◌, to_z, of_z, w64}
use Rattle.std.specs.Prelude.{nat_eq, get_or}
use Rattle.su_reps.proofs.Steps.{slots_numerator-step, slots_numerator-no_first, slots_numerator-no_second}
use Rattle.su_reps.specs.Entries.{number_if}
use Rattle.su_reps.proofs.entries.+slots_numerator.Goals as goal

pub returns-in-len1-up-len1-up-len1-up-clause-value :
    goal.returns-in-len1-up-len1-up-len1-up-clause-value
returns-in-len1-up-len1-up-len1-up-clause-value t c =
    let first = c.number_if-first.result in
    let second = c.number_if-second.result in
    let read_slot : to_z w64 (of_z w64 c.slot_numerator.result) ≡ c.slot_numerator.result = search rules in
    let read_rest : to_z w64 (of_z w64 c.slots_numerator.result) ≡ c.slots_numerator.result = search rules in
    let read_first : to_z w64 (of_z w64 first) ≡ first = search rules in
    let read_second : to_z w64 (of_z w64 second) ≡ second = search rules in
    let read : to_z w64 (of_z w64 (first +ℤ second)) ≡ first +ℤ second = search rules in
    let sides : 1 ≤ length c.args.sides.now = search rules in
    let p : 1 ≤ length c.args.p.now = search rules in
    let q : 1 ≤ length c.args.q.now = search rules in
    let step = slots_numerator-step c.args.sides.now c.args.n c.args.i c.args.j c.args.p.now c.args.q.now sides p q in
    ap₂ (λ x y. to_z w64 (of_z w64 (x +ℤ y))) read_first read_second ∙ read
    ∙ ap₂ ◌+ℤ◌ (c.number_if-first.ensures.value ∙ ap₂ number_if c.are_equal.ensures (read_slot ∙ c.slot_numerator.ensures.value)) (c.number_if-second.ensures.value ∙ ap (λ k. number_if (nat_eq (get_or c.args.p.now 0 0) (get_or c.args.q.now 0 0)) k) (read_rest ∙ c.slots_numerator.ensures.value))
    ∙ step

pub returns-in_default-2-clause-value : goal.returns-in_default-2-clause-value
returns-in_default-2-clause-value t c = search (rules, slots_numerator-no_first)

pub returns-in_default-3-clause-value : goal.returns-in_default-3-clause-value
returns-in_default-3-clause-value t c = search (rules, slots_numerator-no_second)
