use Rattle.std.proofs.Common.{rules, ◌∙◌, ap, arith, pos, ◌≡◌, to_z, of_z, w64}
use Rattle.frac128.specs.Rational.{whole, ◌/ℚ◌}
use Rattle.su_reps.specs.Entries.{slots_numerator}
use Rattle.su_reps.proofs.EntryLemmas.{action_entry}
use Rattle.su_reps.proofs.entries.action.Goals as goal

pub returns : goal.returns
returns c =
    let read : to_z w64 (of_z w64 c.slots_numerator.result) ≡ c.slots_numerator.result = search rules in
    c.entry.ensures ∙ ap (λ x. whole x /ℚ whole (pos c.args.n)) (read ∙ c.slots_numerator.ensures.value ∙ ap (λ s. slots_numerator s c.args.n c.args.i c.args.j c.args.p.now c.args.q.now) c.sides.ensures)
    ∙ action_entry c.args.rep c.args.n c.args.i c.args.j c.args.p.now c.args.q.now (omega (arith, c.requires.low))
