use Rattle.std.proofs.Common.{rules, ◌∙◌, ap₂, arith, pos, ◌≡◌, to_z, of_z, w64}
use Rattle.frac128.specs.Rational.{whole, ◌/ℚ◌}
use Rattle.su_reps.proofs.EntryLemmas.{projector_entry}
use Rattle.su_reps.proofs.entries.projector.Goals as goal

pub returns : goal.returns
returns c =
    let read : to_z w64 (of_z w64 c.projector_numerator.result) ≡ c.projector_numerator.result = search rules in
    c.entry.ensures ∙ ap₂ (λ x y. whole x /ℚ whole (pos y)) (read ∙ c.projector_numerator.ensures) c.projector_denominator.ensures.value
    ∙ projector_entry c.args.rep c.args.n c.args.p.now c.args.q.now (omega (arith, c.requires.low)) c.requires.first c.requires.second
