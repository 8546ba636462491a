use Rattle.std.proofs.Common.{sym, ap, ◌∙◌}
use Rattle.span_solver.specs.BlockDirections.{same_name}
use Rattle.span_solver.proofs.Named.{named-here}
use Rattle.span_solver.proofs.names.place_of.Goals as goal

pub returns-then-seen-number : goal.returns-then-seen-number
returns-then-seen-number c =
    named-here c.args.directions.now c.args.name.now c.args.number c.loop-direction.place c.loop-direction.direction-index c.direction-item.result c.loop-direction-test.true c.direction-item.is
    (ap (λ b. same_name b c.args.name.now) (sym c.as_slice.ensures) ∙ sym c.same_name.ensures ∙ c.if-same_name.true)
    c.loop-direction.invariant.counted (sym c.if-seen-number.true ∙ c.loop-direction.invariant.seen)
