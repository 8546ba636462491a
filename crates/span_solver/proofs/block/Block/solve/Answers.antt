use Rattle.std.proofs.Common.{◌∙◌, ap, sym}
use Rattle.span_solver.specs.Block.{BlockRows}
use Rattle.span_solver.proofs.Answered.{zeros_are}
use Rattle.span_solver.proofs.block.Block.solve.Goals as goal

pub returns-then-len-eq0-clause-answer : goal.returns-then-len-eq0-clause-answer
returns-then-len-eq0-clause-answer g c = λ ds b.
    zeros_are ds c.args.value.now c.self.inside.count c.in_ok-nothings.field-0 (ap (λ (r : BlockRows). r.count) c.self.view_is ∙ b.many) (sym c.len.ensures ∙ c.if-len-eq0.true) c.in_ok-nothings.ensures
