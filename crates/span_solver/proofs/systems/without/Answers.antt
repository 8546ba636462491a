use Rattle.std.proofs.Common.{◌∙◌, sym, ap}
use Rattle.span_solver.specs.Combine.{without}
use Rattle.span_solver.proofs.Steps.{without-remove}
use Rattle.span_solver.proofs.systems.without.Goals as goal

pub returns : goal.returns
returns c = c.remove.ensures.items ∙ sym (without-remove c.args.j c.in_ok-out.out.items) ∙ ap (without c.args.j) c.in_ok-out.ensures.items
