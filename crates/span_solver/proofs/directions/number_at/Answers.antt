use Rattle.std.proofs.Common.{sym, ◌∙◌}
use Rattle.span_solver.proofs.Gathered.{zero_number}
use Rattle.span_solver.proofs.directions.number_at.Goals as goal

pub returns-in-None : goal.returns-in-None
returns-in-None c = c.zero.ensures ∙ sym (zero_number c.args.direction.now c.args.key.now c.in-None.ensures)
