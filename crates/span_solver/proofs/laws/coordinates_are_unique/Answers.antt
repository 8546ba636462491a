use Rattle.span_solver.proofs.Unique.{unique}
use Rattle.span_solver.proofs.laws.coordinates_are_unique.Goals as goal

pub returns : goal.returns
returns c = unique
