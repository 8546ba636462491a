use Rattle.std.proofs.Common.{ap}
use Rattle.std.specs.Prelude.{◌==◌}
use Rattle.span_solver.proofs.Values.{nothing_is}
use Rattle.span_solver.proofs.numbers.is_nothing.Goals as goal

pub returns : goal.returns
returns c = nothing_is c.args.p.now (c.len.result == 0) (ap (λ n. n == 0) c.len.ensures)
