use Rattle.std.proofs.Common.{length}
use Rattle.span_solver.proofs.SystemSteps.{length-at}
use Rattle.span_solver.proofs.systems.reduced_rows.Goals as goal

pub reduced_row-requires-clause-same : goal.reduced_row-requires-clause-same
reduced_row-requires-clause-same c =
    length-at (length c.args.pivot.now.0) c.args.rows.now c.loop-row.row-index c.row-item.result c.requires.same c.loop-row-test.true c.row-item.is
