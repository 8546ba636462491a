use Rattle.std.proofs.Common.{◌≡◌, take}
use Rattle.span_solver.specs.RowDependence.{firsts}
use Rattle.span_solver.proofs.prefixes.firsts.Given as goal

abbrev pub invariant-loop-row : goal.invariant-loop-row
invariant-loop-row l = l.out.items ≡ firsts l.n (take l.row-index l.rows)
