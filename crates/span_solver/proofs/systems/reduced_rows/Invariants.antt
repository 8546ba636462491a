use Rattle.std.proofs.Common.{◌≡◌, take, map}
use Rattle.span_solver.specs.Algebra.{polynomials}
use Rattle.span_solver.specs.Systems.{reduced_row}
use Rattle.span_solver.proofs.systems.reduced_rows.Given as goal

abbrev pub invariant-loop-row : goal.invariant-loop-row
invariant-loop-row l = l.out.items ≡ map (reduced_row polynomials l.pivot l.j) (take l.row-index l.rows)
