use Rattle.std.proofs.Common.{◌≡◌}
use Rattle.std.specs.Prelude.{is_some, true}
use Rattle.span_solver.specs.Elimination.{pivots}
use Rattle.span_solver.specs.RowDependence.{firsts, AreIndependent}
use Rattle.span_solver.proofs.prefixes.first_dependent.Given as goal

abbrev pub invariant-loop-n : goal.invariant-loop-n
invariant-loop-n l = record {
  independent : AreIndependent l.n l.rows;
  found : is_some (pivots l.n (firsts l.n l.rows)) ≡ true;
}
