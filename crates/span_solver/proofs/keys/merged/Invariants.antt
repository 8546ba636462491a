use Rattle.std.proofs.Common.{length, ◌-◌, ◌+◌, ◌≡◌, ◌++◌, drop, ◌≤◌}
use Rattle.span_solver.specs.MergedKeys.{merge_keys}
use Rattle.span_solver.proofs.keys.merged.Given as goal

abbrev pub invariant-loop-i : goal.invariant-loop-i
invariant-loop-i l = record {
  in_a : l.i ≤ length l.a;
  in_b : l.j ≤ length l.b;
  merged : l.out.items ++ merge_keys (drop l.i l.a) (drop l.j l.b) ≡ merge_keys l.a l.b;
}

abbrev pub decreases-loop-i : goal.decreases-loop-i
decreases-loop-i l = (length l.a - l.i) + (length l.b - l.j)
