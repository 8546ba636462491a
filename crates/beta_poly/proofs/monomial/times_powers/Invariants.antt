use Rattle.std.proofs.Common.{length, ◌-◌, ◌+◌, ◌≡◌, ◌++◌, drop, ◌≤◌}
use Rattle.exact_algebra.specs.Naturals.{nat_semiring, nat_zero}
use Rattle.exact_algebra.specs.Merge.{merge}
use Rattle.beta_poly.specs.Symbol.{symbol_keys}
use Rattle.beta_poly.proofs.monomial.times_powers.Given as goal

abbrev pub invariant-loop-i : goal.invariant-loop-i
invariant-loop-i l = record {
  in_a : l.i ≤ length l.a;
  in_b : l.j ≤ length l.b;
  merged : l.out.items ++ merge symbol_keys nat_semiring nat_zero (drop l.i l.a) (drop l.j l.b) ≡ merge symbol_keys nat_semiring nat_zero l.a l.b;
}

abbrev pub decreases-loop-i : goal.decreases-loop-i
decreases-loop-i l = (length l.a - l.i) + (length l.b - l.j)
