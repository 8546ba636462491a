use Rattle.std.proofs.Common.{length, ◌-◌, ◌≡◌, drop}
use Rattle.beta_poly.specs.Monomial.{powers_cmp}
use Rattle.beta_poly.proofs.monomial.compare.Given as goal

abbrev pub invariant-loop-i : goal.invariant-loop-i
invariant-loop-i l = powers_cmp (drop l.i l.a) (drop l.i l.b) ≡ powers_cmp l.a l.b

abbrev pub decreases-loop-i : goal.decreases-loop-i
decreases-loop-i l = length l.a - l.i
