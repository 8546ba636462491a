use Rattle.beta_poly.specs.Polynomial.{scale_poly}
use Rattle.su_reps.specs.Operators.{fraction}
use Rattle.quartic_one_loop.specs.FourLegs.{AddsFour, over_first}
use Rattle.quartic_one_loop.specs.LoopSums.{loop_over}
use Rattle.quartic_one_loop.proofs.loops.push_loops.Given as goal

abbrev pub invariant-loop-place : goal.invariant-loop-place
invariant-loop-place l = AddsFour l.model (λ a b c d. scale_poly (fraction 1 8) (over_first l.place l.model (loop_over l.model) a b c d)) l.initial.values l.values
