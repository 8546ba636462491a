use Rattle.quartic_one_loop.specs.FourLegs.{AddsFour, first_of}
use Rattle.quartic_one_loop.specs.GaugePairs.{factor_share}
use Rattle.quartic_one_loop.proofs.gauges.push_pairs.Given as goal

abbrev pub invariant-loop-place : goal.invariant-loop-place
invariant-loop-place l = AddsFour l.model (first_of l.place l.factors (factor_share l.model l.left)) l.initial.values l.values
