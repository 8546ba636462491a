use Rattle.quartic_one_loop.specs.FourLegs.{AddsFour, first_of}
use Rattle.quartic_one_loop.specs.GaugePairs.{shares_of}
use Rattle.quartic_one_loop.proofs.gauges.push_all.Given as goal

abbrev pub invariant-loop-place : goal.invariant-loop-place
invariant-loop-place l = AddsFour l.model (first_of l.place l.factors (shares_of l.model l.factors)) l.initial.values l.values
