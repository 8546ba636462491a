use Rattle.quartic_one_loop.specs.GaugePairs.{ArePartnerValues}
use Rattle.quartic_one_loop.proofs.pairs.partners_of.Given as goal

abbrev pub invariant-loop-place : goal.invariant-loop-place
invariant-loop-place l = ArePartnerValues l.model l.place l.values
