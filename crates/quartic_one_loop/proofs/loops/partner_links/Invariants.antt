use Rattle.quartic_one_loop.specs.LoopSums.{ArePartnerLinks}
use Rattle.quartic_one_loop.proofs.loops.partner_links.Given as goal

abbrev pub invariant-loop-place : goal.invariant-loop-place
invariant-loop-place l = ArePartnerLinks l.model l.place l.links
