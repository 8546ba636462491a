use Rattle.std.proofs.Common.{length}
use Rattle.term_expand.proofs.links.+projector_over.Given as goal

abbrev pub decreases-projector_over : goal.decreases-projector_over
decreases-projector_over l = length l.groups.now
