use Rattle.std.proofs.Common.{length}
use Rattle.model_core.proofs.content.+content_cmp.Given as goal

abbrev pub decreases-content_cmp : goal.decreases-content_cmp
decreases-content_cmp l = length l.a.now
