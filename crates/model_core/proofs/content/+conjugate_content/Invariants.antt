use Rattle.std.proofs.Common.{length}
use Rattle.model_core.proofs.content.+conjugate_content.Given as goal

abbrev pub decreases-conjugate_content : goal.decreases-conjugate_content
decreases-conjugate_content l = length l.content.now
