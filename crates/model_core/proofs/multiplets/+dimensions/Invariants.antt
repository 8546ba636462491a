use Rattle.std.proofs.Common.{length}
use Rattle.model_core.proofs.multiplets.+dimensions.Given as goal

abbrev pub decreases-dimensions : goal.decreases-dimensions
decreases-dimensions l = length l.groups.now
