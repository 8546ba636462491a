use Rattle.std.proofs.Common.{length}
use Rattle.model_core.proofs.component.+swapped_place.Given as goal

abbrev pub decreases-swapped_place : goal.decreases-swapped_place
decreases-swapped_place l = length l.sizes.now
