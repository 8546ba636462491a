use Rattle.std.proofs.Common.{length}
use Rattle.model_core.proofs.block.+first_overfull.Given as goal

abbrev pub decreases-first_overfull : goal.decreases-first_overfull
decreases-first_overfull l = length l.blocks.now
