use Rattle.std.proofs.Common.{length}
use Rattle.gauge_check.proofs.generators.+special_entry.Given as goal

abbrev pub decreases-special_entry : goal.decreases-special_entry
decreases-special_entry l = length l.groups.now
