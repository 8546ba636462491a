use Rattle.std.proofs.Common.{length}
use Rattle.term_expand.proofs.values.+is_odd.Given as goal

abbrev pub decreases-is_odd : goal.decreases-is_odd
decreases-is_odd l = length l.values.now
