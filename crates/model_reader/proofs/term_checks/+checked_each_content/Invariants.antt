use Rattle.std.proofs.Common.{length}
use Rattle.model_reader.proofs.term_checks.+checked_each_content.Given as goal

abbrev pub decreases-checked_each_content : goal.decreases-checked_each_content
decreases-checked_each_content l = length l.sum.now
