use Rattle.std.proofs.Common.{length}
use Rattle.model_reader.proofs.term_checks.+checked_all_eps.Given as goal

abbrev pub decreases-checked_all_eps : goal.decreases-checked_all_eps
decreases-checked_all_eps l = length l.written.now
