use Rattle.std.proofs.Common.{length}
use Rattle.model_reader.proofs.term_checks.+checked_labels.Given as goal

abbrev pub decreases-checked_labels : goal.decreases-checked_labels
decreases-checked_labels l = length l.labels.now
