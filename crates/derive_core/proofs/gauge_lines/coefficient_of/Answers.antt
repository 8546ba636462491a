use Rattle.std.proofs.Common.{inr}
use Rattle.derive_core.proofs.gauge_lines.coefficient_of.Goals as goal

pub returns-in-Err : goal.returns-in-Err
returns-in-Err c = record { refused = c.in-Err.ensures.refused; large = inr (inr c.in-Err.ensures.large) }
