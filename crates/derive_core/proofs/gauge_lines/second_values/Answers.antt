use Rattle.derive_core.proofs.SecondLines.{large_gauge}
use Rattle.derive_core.proofs.gauge_lines.second_values.Goals as goal

pub returns-in-Err-Overflow : goal.returns-in-Err-Overflow
returns-in-Err-Overflow g c =
    let refused = rw c.in-Err-Overflow.field-0-is at c.in-Err-Overflow.ensures.refused in
    record { refused = refused.1; large = large_gauge refused.0 }
