use Rattle.print_beta.proofs.CsvRows.{value_rows}
use Rattle.print_beta.proofs.csv_text.push_value.Goals as goal

pub returns : goal.returns
returns c =
    rw (value_rows c.args.front.now c.args.targets.now c.args.value.now.0 (rw c.len.ensures at c.if-len-eq0.false)) c.push_terms.ensures
