use Rattle.std.proofs.Common.{sym}
use Rattle.model_reader.proofs.Literals.{not_text}
use Rattle.model_reader.proofs.literal.number_in.Goals as goal

pub returns-in-Err-clause-value : goal.returns-in-Err-clause-value
returns-in-Err-clause-value c = sym (not_text c.args.low c.args.high c.args.digits.now (rw c.in-Err.is at c.from_utf8.ensures.cases).0)
