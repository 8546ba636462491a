use Rattle.std.proofs.Common.{true≢false, sym}
use Rattle.span_solver.proofs.Faults.{sum_pair}
use Rattle.span_solver.proofs.numbers.difference.Goals as goal

pub returns-in-Err-clause-refused : goal.returns-in-Err-clause-refused
returns-in-Err-clause-refused c = sum_pair c.args.a.now c.negated.result c.in-Err.pair c.in-Err.ensures.operands (λ f. true≢false (sym (c.in-Err.ensures.fits.1 f)))
