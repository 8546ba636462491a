use Rattle.std.proofs.Common.{true≢false, sym}
use Rattle.span_solver.proofs.Faults.{product_pair}
use Rattle.span_solver.proofs.numbers.times.Goals as goal

pub returns-in-Err-clause-refused : goal.returns-in-Err-clause-refused
returns-in-Err-clause-refused c = product_pair c.args.a.now c.args.b.now c.in-Err.pair c.in-Err.ensures.operands (λ f. true≢false (sym (c.in-Err.ensures.fits.1 f)))
