use Rattle.std.proofs.Common.{arith}
use Rattle.span_solver.proofs.SystemSteps.{combine-start, combine-more, combine-end}
use Rattle.span_solver.proofs.systems.combine.Goals as goal

pub loop-i-init : goal.loop-i-init
loop-i-init c = combine-start c.args.entries.now c.args.values.now c.zero-total.result c.zero-total.ensures

pub loop-i-preserved : goal.loop-i-preserved
loop-i-preserved c =
    combine-more c.loop-i.i c.args.entries.now c.args.values.now c.index-entries-i.result c.index-values-i.result c.loop-i.total c.in_ok-product.product c.in_ok-total.total c.requires c.loop-i-test.true c.index-entries-i.is c.index-values-i.is c.loop-i.invariant c.in_ok-product.ensures.value c.in_ok-total.ensures.value

pub returns-clause-value : goal.returns-clause-value
returns-clause-value c = combine-end c.loop-i.i c.args.entries.now c.args.values.now c.loop-i.total c.loop-i-test.false (omega arith) c.loop-i.invariant
