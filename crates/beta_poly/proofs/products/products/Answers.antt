use Rattle.std.proofs.Common.{arith, ◌∙◌}
use Rattle.beta_poly.proofs.Rows.{rows_start, rows_step}
use Rattle.beta_poly.proofs.products.products.Goals as goal

pub loop-term-init : goal.loop-term-init
loop-term-init c = c.new-out.ensures.items ∙ rows_start c.args.b.now

pub loop-term-preserved : goal.loop-term-preserved
loop-term-preserved c =
    rows_step c.loop-term.out.items c.push_products.new.out.items c.term-item.result c.args.a.now c.args.b.now c.loop-term.term-index (omega arith) c.term-item.is c.loop-term.invariant c.in_ok-push_products.ensures.value
