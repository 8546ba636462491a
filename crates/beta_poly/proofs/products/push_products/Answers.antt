use Rattle.std.proofs.Common.{arith}
use Rattle.beta_poly.proofs.Rows.{row_start, row_step, pair_fits}
use Rattle.beta_poly.proofs.products.push_products.Goals as goal

pub loop-b-init : goal.loop-b-init
loop-b-init c = row_start c.args.out.now.items c.args.a.now

pub push_product-requires : goal.push_product-requires
push_product-requires c =
    pair_fits c.args.a.now c.b-item.result c.args.terms.now c.loop-b.b-index (omega arith) c.b-item.is c.requires

pub loop-b-preserved : goal.loop-b-preserved
loop-b-preserved c =
    row_step c.args.out.now.items c.loop-b.out.items c.push_product.new.out.items c.args.a.now c.b-item.result c.args.terms.now c.loop-b.b-index (omega arith) c.b-item.is c.loop-b.invariant c.in_ok-push_product.ensures.value
