use Rattle.std.proofs.Common.{arith}
use Rattle.sparse_tensor.proofs.Inserts.{inserts_step, inserts_end}
use Rattle.sparse_tensor.proofs.symmetries.push_inserts.Goals as goal

pub loop-place-preserved : goal.loop-place-preserved
loop-place-preserved c = record {
  in_range = omega arith;
  collected = inserts_step c.args.out.now.items c.loop-place.out.items c.push.new.self.items c.args.leg c.args.order.now c.in_ok-longer.longer c.loop-place.place (omega arith) c.loop-place.invariant.collected c.in_ok-longer.ensures c.in_ok-push.ensures.items;
}

pub returns : goal.returns
returns c =
    inserts_end c.args.out.now.items c.loop-place.out.items c.args.leg c.args.order.now c.loop-place.place (omega arith) c.loop-place.invariant.collected
