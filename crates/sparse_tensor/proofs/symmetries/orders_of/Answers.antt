use Rattle.std.proofs.Common.{◌++◌, ◌∷◌, [], ap₂, ◌∙◌, arith}
use Rattle.sparse_tensor.proofs.Inserts.{orders_start, orders_back}
use Rattle.sparse_tensor.proofs.symmetries.orders_of.Goals as goal

pub loop-i-init : goal.loop-i-init
loop-i-init c = record {
  in_range = omega arith;
  collected = orders_start c.args.legs.now c.push.new.self.items (c.in_ok-push.ensures.items ∙ ap₂ (λ r k. r ++ k ∷ []) c.new-all.ensures.items c.in_ok-from_slice.ensures);
}

pub loop-i-preserved : goal.loop-i-preserved
loop-i-preserved c = record {
  in_range = omega arith;
  collected = orders_back c.args.legs.now c.loop-i.i c.as_slice.result.now c.in_ok-all.all.items (omega arith) (omega arith) (c.as_slice.ensures.value ∙ c.loop-i.invariant.collected) c.in_ok-all.ensures;
}
