use Rattle.sparse_tensor.specs.Tensor.{entries_of}
use Rattle.span_solver.proofs.Opens.{keys-more}
use Rattle.span_solver.proofs.keys.keys_in.Goals as goal

pub loop-place-preserved : goal.loop-place-preserved
loop-place-preserved c =
    keys-more (entries_of c.args.tensor.now) c.loop-place.place c.item.result.0.now c.item.result.1.now c.loop-place.out.items c.push_key.new.out.items c.item.ensures c.loop-place.invariant c.in_ok-push_key.ensures
