use Rattle.std.proofs.Common.{length, ap, ◌∙◌}
use Rattle.std.proofs.lemmas.List.Sorted.{length_permutation}
use Rattle.sparse_tensor.proofs.symmetries.folded.Goals as goal

pub exchanged_key-requires-clause-order : goal.exchanged_key-requires-clause-order
exchanged_key-requires-clause-order c =
    ap length c.as_slice.ensures.value ∙ length_permutation c.args.legs.now c.in_ok-order.order.items c.in_ok-order.ensures
