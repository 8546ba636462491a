use Rattle.std.proofs.Common.{ℕ, List, ap₂}
use Rattle.beta_poly.specs.Polynomial.{Polynomial}
use Rattle.sparse_tensor.specs.declared.values.Value.{Value}
use Rattle.sparse_tensor.specs.Tensor.{entries_of}
use Rattle.term_expand.proofs.Mapped.{mapped_step}
use Rattle.yukawa_one_loop.specs.Entries.{entry_behind}
use Rattle.yukawa_one_loop.proofs.stacks.push_layer.Goals as goal

pub loop-at-preserved : goal.loop-at-preserved
loop-at-preserved c =
    let e : List ℕ × Polynomial = (c.item.result.0.now, c.item.result.1.now) in
    let v : Value = record { key = c.in_ok-key_behind.field-0; value = c.in_ok-copy.field-0 } in
    mapped_step (entry_behind c.args.place) (entries_of c.args.matrix.now) c.loop-at.at e v c.args.values.now c.loop-at.values c.push.new.self c.item.ensures
    (ap₂ (λ k p. record { key = k; value = p }) c.in_ok-key_behind.ensures c.in_ok-copy.ensures) c.loop-at.invariant c.in_ok-push.ensures.ok
