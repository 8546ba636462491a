use Rattle.std.proofs.Common.{ℕ, List, ap₂}
use Rattle.beta_poly.specs.Polynomial.{Polynomial}
use Rattle.sparse_tensor.specs.declared.values.Value.{Value}
use Rattle.sparse_tensor.specs.Tensor.{entries_of}
use Rattle.term_expand.specs.Multiples.{entry_on_side}
use Rattle.term_expand.proofs.Mapped.{mapped_step}
use Rattle.term_expand.proofs.directions.push_on_side.Goals as goal

pub loop-place-preserved : goal.loop-place-preserved
loop-place-preserved c =
    let e : List ℕ × Polynomial = (c.item.result.0.now, c.item.result.1.now) in
    let v : Value = record { key = c.in_ok-key_on_side.field-0; value = c.in_ok-copy.field-0 } in
    mapped_step (entry_on_side c.args.side) (entries_of c.args.tensor.now) c.loop-place.place e v c.args.values.now c.loop-place.values c.push.new.self c.item.ensures
    (ap₂ (λ k p. record { key = k; value = p }) c.in_ok-key_on_side.ensures c.in_ok-copy.ensures) c.loop-place.invariant c.in_ok-push.ensures.ok
