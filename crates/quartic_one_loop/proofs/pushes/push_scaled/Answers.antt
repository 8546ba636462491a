use Rattle.std.proofs.Common.{ℕ, List, ap₂, arith}
use Rattle.beta_poly.specs.Polynomial.{Polynomial, constant, scale_poly}
use Rattle.sparse_tensor.specs.declared.values.Value.{Value}
use Rattle.sparse_tensor.specs.Tensor.{entries_of}
use Rattle.term_expand.proofs.Mapped.{mapped_step}
use Rattle.yukawa_one_loop.specs.Entries.{with_value}
use Rattle.yukawa_one_loop.proofs.Entrywise.{times_additive, mapped_end}
use Rattle.quartic_one_loop.proofs.Adding.{adds_image}
use Rattle.quartic_one_loop.proofs.pushes.push_scaled.Goals as goal

pub loop-place-preserved : goal.loop-place-preserved
loop-place-preserved c =
    let e : List ℕ × Polynomial = (c.item.result.0.now, c.item.result.1.now) in
    let v : Value = record { key = c.in_ok-copied.field-0; value = c.in_ok-scale.field-0 } in
    mapped_step (with_value (scale_poly c.args.number)) (entries_of c.args.tensor.now) c.loop-place.place e v c.args.values.now c.loop-place.values c.push.new.self c.item.ensures
    (ap₂ (λ k p. record { key = k; value = p }) c.in_ok-copied.ensures c.in_ok-scale.ensures.value) c.loop-place.invariant c.in_ok-push.ensures.ok

pub returns-clause-value : goal.returns-clause-value
returns-clause-value c model f has =
    let t = c.args.tensor.now in
    adds_image model (scale_poly c.args.number) (times_additive (constant c.args.number)) f t c.args.values.now c.loop-place.values has
    (mapped_end (with_value (scale_poly c.args.number)) (entries_of t) c.loop-place.place c.args.values.now c.loop-place.values (omega (arith, c.loop-place-test.false, c.len-place-end.ensures)) c.loop-place.invariant)
