use Rattle.std.proofs.Common.{ℕ, List, ap₂, ap, ◌∙◌}
use Rattle.beta_poly.specs.Polynomial.{Polynomial, coefficient_of, term as poly_term}
use Rattle.sparse_tensor.specs.declared.values.Value.{Value}
use Rattle.sparse_tensor.specs.Tensor.{entries_of}
use Rattle.term_expand.specs.Multiples.{multiple_entry}
use Rattle.term_expand.proofs.Mapped.{mapped_step}
use Rattle.term_expand.proofs.multiples.push_multiples.Goals as goal

pub loop-place-preserved : goal.loop-place-preserved
loop-place-preserved c =
    let e : List ℕ × Polynomial = (c.item.result.0.now, c.item.result.1.now) in
    let v : Value = record { key = c.in_ok-copied.field-0; value = c.in_ok-term.field-0 } in
    mapped_step (multiple_entry c.args.symbol) (entries_of c.args.tensor.now) c.loop-place.place e v c.args.values.now c.loop-place.values c.push.new.self c.item.ensures
    (ap₂ (λ k p. record { key = k; value = p }) c.in_ok-copied.ensures (c.in_ok-term.ensures ∙ ap₂ poly_term c.in_ok-mono.ensures (c.coefficient.ensures ∙ ap (coefficient_of c.item.result.1.now) c.in_ok-one.ensures)))
    c.loop-place.invariant c.in_ok-push.ensures.ok
