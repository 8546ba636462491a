use Rattle.std.proofs.Common.{ℕ, List, length, ap₂}
use Rattle.beta_poly.specs.Exponents.{AllWithin}
use Rattle.beta_poly.specs.Polynomial.{Polynomial}
use Rattle.sparse_tensor.specs.declared.values.Value.{Value}
use Rattle.sparse_tensor.specs.Tensor.{entries_of}
use Rattle.term_expand.proofs.Mapped.{mapped_step}
use Rattle.yukawa_one_loop.specs.Parts.{IsInside, weighted}
use Rattle.yukawa_one_loop.proofs.GaugeSums.{entry_meets, entry_long}
use Rattle.yukawa_one_loop.proofs.gauges.push_group.Goals as goal

pub weighted-requires-clause-key : goal.weighted-requires-clause-key
weighted-requires-clause-key c =
    entry_long c.args.matrix.now 2 c.loop-place.place (c.item.result.0.now, c.item.result.1.now) c.requires.rank c.item.ensures

pub weighted-requires-clause-first : goal.weighted-requires-clause-first
weighted-requires-clause-first c =
    (entry_meets (IsInside (length c.args.line.now.casimirs)) (entries_of c.args.matrix.now) c.loop-place.place (c.item.result.0.now, c.item.result.1.now) c.requires.inside c.item.ensures).0

pub weighted-requires-clause-second : goal.weighted-requires-clause-second
weighted-requires-clause-second c =
    (entry_meets (IsInside (length c.args.line.now.casimirs)) (entries_of c.args.matrix.now) c.loop-place.place (c.item.result.0.now, c.item.result.1.now) c.requires.inside c.item.ensures).1

pub weighted-requires-clause-value : goal.weighted-requires-clause-value
weighted-requires-clause-value c =
    entry_meets (λ e. AllWithin 1 e.1) (entries_of c.args.matrix.now) c.loop-place.place (c.item.result.0.now, c.item.result.1.now) c.requires.matrix c.item.ensures

pub loop-place-preserved : goal.loop-place-preserved
loop-place-preserved c =
    let e : List ℕ × Polynomial = (c.item.result.0.now, c.item.result.1.now) in
    let v : Value = record { key = c.in_ok-copied.field-0; value = c.in_ok-weighted.field-0 } in
    mapped_step (weighted c.args.line.now) (entries_of c.args.matrix.now) c.loop-place.place e v c.args.values.now c.loop-place.values c.push.new.self c.item.ensures
    (ap₂ (λ k p. record { key = k; value = p }) c.in_ok-copied.ensures c.in_ok-weighted.ensures.value)
    c.loop-place.invariant c.in_ok-push.ensures.ok
