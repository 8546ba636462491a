use Rattle.std.proofs.Common.{ℕ, List, length, ap₂}
use Rattle.beta_poly.specs.Exponents.{AllWithin}
use Rattle.beta_poly.specs.Polynomial.{Polynomial}
use Rattle.sparse_tensor.specs.declared.values.Value.{Value}
use Rattle.sparse_tensor.specs.Tensor.{entries_of}
use Rattle.term_expand.proofs.Mapped.{mapped_step}
use Rattle.yukawa_one_loop.proofs.GaugeSums.{entry_meets, entry_long}
use Rattle.quartic_one_loop.specs.ChargeParts.{StartsBelow, charged}
use Rattle.quartic_one_loop.proofs.charges.push_charged.Goals as goal

pub charged-requires-clause-key : goal.charged-requires-clause-key
charged-requires-clause-key c =
    entry_long c.args.tensor.now 4 c.loop-place.place (c.item.result.0.now, c.item.result.1.now) c.requires.rank c.item.ensures

pub charged-requires-clause-first : goal.charged-requires-clause-first
charged-requires-clause-first c =
    entry_meets (StartsBelow (length c.args.casimirs.now)) (entries_of c.args.tensor.now) c.loop-place.place (c.item.result.0.now, c.item.result.1.now) c.requires.inside c.item.ensures

pub charged-requires-clause-value : goal.charged-requires-clause-value
charged-requires-clause-value c =
    entry_meets (λ e. AllWithin 1 e.1) (entries_of c.args.tensor.now) c.loop-place.place (c.item.result.0.now, c.item.result.1.now) c.requires.tensor c.item.ensures

pub loop-place-preserved : goal.loop-place-preserved
loop-place-preserved c =
    let e : List ℕ × Polynomial = (c.item.result.0.now, c.item.result.1.now) in
    let v : Value = record { key = c.in_ok-copied.field-0; value = c.in_ok-charged.field-0 } in
    mapped_step (charged c.args.casimirs.now c.args.factor.now) (entries_of c.args.tensor.now) c.loop-place.place e v c.args.values.now c.loop-place.values c.push.new.self c.item.ensures
    (ap₂ (λ k p. record { key = k; value = p }) c.in_ok-copied.ensures c.in_ok-charged.ensures.value)
    c.loop-place.invariant c.in_ok-push.ensures.ok
