use Rattle.std.proofs.Common.{◌∙◌, sym, true≢false}
use Rattle.sparse_tensor.specs.Tensor.{entries_of}
use Rattle.span_solver.proofs.Opens.{known-step, stray-here}
use Rattle.span_solver.proofs.scan.first_stray.Goals as goal

pub returns-then-not-has_key-clause-value : goal.returns-then-not-has_key-clause-value
returns-then-not-has_key-clause-value c =
    stray-here c.args.keys.now (entries_of c.args.tensor.now) c.loop-place.place c.item.result.0.now c.item.result.1.now c.loop-place.invariant c.item.ensures
    (λ i. absurd (true≢false (sym (c.has_key.ensures.1 i) ∙ c.if-not-has_key.true)))

pub loop-place-preserved : goal.loop-place-preserved
loop-place-preserved c =
    known-step c.args.keys.now (entries_of c.args.tensor.now) c.loop-place.place c.item.result.0.now c.item.result.1.now c.loop-place.invariant c.item.ensures (c.has_key.ensures.0 c.if-not-has_key.false)
