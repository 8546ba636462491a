use Rattle.std.proofs.Common.{ℕ, List, map, arith}
use Rattle.std.proofs.lemmas.Result.{IfOk-weaker}
use Rattle.beta_poly.specs.Polynomial.{Polynomial}
use Rattle.sparse_tensor.specs.Tensor.{HasValues, entries_of, value}
use Rattle.sparse_tensor.specs.Operations.{entry, gathered_at}
use Rattle.yukawa_one_loop.specs.Entries.{sliced, slice_at}
use Rattle.yukawa_one_loop.proofs.Slices.{entry_three, flat_step, flat_end, slice_keys, slice_values}
use Rattle.yukawa_one_loop.proofs.matrices.slice_of.Goals as goal

pub push_sliced-requires : goal.push_sliced-requires
push_sliced-requires c =
    entry_three c.args.tensor.now c.loop-at.at (c.item.result.0.now, c.item.result.1.now) c.requires c.item.ensures

pub loop-at-preserved : goal.loop-at-preserved
loop-at-preserved c =
    let e : List ℕ × Polynomial = (c.item.result.0.now, c.item.result.1.now) in
    flat_step (sliced c.args.place) (entries_of c.args.tensor.now) c.loop-at.at e c.loop-at.values c.push_sliced.new.values c.item.ensures c.loop-at.invariant c.in_ok-push_sliced.ensures

pub gather-requires-clause-keys : goal.gather-requires-clause-keys
gather-requires-clause-keys c =
    slice_keys c.args.place c.args.tensor.now c.requires c.loop-at.values
    (flat_end (sliced c.args.place) (entries_of c.args.tensor.now) c.loop-at.at c.loop-at.values (omega (arith, c.loop-at-test.false, c.len-at-end.ensures)) c.loop-at.invariant)

pub returns-clause-value : goal.returns-clause-value
returns-clause-value c =
    let t = c.args.tensor.now in
    let vs = c.loop-at.values in
    IfOk-weaker c.gather.result (HasValues 2 (gathered_at (map entry vs))) (HasValues 2 (slice_at c.args.place (value t)))
    (slice_values c.args.place t c.requires vs (flat_end (sliced c.args.place) (entries_of t) c.loop-at.at vs (omega (arith, c.loop-at-test.false, c.len-at-end.ensures)) c.loop-at.invariant))
    c.gather.ensures.value
