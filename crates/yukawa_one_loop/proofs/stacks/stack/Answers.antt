use Rattle.std.proofs.Common.{map, ap, ◌∙◌, ◌++◌, arith}
use Rattle.std.proofs.lemmas.Result.{IfOk-weaker}
use Rattle.sparse_tensor.specs.Tensor.{HasValues, entries_of}
use Rattle.sparse_tensor.specs.Operations.{entry, gathered_at}
use Rattle.yukawa_one_loop.specs.Entries.{entry_behind, values_from, stacked_at}
use Rattle.yukawa_one_loop.proofs.Layers.{layers_step, layers_end, stack_keys, stack_values}
use Rattle.yukawa_one_loop.proofs.stacks.stack.Goals as goal

pub loop-at-preserved : goal.loop-at-preserved
loop-at-preserved c =
    let ts = c.args.matrices.now in
    let t = c.item.result.now in
    layers_step ts c.loop-at.at t c.loop-at.values c.push_layer.new.values (values_from 0 ts) c.item.ensures c.loop-at.invariant
    (c.in_ok-push_layer.ensures ∙ ap (λ n. c.loop-at.values ++ map (entry_behind n) (entries_of t)) c.in_ok-place.ensures.value)

pub gather-requires-clause-keys : goal.gather-requires-clause-keys
gather-requires-clause-keys c =
    let ts = c.args.matrices.now in
    stack_keys ts c.requires c.loop-at.values (layers_end ts c.loop-at.at c.loop-at.values (values_from 0 ts) (omega (arith, c.loop-at-test.false, c.len-at-end.ensures)) c.loop-at.invariant)

pub returns-clause-value : goal.returns-clause-value
returns-clause-value c =
    let ts = c.args.matrices.now in
    let vs = c.loop-at.values in
    IfOk-weaker c.gather.result (HasValues 3 (gathered_at (map entry vs))) (HasValues 3 (stacked_at ts))
    (stack_values ts c.requires vs (layers_end ts c.loop-at.at vs (values_from 0 ts) (omega (arith, c.loop-at-test.false, c.len-at-end.ensures)) c.loop-at.invariant))
    c.gather.ensures.value
