use Rattle.std.proofs.Common.{◌++◌, map, ap, ◌∙◌}
use Rattle.std.proofs.lemmas.Result.{IfOk-weaker}
use Rattle.sparse_tensor.specs.Operations.{entry, gathered_at}
use Rattle.sparse_tensor.specs.Tensor.{HasValues, entries_of}
use Rattle.gauge_check.specs.Actions.{value_of}
use Rattle.quartic_one_loop.specs.GaugePairs.{HasNumbers, sum_at}
use Rattle.quartic_one_loop.proofs.NumberMatrices.{has_sum, sum_keys}
use Rattle.quartic_one_loop.proofs.pairs.sum_of.Goals as goal

pub gather-requires-clause-keys : goal.gather-requires-clause-keys
gather-requires-clause-keys c =
    let right = map value_of (entries_of c.args.right.now) in
    sum_keys c.args.left.now c.args.right.now c.push_entries-2.new.values
    (c.in_ok-push_entries-2.ensures ∙ ap (λ l. l ++ right) (c.in_ok-push_entries.ensures ∙ ap (λ l. l ++ map value_of (entries_of c.args.left.now)) c.new-values.ensures))
    c.requires.left c.requires.right

pub returns-clause-value : goal.returns-clause-value
returns-clause-value c model f g first second =
    let right = map value_of (entries_of c.args.right.now) in
    let vs = c.push_entries-2.new.values in
    IfOk-weaker c.gather.result (HasValues 3 (gathered_at (map entry vs))) (HasNumbers model (sum_at f g))
    (λ t has. has_sum model f g c.args.left.now c.args.right.now t vs
    (c.in_ok-push_entries-2.ensures ∙ ap (λ l. l ++ right) (c.in_ok-push_entries.ensures ∙ ap (λ l. l ++ map value_of (entries_of c.args.left.now)) c.new-values.ensures))
    first second has)
    c.gather.ensures.value
