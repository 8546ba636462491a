use Rattle.std.proofs.Common.{◌≡◌, ◌-◌, ◌++◌, suc, map, arith, ap, ◌∙◌}
use Rattle.std.proofs.lemmas.Result.{IfOk-weaker}
use Rattle.sparse_tensor.specs.Tensor.{HasValues, rank_of, value}
use Rattle.sparse_tensor.specs.Operations.{entry, gathered_at}
use Rattle.gauge_check.specs.Actions.{on_side, side_values}
use Rattle.gauge_check.proofs.Gathers.{one_side_keys, has_side}
use Rattle.gauge_check.proofs.parts.side_part.Goals as goal

pub gather-requires-clause-keys : goal.gather-requires-clause-keys
gather-requires-clause-keys c =
    let low = c.requires in
    let same = c.rank.ensures.value in
    let ranked : suc (c.rank.result - 1) ≡ rank_of c.args.tensor.now = omega (arith, low, same) in
    one_side_keys c.args.tensor.now (c.rank.result - 1) ranked c.args.side c.push_side.new.values
    (c.in_ok-push_side.ensures ∙ ap (λ l. l ++ side_values c.args.side c.args.tensor.now) c.new-values.ensures)

pub returns-clause-value : goal.returns-clause-value
returns-clause-value c rank ranked =
    let same : c.rank.result - 1 ≡ rank = let is = c.rank.ensures.value in omega (arith, is, ranked) in
    let vs = c.push_side.new.values in
    IfOk-weaker c.gather.result (HasValues (c.rank.result - 1) (gathered_at (map entry vs))) (HasValues rank (on_side c.args.side (value c.args.tensor.now)))
    (λ found has. has_side c.args.tensor.now rank ranked vs (c.rank.result - 1) found same has c.args.side
    (c.in_ok-push_side.ensures ∙ ap (λ l. l ++ side_values c.args.side c.args.tensor.now) c.new-values.ensures))
    c.gather.ensures.value
