use Rattle.std.proofs.Common.{map, arith}
use Rattle.std.proofs.lemmas.Result.{IfOk-weaker}
use Rattle.sparse_tensor.specs.Operations.{entry, gathered_at}
use Rattle.sparse_tensor.specs.Tensor.{HasValues}
use Rattle.quartic_one_loop.specs.GaugePairs.{IsPartners}
use Rattle.quartic_one_loop.proofs.PartnerValues.{are_partners, no_values, value_keys}
use Rattle.quartic_one_loop.proofs.pairs.partners_of.Goals as goal

pub loop-place-init : goal.loop-place-init
loop-place-init c = no_values c.args.model.now c.new-values.result c.new-values.ensures

pub gather-requires-clause-keys : goal.gather-requires-clause-keys
gather-requires-clause-keys c = value_keys c.args.model.now c.loop-place.place c.loop-place.values c.loop-place.invariant

pub returns-clause-value : goal.returns-clause-value
returns-clause-value c =
    let vs = c.loop-place.values in
    IfOk-weaker c.gather.result (HasValues 3 (gathered_at (map entry vs))) (IsPartners c.args.model.now)
    (λ t has. are_partners c.args.model.now c.loop-place.place vs c.loop-place.invariant t (omega (arith, c.loop-place-test.false, c.loop-place.auto.place-end, c.scalar_count-place-end.ensures)) has) c.gather.ensures.value
