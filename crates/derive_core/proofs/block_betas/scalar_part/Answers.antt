use Rattle.std.proofs.Common.{◌≡◌, ℕ, List, [], map, arith, ap, ◌∙◌}
use Rattle.std.specs.List.{flat_map}
use Rattle.std.proofs.lemmas.List.{take_all}
use Rattle.std.proofs.lemmas.Result.{IfOk-weaker}
use Rattle.beta_poly.specs.Polynomial.{Polynomial}
use Rattle.sparse_tensor.specs.Operations.{entry, gathered_at}
use Rattle.sparse_tensor.specs.Tensor.{HasValues, entries_of}
use Rattle.derive_core.specs.BlockBetas.{scalar_side_beta}
use Rattle.derive_core.specs.SideBetas.{side_values}
use Rattle.derive_core.proofs.TensorEntries.{no_entries, joined_step}
use Rattle.derive_core.proofs.ConjugateSums.{nothing_gathered}
use Rattle.derive_core.proofs.BlockSums.{has_part, part_keys, no_part}
use Rattle.derive_core.proofs.block_betas.scalar_part.Goals as goal

pub loop-place-preserved : goal.loop-place-preserved
loop-place-preserved c =
    let e : List ℕ × Polynomial = (c.item.result.0.now, c.item.result.1.now) in
    joined_step (side_values c.args.model.now c.args.side) (entries_of c.args.scalar.now) c.loop-place.place e [] c.loop-place.values c.push_on_side.new.values c.item.ensures c.loop-place.invariant c.in_ok-push_on_side.ensures

pub gather-requires-clause-keys : goal.gather-requires-clause-keys
gather-requires-clause-keys c =
    let es = entries_of c.args.scalar.now in
    let vs = c.loop-place.values in
    let all : vs ≡ flat_map (side_values c.args.model.now c.args.side) es = c.loop-place.invariant ∙ ap (flat_map (side_values c.args.model.now c.args.side)) (take_all c.loop-place.place es (omega (arith, c.loop-place-test.false, c.len-place-end.ensures))) in
    part_keys c.args.model.now c.args.side c.args.scalar.now vs c.requires.scalar.rank_is all

pub returns-clause-value : goal.returns-clause-value
returns-clause-value c =
    let es = entries_of c.args.scalar.now in
    let vs = c.loop-place.values in
    let all : vs ≡ flat_map (side_values c.args.model.now c.args.side) es = c.loop-place.invariant ∙ ap (flat_map (side_values c.args.model.now c.args.side)) (take_all c.loop-place.place es (omega (arith, c.loop-place-test.false, c.len-place-end.ensures))) in
    IfOk-weaker c.gather.result (HasValues 4 (gathered_at (map entry vs))) (HasValues 4 (scalar_side_beta c.args.model.now c.args.side))
    (λ found gathered. has_part c.args.model.now c.args.side c.args.scalar.now vs found c.requires.scalar all gathered)
    c.gather.ensures.value

pub returns-clause-none : goal.returns-clause-none
returns-clause-none c none =
    let es = entries_of c.args.scalar.now in
    let vs = c.loop-place.values in
    let all : vs ≡ flat_map (side_values c.args.model.now c.args.side) es = c.loop-place.invariant ∙ ap (flat_map (side_values c.args.model.now c.args.side)) (take_all c.loop-place.place es (omega (arith, c.loop-place-test.false, c.len-place-end.ensures))) in
    IfOk-weaker c.gather.result (HasValues 4 (gathered_at (map entry vs))) (λ found. entries_of found ≡ [])
    (λ found gathered. no_entries 4 (gathered_at (map entry vs)) found gathered (λ key. nothing_gathered vs key (no_part c.args.model.now c.args.side es vs all none)))
    c.gather.ensures.value
