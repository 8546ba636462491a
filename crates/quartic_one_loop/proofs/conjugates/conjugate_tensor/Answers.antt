use Rattle.std.proofs.Common.{ℕ, List, map, arith}
use Rattle.std.proofs.lemmas.Result.{IfOk-weaker}
use Rattle.beta_poly.specs.Polynomial.{Polynomial}
use Rattle.sparse_tensor.specs.Operations.{entry, gathered_at}
use Rattle.sparse_tensor.specs.Tensor.{HasValues, entries_of}
use Rattle.quartic_one_loop.specs.Boxes.{IsConjugate}
use Rattle.quartic_one_loop.proofs.ConjugateValues.{AreImages, entry_inside, inside_within, images_step, images_end, image_keys, is_conjugate}
use Rattle.quartic_one_loop.proofs.conjugates.conjugate_tensor.Goals as goal

pub conjugate_value-requires-clause-key : goal.conjugate_value-requires-clause-key
conjugate_value-requires-clause-key c =
    let e : List ℕ × Polynomial = (c.item.result.0.now, c.item.result.1.now) in
    (entry_inside c.args.model.now c.args.yukawa.now c.loop-place.place e c.requires.yukawa.values c.item.ensures).long

pub conjugate_value-requires-clause-inside : goal.conjugate_value-requires-clause-inside
conjugate_value-requires-clause-inside c =
    let e : List ℕ × Polynomial = (c.item.result.0.now, c.item.result.1.now) in
    inside_within c.args.model.now e.0 (entry_inside c.args.model.now c.args.yukawa.now c.loop-place.place e c.requires.yukawa.values c.item.ensures)

pub loop-place-preserved : goal.loop-place-preserved
loop-place-preserved c =
    let e : List ℕ × Polynomial = (c.item.result.0.now, c.item.result.1.now) in
    images_step c.args.model.now (entries_of c.args.yukawa.now) c.loop-place.values c.push.new.self c.loop-place.place e c.in_ok-conjugate_value.field-0 c.item.ensures c.loop-place.invariant
    (record {
      inside = entry_inside c.args.model.now c.args.yukawa.now c.loop-place.place e c.requires.yukawa.values c.item.ensures;
      value = c.in_ok-conjugate_value.ensures;
    }) c.in_ok-push.ensures.ok

pub gather-requires-clause-keys : goal.gather-requires-clause-keys
gather-requires-clause-keys c =
    let es = entries_of c.args.yukawa.now in
    image_keys c.args.model.now es c.loop-place.values (images_end c.args.model.now es c.loop-place.values c.loop-place.place (omega (arith, c.loop-place-test.false, c.len-place-end.ensures)) c.loop-place.invariant)

pub returns-clause-value : goal.returns-clause-value
returns-clause-value c =
    let model = c.args.model.now in
    let t = c.args.yukawa.now in
    let es = entries_of t in
    let vs = c.loop-place.values in
    let all : AreImages model es vs = images_end model es vs c.loop-place.place (omega (arith, c.loop-place-test.false, c.len-place-end.ensures)) c.loop-place.invariant in
    IfOk-weaker c.gather.result (HasValues 3 (gathered_at (map entry vs))) (IsConjugate model)
    (λ found gathered. is_conjugate model t vs c.requires.valid c.requires.yukawa all found gathered)
    c.gather.ensures.value
