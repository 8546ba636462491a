use Rattle.std.proofs.Common.{ℕ, List, map, sym, ◌∙◌, arith}
use Rattle.std.proofs.lemmas.Result.{IfOk-weaker}
use Rattle.beta_poly.specs.Polynomial.{Polynomial}
use Rattle.sparse_tensor.specs.Tensor.{HasValues, entries_of}
use Rattle.sparse_tensor.specs.Operations.{entry, gathered_at}
use Rattle.model_core.specs.Directions.{conjugated}
use Rattle.term_expand.specs.Multiples.{HasNumbers}
use Rattle.term_expand.proofs.Conjugates.{AreConjugates, entry_inside, conjugates_step, conjugates_end, conjugate_keys, has_conjugate}
use Rattle.term_expand.proofs.multiples.conjugate.Goals as goal

pub partners-requires-clause-inside : goal.partners-requires-clause-inside
partners-requires-clause-inside c =
    entry_inside c.args.model.now c.args.kind c.args.tensor.now c.loop-place.place (c.item.result.0.now, c.item.result.1.now) c.requires.numbers c.item.ensures

pub loop-place-preserved : goal.loop-place-preserved
loop-place-preserved c =
    let e : List ℕ × Polynomial = (c.item.result.0.now, c.item.result.1.now) in
    conjugates_step c.args.model.now c.args.kind (entries_of c.args.tensor.now) c.loop-place.values c.push.new.self c.loop-place.place e (record { key = c.in_ok-partners.field-0; value = c.in_ok-copy.field-0 }) c.item.ensures c.loop-place.invariant
    (record {
      inside = entry_inside c.args.model.now c.args.kind c.args.tensor.now c.loop-place.place e c.requires.numbers c.item.ensures;
      key = c.in_ok-partners.ensures;
      value = c.in_ok-copy.ensures;
    }) c.in_ok-push.ensures.ok

pub gather-requires-clause-keys : goal.gather-requires-clause-keys
gather-requires-clause-keys c k d within =
    let es = entries_of c.args.tensor.now in
    let all : AreConjugates c.args.model.now c.args.kind es c.loop-place.values = conjugates_end c.args.model.now c.args.kind es c.loop-place.values c.loop-place.place (omega (arith, c.loop-place-test.false, c.len-place-end.ensures)) c.loop-place.invariant in
    conjugate_keys c.args.model.now c.args.kind es c.loop-place.values all k d within ∙ sym (c.rank.ensures.value ∙ c.requires.numbers.has.rank_is)

pub returns-clause-value : goal.returns-clause-value
returns-clause-value c f has =
    let es = entries_of c.args.tensor.now in
    let vs = c.loop-place.values in
    let all : AreConjugates c.args.model.now c.args.kind es vs = conjugates_end c.args.model.now c.args.kind es vs c.loop-place.place (omega (arith, c.loop-place-test.false, c.len-place-end.ensures)) c.loop-place.invariant in
    IfOk-weaker c.gather.result (HasValues c.rank.result (gathered_at (map entry vs))) (HasNumbers c.args.model.now c.args.kind (conjugated c.args.kind f))
    (λ found gathered. has_conjugate c.args.model.now c.args.kind f c.args.tensor.now vs c.rank.result found c.requires.valid has all c.rank.ensures.value gathered)
    c.gather.ensures.value
