use Rattle.std.proofs.Common.{◌≡◌, ℕ, List, [], map, arith}
use Rattle.std.proofs.lemmas.Result.{IfOk-weaker, IfErr-weaker}
use Rattle.beta_poly.specs.Polynomial.{Polynomial}
use Rattle.sparse_tensor.specs.Operations.{entry, gathered_at}
use Rattle.sparse_tensor.specs.Refusals.{IsRefusalOf, IsSumRefusalOf}
use Rattle.sparse_tensor.specs.Tensor.{HasValues, entries_of}
use Rattle.derive_core.specs.BlockBetas.{conjugate_beta_at}
use Rattle.derive_core.proofs.TensorEntries.{entry_long, no_entries, sum_refusal}
use Rattle.derive_core.proofs.ConjugateSums.{AreConjugates, entry_inside, inside_within, conjugates_step, conjugates_end, conjugate_keys, no_values, nothing_gathered, has_conjugate}
use Rattle.derive_core.proofs.block_betas.conjugate_beta.Goals as goal

pub conjugate_value-requires-clause-key : goal.conjugate_value-requires-clause-key
conjugate_value-requires-clause-key c =
    let e : List ℕ × Polynomial = (c.item.result.0.now, c.item.result.1.now) in
    entry_long 3 c.args.yukawa.now c.loop-place.place e c.requires.yukawa.rank_is c.item.ensures

pub conjugate_value-requires-clause-inside : goal.conjugate_value-requires-clause-inside
conjugate_value-requires-clause-inside c =
    let e : List ℕ × Polynomial = (c.item.result.0.now, c.item.result.1.now) in
    inside_within c.args.model.now e.0 (entry_inside c.args.model.now c.args.yukawa.now c.loop-place.place e c.requires.yukawa c.item.ensures)

pub loop-place-preserved : goal.loop-place-preserved
loop-place-preserved c =
    let e : List ℕ × Polynomial = (c.item.result.0.now, c.item.result.1.now) in
    conjugates_step c.args.model.now (entries_of c.args.yukawa.now) c.loop-place.values c.push.new.self c.loop-place.place e c.in_ok-conjugate_value.field-0 c.item.ensures c.loop-place.invariant
    (record {
      long = entry_long 3 c.args.yukawa.now c.loop-place.place e c.requires.yukawa.rank_is c.item.ensures;
      inside = entry_inside c.args.model.now c.args.yukawa.now c.loop-place.place e c.requires.yukawa c.item.ensures;
      value = c.in_ok-conjugate_value.ensures;
    }) c.in_ok-push.ensures.ok

pub gather-requires-clause-keys : goal.gather-requires-clause-keys
gather-requires-clause-keys c =
    let es = entries_of c.args.yukawa.now in
    conjugate_keys c.args.model.now es c.loop-place.values (conjugates_end c.args.model.now es c.loop-place.values c.loop-place.place (omega (arith, c.loop-place-test.false, c.len-place-end.ensures)) c.loop-place.invariant)

pub returns-clause-value : goal.returns-clause-value
returns-clause-value c =
    let es = entries_of c.args.yukawa.now in
    let vs = c.loop-place.values in
    let all : AreConjugates c.args.model.now es vs = conjugates_end c.args.model.now es vs c.loop-place.place (omega (arith, c.loop-place-test.false, c.len-place-end.ensures)) c.loop-place.invariant in
    IfOk-weaker c.gather.result (HasValues 3 (gathered_at (map entry vs))) (HasValues 3 (conjugate_beta_at c.args.model.now))
    (λ found gathered. has_conjugate c.args.model.now c.args.yukawa.now vs found c.requires.valid c.requires.yukawa all gathered)
    c.gather.ensures.value

pub returns-clause-refused : goal.returns-clause-refused
returns-clause-refused c =
    let es = entries_of c.args.yukawa.now in
    let vs = c.loop-place.values in
    let all : AreConjugates c.args.model.now es vs = conjugates_end c.args.model.now es vs c.loop-place.place (omega (arith, c.loop-place-test.false, c.len-place-end.ensures)) c.loop-place.invariant in
    IfErr-weaker c.gather.result (IsSumRefusalOf vs) (IsRefusalOf es) (λ bad refused. sum_refusal vs es bad (no_values c.args.model.now es vs all) refused)
    c.gather.ensures.refused

pub returns-clause-none : goal.returns-clause-none
returns-clause-none c none =
    let es = entries_of c.args.yukawa.now in
    let vs = c.loop-place.values in
    let all : AreConjugates c.args.model.now es vs = conjugates_end c.args.model.now es vs c.loop-place.place (omega (arith, c.loop-place-test.false, c.len-place-end.ensures)) c.loop-place.invariant in
    IfOk-weaker c.gather.result (HasValues 3 (gathered_at (map entry vs))) (λ found. entries_of found ≡ [])
    (λ found gathered. no_entries 3 (gathered_at (map entry vs)) found gathered (λ key. nothing_gathered vs key (no_values c.args.model.now es vs all none)))
    c.gather.ensures.value
