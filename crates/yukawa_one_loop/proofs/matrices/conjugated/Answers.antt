use Rattle.std.proofs.Common.{ℕ, List, [], map, ap₂, arith}
use Rattle.std.proofs.lemmas.Result.{IfOk-weaker}
use Rattle.beta_poly.specs.Polynomial.{Polynomial, conj_poly}
use Rattle.sparse_tensor.specs.declared.values.Value.{Value}
use Rattle.sparse_tensor.specs.Tensor.{HasValues, rank_of, entries_of, value}
use Rattle.sparse_tensor.specs.Operations.{entry, gathered_at}
use Rattle.term_expand.proofs.Mapped.{mapped_step}
use Rattle.yukawa_one_loop.specs.Entries.{with_value}
use Rattle.yukawa_one_loop.proofs.Entrywise.{conj_additive, mapped_end, image_values, image_keys}
use Rattle.yukawa_one_loop.proofs.matrices.conjugated.Goals as goal

pub loop-at-preserved : goal.loop-at-preserved
loop-at-preserved c =
    let e : List ℕ × Polynomial = (c.item.result.0.now, c.item.result.1.now) in
    let v : Value = record { key = c.in_ok-copied.field-0; value = c.in_ok-conj.field-0 } in
    mapped_step (with_value conj_poly) (entries_of c.args.tensor.now) c.loop-at.at e v [] c.loop-at.values c.push.new.self c.item.ensures
    (ap₂ (λ k p. record { key = k; value = p }) c.in_ok-copied.ensures c.in_ok-conj.ensures) c.loop-at.invariant c.in_ok-push.ensures.ok

pub gather-requires-clause-keys : goal.gather-requires-clause-keys
gather-requires-clause-keys c =
    let es = entries_of c.args.tensor.now in
    image_keys conj_poly c.args.tensor.now c.rank.result c.loop-at.values c.rank.ensures.value
    (mapped_end (with_value conj_poly) es c.loop-at.at [] c.loop-at.values (omega (arith, c.loop-at-test.false, c.len-at-end.ensures)) c.loop-at.invariant)

pub returns-clause-value : goal.returns-clause-value
returns-clause-value c =
    let t = c.args.tensor.now in
    let vs = c.loop-at.values in
    IfOk-weaker c.gather.result (HasValues c.rank.result (gathered_at (map entry vs))) (HasValues (rank_of t) (λ key. conj_poly (value t key)))
    (λ s has. image_values conj_poly conj_additive t s c.rank.result vs c.rank.ensures.value
    (mapped_end (with_value conj_poly) (entries_of t) c.loop-at.at [] vs (omega (arith, c.loop-at-test.false, c.len-at-end.ensures)) c.loop-at.invariant) has)
    c.gather.ensures.value
