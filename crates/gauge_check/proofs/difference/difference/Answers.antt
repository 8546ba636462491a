use Rattle.std.proofs.Common.{◌++◌, map, sym, ap, ◌∙◌}
use Rattle.std.proofs.lemmas.Result.{IfOk-weaker}
use Rattle.frac128.specs.Rational.{◌-ℚ◌}
use Rattle.sparse_tensor.specs.Tensor.{HasValues, entries_of}
use Rattle.sparse_tensor.specs.Operations.{entry, gathered_at}
use Rattle.model_core.specs.declared.term.TermKind.TheVariants.{Scalar}
use Rattle.model_core.specs.Scalar.{partner}
use Rattle.term_expand.specs.Multiples.{HasNumbers}
use Rattle.gauge_check.specs.Actions.{value_of, negated_values}
use Rattle.gauge_check.proofs.Differences.{difference_keys, has_difference}
use Rattle.gauge_check.proofs.difference.difference.Goals as goal

pub gather-requires-clause-keys : goal.gather-requires-clause-keys
gather-requires-clause-keys c k d within =
    let t = c.args.tensor.now in
    let other = c.in_ok-other.other in
    let some = c.requires.numbers in
    difference_keys c.args.model.now t other c.push_negated.new.values
    (c.in_ok-push_negated.ensures.value ∙ ap (λ l. l ++ negated_values other) (c.in_ok-push_entries.ensures ∙ ap (λ l. l ++ map value_of (entries_of t)) c.new-values.ensures))
    ((c.in_ok-other.ensures.value some.numbers some.has).rank_is ∙ sym some.has.rank_is) k d within
    ∙ sym c.rank.ensures.value

pub returns-clause-value : goal.returns-clause-value
returns-clause-value c f has =
    let t = c.args.tensor.now in
    let other = c.in_ok-other.other in
    let vs = c.push_negated.new.values in
    let conjugate = c.in_ok-other.ensures.value f has in
    IfOk-weaker c.gather.result (HasValues c.rank.result (gathered_at (map entry vs))) (HasNumbers c.args.model.now Scalar (λ cs. f cs -ℚ f (map partner cs)))
    (λ found gathered. has_difference c.args.model.now t other vs
    (c.in_ok-push_negated.ensures.value ∙ ap (λ l. l ++ negated_values other) (c.in_ok-push_entries.ensures ∙ ap (λ l. l ++ map value_of (entries_of t)) c.new-values.ensures))
    (conjugate.rank_is ∙ sym has.rank_is) f c.rank.result found has conjugate c.rank.ensures.value gathered)
    c.gather.ensures.value
