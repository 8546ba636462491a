use Rattle.std.proofs.Common.{sym, ap, map, length, ◌≡◌, subst}
use Rattle.std.proofs.lemmas.Result.{IfOk-weaker}
use Rattle.std.specs.List.{All}
use Rattle.sparse_tensor.specs.Tensor.{HasValues, value}
use Rattle.sparse_tensor.specs.Operations.{entry, gathered_at}
use Rattle.sparse_tensor.proofs.Parts.{other_values}
use Rattle.model_core.specs.TermTensor.{text_tensor}
use Rattle.term_expand.specs.Multiples.{HasNumbers}
use Rattle.term_expand.specs.Steps.{steps}
use Rattle.term_expand.specs.Texts.{leg_count, text_values}
use Rattle.term_expand.proofs.TextTensors.{text_numbers_of}
use Rattle.term_expand.proofs.TextLaws.{text_laws}
use Rattle.term_expand.proofs.texts.text_tensor.Goals as goal

pub gather-requires-clause-keys : goal.gather-requires-clause-keys
gather-requires-clause-keys c =
    let model = c.args.model.now in
    let term = c.args.term.now in
    let rank = (text_laws model term c.requires.term).rank c.args.row c.args.column in
    subst (λ n. All (λ v. length v.key ≡ n) c.in_ok-values.values) (sym c.leg_count.ensures) (subst (All (λ v. length v.key ≡ leg_count term.kind)) (sym c.in_ok-values.ensures.value) rank)

pub returns-clause-value : goal.returns-clause-value
returns-clause-value c =
    let model = c.args.model.now in
    let term = c.args.term.now in
    let basis = c.args.basis.now in
    let all = text_values model term c.args.row c.args.column in
    let raw : HasValues (leg_count term.kind) (gathered_at (map entry all)) c.in_ok-raw.raw = other_values c.leg_count.result (leg_count term.kind) (gathered_at (map entry c.in_ok-values.values)) (gathered_at (map entry all)) c.in_ok-raw.raw c.leg_count.ensures (λ key l. ap (λ values. gathered_at (map entry values) key) c.in_ok-values.ensures.value) c.in_ok-raw.ensures.value in
    IfOk-weaker c.tensor_of.result (HasValues (leg_count term.kind) (steps term.kind basis (value c.in_ok-raw.raw))) (HasNumbers model term.kind (text_tensor model term c.args.row c.args.column)) (λ t h. text_numbers_of model basis term c.args.row c.args.column c.in_ok-raw.raw t c.requires.basis (text_laws model term c.requires.term) raw h) c.tensor_of.ensures.value
