use Rattle.std.proofs.Common.{◌≡◌, ◌≢◌, [], length, ap, ◌∙◌, arith}
use Rattle.std.proofs.lemmas.Result.{IfOk-weaker, IfErr-weaker}
use Rattle.beta_poly.specs.Polynomial.{zero_poly}
use Rattle.sparse_tensor.specs.declared.fault.TensorFault.{TensorFault}
use Rattle.sparse_tensor.specs.Refusals.{IsRefusalOf, IsTensorRefusal}
use Rattle.sparse_tensor.specs.Tensor.{HasValues, entries_of}
use Rattle.beta_formulas.specs.YukawaBeta.{yukawa_beta_at}
use Rattle.yukawa_one_loop.proofs.AllBetas.{no_items, memory_refusal, refused_of}
use Rattle.yukawa_one_loop.proofs.NoYukawas.{has_no_betas}
use Rattle.yukawa_one_loop.proofs.betas.yukawa_betas.Goals as goal

pub returns-then-len-eq0-clause-value : goal.returns-then-len-eq0-clause-value
returns-then-len-eq0-clause-value g c =
    let model = c.args.model.now in
    let t = c.args.tensors.now.yukawa in
    let none : entries_of t ≡ [] = no_items (entries_of t) (omega (arith, c.len.ensures, c.if-len-eq0.true)) in
    IfOk-weaker c.no_betas.result (HasValues 3 (λ key. zero_poly)) (HasValues 3 (yukawa_beta_at model))
    (λ s has. has_no_betas model t c.requires.tensors.yukawa none s has) c.no_betas.ensures.value

pub returns-then-len-eq0-clause-refused : goal.returns-then-len-eq0-clause-refused
returns-then-len-eq0-clause-refused g c =
    let es = entries_of c.args.tensors.now.yukawa in
    IfErr-weaker c.no_betas.result (λ fault. fault ≡ TensorFault.NoMemory) (IsRefusalOf es) (memory_refusal es) c.no_betas.ensures.refused

pub returns-clause-refused : goal.returns-clause-refused
returns-clause-refused g c =
    let es = entries_of c.args.tensors.now.yukawa in
    let some : es ≢ [] = λ none. c.if-len-eq0.false (c.len.ensures ∙ ap length none) in
    IfErr-weaker c.all_betas.result IsTensorRefusal (IsRefusalOf es) (refused_of es some) c.all_betas.ensures.refused

pub all_betas-requires-clause-yukawa : goal.all_betas-requires-clause-yukawa
all_betas-requires-clause-yukawa g c = c.requires.tensors.yukawa
