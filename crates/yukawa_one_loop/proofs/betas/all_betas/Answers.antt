use Rattle.std.proofs.Common.{length, subst}
use Rattle.std.proofs.lemmas.Result.{IfOk-weaker}
use Rattle.sparse_tensor.specs.Tensor.{HasValues}
use Rattle.model_core.specs.Scalar.{scalar_coordinates}
use Rattle.beta_formulas.specs.YukawaBeta.{yukawa_beta_at}
use Rattle.yukawa_one_loop.specs.Parts.{AreBetas}
use Rattle.yukawa_one_loop.specs.Entries.{stacked_at}
use Rattle.yukawa_one_loop.proofs.AllBetas.{betas_rank, has_betas}
use Rattle.yukawa_one_loop.proofs.betas.all_betas.Goals as goal

pub stack-requires : goal.stack-requires
stack-requires c =
    let model = c.in_ok-lines.lines.model.now in
    betas_rank model (length (scalar_coordinates model)) c.in_ok-matrices.matrices c.in_ok-matrices.ensures.value

pub returns-clause-value : goal.returns-clause-value
returns-clause-value c =
    let ts = c.in_ok-matrices.matrices in
    let betas = subst (λ m. AreBetas m (length (scalar_coordinates m)) ts) c.in_ok-lines.ensures.model c.in_ok-matrices.ensures.value in
    IfOk-weaker c.stack.result (HasValues 3 (stacked_at ts)) (HasValues 3 (yukawa_beta_at c.args.model.now))
    (λ t has. has_betas c.args.model.now ts betas t has) c.stack.ensures.value
