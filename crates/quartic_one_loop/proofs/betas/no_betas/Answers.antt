use Rattle.std.proofs.Common.{◌≡◌, map, refl, ap, ◌∙◌}
use Rattle.std.proofs.lemmas.Result.{IfOk-weaker, IfErr-weaker}
use Rattle.beta_poly.specs.Polynomial.{zero_poly}
use Rattle.sparse_tensor.specs.declared.fault.TensorFault.{TensorFault}
use Rattle.sparse_tensor.specs.Refusals.{IsSumRefusalOf}
use Rattle.sparse_tensor.specs.Tensor.{HasValues}
use Rattle.sparse_tensor.specs.Operations.{entry, gathered_at}
use Rattle.sparse_tensor.proofs.Parts.{other_values}
use Rattle.term_expand.proofs.Added.{gathered_none}
use Rattle.yukawa_one_loop.proofs.AllBetas.{no_memory}
use Rattle.quartic_one_loop.proofs.betas.no_betas.Goals as goal

pub returns-clause-value : goal.returns-clause-value
returns-clause-value c =
    IfOk-weaker c.gather.result (HasValues 4 (gathered_at (map entry c.new.result))) (HasValues 4 (λ key. zero_poly))
    (λ t has. other_values 4 4 (gathered_at (map entry c.new.result)) (λ key. zero_poly) t refl (λ key l. ap (λ vs. gathered_at (map entry vs) key) c.new.ensures ∙ gathered_none key) has) c.gather.ensures.value

pub returns-clause-refused : goal.returns-clause-refused
returns-clause-refused c =
    IfErr-weaker c.gather.result (IsSumRefusalOf c.new.result) (λ fault. fault ≡ TensorFault.NoMemory)
    (λ fault refused. no_memory c.new.result c.new.ensures fault refused) c.gather.ensures.refused
