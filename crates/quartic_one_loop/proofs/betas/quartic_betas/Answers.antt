use Rattle.std.proofs.Common.{◌≡◌, ◌≢◌, [], length, refl, ap, ◌∙◌, arith}
use Rattle.std.proofs.lemmas.Result.{IfOk-weaker, IfErr-weaker}
use Rattle.beta_poly.specs.Polynomial.{zero_poly}
use Rattle.sparse_tensor.specs.declared.fault.TensorFault.{TensorFault}
use Rattle.sparse_tensor.specs.Refusals.{IsTensorRefusal}
use Rattle.sparse_tensor.specs.Tensor.{HasValues}
use Rattle.sparse_tensor.proofs.Parts.{other_values}
use Rattle.beta_formulas.specs.ScalarBeta.{scalar_beta_at}
use Rattle.yukawa_one_loop.proofs.AllBetas.{no_items}
use Rattle.quartic_one_loop.specs.FourLegs.{IsScalarRefusal}
use Rattle.quartic_one_loop.proofs.BetaValues.{scalar_refusal, scalar_memory}
use Rattle.quartic_one_loop.proofs.FewDummies.{no_scalar_betas}
use Rattle.quartic_one_loop.proofs.TensorBounds.{is_quartic, is_yukawa}
use Rattle.quartic_one_loop.proofs.betas.quartic_betas.Goals as goal

pub returns-then-len-eq0-clause-value : goal.returns-then-len-eq0-clause-value
returns-then-len-eq0-clause-value g c =
    let model = c.args.model.now in
    let none : model.scalars ≡ [] = no_items model.scalars (omega (arith, c.len.ensures, c.if-len-eq0.true)) in
    IfOk-weaker c.no_betas.result (HasValues 4 (λ key. zero_poly)) (HasValues 4 (scalar_beta_at model))
    (λ s has. other_values 4 4 (λ key. zero_poly) (scalar_beta_at model) s refl (no_scalar_betas model none) has) c.no_betas.ensures.value

pub returns-then-len-eq0-clause-refused : goal.returns-then-len-eq0-clause-refused
returns-then-len-eq0-clause-refused g c =
    IfErr-weaker c.no_betas.result (λ fault. fault ≡ TensorFault.NoMemory) (IsScalarRefusal c.args.model.now) (scalar_memory c.args.model.now) c.no_betas.ensures.refused

pub returns-clause-refused : goal.returns-clause-refused
returns-clause-refused g c =
    let model = c.args.model.now in
    let some : model.scalars ≢ [] = λ none. c.if-len-eq0.false (c.len.ensures ∙ ap length none) in
    IfErr-weaker c.all_betas.result IsTensorRefusal (IsScalarRefusal model) (scalar_refusal model some) c.all_betas.ensures.refused

pub all_betas-requires-clause-yukawa : goal.all_betas-requires-clause-yukawa
all_betas-requires-clause-yukawa g c =
    is_yukawa c.args.model.now c.args.tensors.now.yukawa c.requires.tensors.yukawa

pub all_betas-requires-clause-quartic : goal.all_betas-requires-clause-quartic
all_betas-requires-clause-quartic g c =
    is_quartic c.args.model.now c.args.tensors.now.scalar c.requires.tensors.scalar
