use Rattle.derive_core.proofs.Sounds.{no_betas, has_terms}
use Rattle.derive_core.proofs.outcomes.yukawa_beta_tensor.Goals as goal

pub returns-in-Ok : goal.returns-in-Ok
returns-in-Ok g c =
    let model = c.args.accepted.now.model in
    record { values = c.in-Ok.ensures.value; none = no_betas model c.args.accepted.now.tensors.yukawa c.in-Ok.found c.requires.tensors.yukawa c.in-Ok.ensures.value }

pub returns-in-Err-Overflow : goal.returns-in-Err-Overflow
returns-in-Err-Overflow g c =
    let refused = rw c.in-Err-Overflow.field-0-is at c.in-Err-Overflow.ensures.refused in
    record { refused = refused.1; large = has_terms c.args.accepted.now.model c.args.accepted.now.tensors.yukawa c.requires.tensors.yukawa refused.0 }
