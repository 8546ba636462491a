use Rattle.std.proofs.Common.{inl, inr}
use Rattle.derive_core.proofs.Sounds.{no_scalar_betas}
use Rattle.derive_core.proofs.outcomes.scalar_beta_tensor.Goals as goal

pub returns-in-Ok : goal.returns-in-Ok
returns-in-Ok g c =
    record { values = c.in-Ok.ensures.value; none = no_scalar_betas c.args.accepted.now.model c.in-Ok.found c.in-Ok.ensures.value }

pub returns-in-Err-Overflow : goal.returns-in-Err-Overflow
returns-in-Err-Overflow g c =
    let refused = rw c.in-Err-Overflow.field-0-is at c.in-Err-Overflow.ensures.refused in
    record { refused = refused.1; large = inr (inl refused.0) }
