use Rattle.derive_core.proofs.Derives.{derives}
use Rattle.derive_core.proofs.pipeline.derive.Goals as goal

pub returns : goal.returns
returns g c = derives c.args.loops c.args.bytes.now c.in_ok-accepted.accepted c.betas_of.result c.in_ok-accepted.ensures c.betas_of.ensures
