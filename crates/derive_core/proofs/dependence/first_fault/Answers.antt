use Rattle.derive_core.proofs.FirstFaults.{tells_failure, dependent_inside}
use Rattle.derive_core.proofs.dependence.first_fault.Goals as goal

pub first_with-requires-clause-place : goal.first_with-requires-clause-place
first_with-requires-clause-place c =
    dependent_inside c.args.model.now c.args.directions.now c.in-Some.place c.requires.directions (rw c.in-Some.is at c.requires.dependent)

pub returns-in-None : goal.returns-in-None
returns-in-None c = tells_failure c.args.model.now c.args.failure c.requires.failure (rw c.in-None.is at c.requires.dependent)
