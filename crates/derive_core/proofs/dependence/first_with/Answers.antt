use Rattle.std.proofs.Common.{arith}
use Rattle.derive_core.proofs.FirstFaults.{depends_alone, depends_before, fails_before, later_fault}
use Rattle.derive_core.proofs.dependence.first_with.Goals as goal

pub returns-then-direction-faulty_term : goal.returns-then-direction-faulty_term
returns-then-direction-faulty_term c =
    let first = c.requires.first in
    let own = first.dependent.direction in
    let term = later_fault c.args.model.now c.args.directions.now c.args.place c.item-direction.result.now first c.requires.directions c.item-direction.ensures in
    depends_before c.args.model.now c.dependent_fault-then-direction-faulty_term.result c.in-Some.fault c.args.place first
    (c.dependent_fault-then-direction-faulty_term.ensures own first.dependent.stands)
    (rw c.in-Some.is at c.requires.failure)
    (omega (arith, term, c.if-direction-faulty_term.true, c.faulty_term.ensures))

pub returns-in-None : goal.returns-in-None
returns-in-None c =
    let first = c.requires.first in
    depends_alone c.args.model.now c.dependent_fault.result c.args.place first (c.dependent_fault.ensures first.dependent.direction first.dependent.stands) (rw c.in-None.is at c.requires.failure)

pub returns-else-direction-faulty_term : goal.returns-else-direction-faulty_term
returns-else-direction-faulty_term c =
    let first = c.requires.first in
    let term = later_fault c.args.model.now c.args.directions.now c.args.place c.item-direction.result.now first c.requires.directions c.item-direction.ensures in
    fails_before c.args.model.now c.in-Some.fault c.args.place (rw c.in-Some.is at c.requires.failure) first (omega (arith, term, c.if-direction-faulty_term.false, c.faulty_term.ensures))
