use Rattle.std.proofs.Common.{◌+◌, take, subst, sym, arith}
use Rattle.gauge_check.specs.Steps.{IsFirstKey, any_differs_at}
use Rattle.gauge_check.proofs.FirstKeys.{whole_at, wholes_length, difference_step, difference_end}
use Rattle.gauge_check.proofs.difference.first_difference.Goals as goal

pub difference_key-requires-clause-whole : goal.difference_key-requires-clause-whole
difference_key-requires-clause-whole c =
    let some = c.requires.wholes in
    let at = whole_at c.args.model.now some.wholes c.args.directions.now c.loop-direction.direction-index c.direction-item.result some.are c.loop-direction-test.true c.direction-item.is in
    record { whole = at.numbers; is = at.whole }

pub loop-direction-preserved : goal.loop-direction-preserved
loop-direction-preserved c fs are =
    let model = c.args.model.now in
    let i = c.loop-direction.direction-index in
    let at = whole_at model fs c.args.directions.now i c.direction-item.result are c.loop-direction-test.true c.direction-item.is in
    subst (IsFirstKey model (any_differs_at model (take (i + 1) fs))) (sym c.earlier-first.ensures)
    (difference_step model fs i at.numbers c.loop-direction.first c.in_ok-difference_key.field-0 at.within at.is (c.loop-direction.invariant fs are) (c.in_ok-difference_key.ensures.value at.numbers at.whole))

pub returns-clause-value : goal.returns-clause-value
returns-clause-value c fs are =
    let long = wholes_length c.args.model.now fs c.args.directions.now are in
    let over = c.loop-direction-test.false in
    difference_end c.args.model.now fs c.loop-direction.direction-index c.loop-direction.first (omega (arith, long, over)) (c.loop-direction.invariant fs are)
