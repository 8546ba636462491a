use Rattle.derive_core.proofs.BlockNumbers.{counted}
use Rattle.derive_core.proofs.WholeTold.{yukawa_values, conjugate_yukawa_values, scalar_values, conjugate_scalar_values, whole_result}
use Rattle.model_core.specs.Directions.{directions}
use Rattle.derive_core.proofs.outcomes.told_with.Goals as goal

pub with_sides-requires-clause-plain : goal.with_sides-requires-clause-plain
with_sides-requires-clause-plain g c κs within = yukawa_values c.args.accepted.now.model c.args.work.now.sides c.requires.work.sides

pub with_sides-requires-clause-conjugate : goal.with_sides-requires-clause-conjugate
with_sides-requires-clause-conjugate g c κs within = conjugate_yukawa_values c.args.accepted.now.model c.args.work.now.sides c.requires.work.sides

pub with_sides-requires-2-clause-plain : goal.with_sides-requires-2-clause-plain
with_sides-requires-2-clause-plain g c κs within = scalar_values c.args.accepted.now.model c.args.work.now.sides c.requires.work.sides

pub with_sides-requires-2-clause-conjugate : goal.with_sides-requires-2-clause-conjugate
with_sides-requires-2-clause-conjugate g c κs within = conjugate_scalar_values c.args.accepted.now.model c.args.work.now.sides c.requires.work.sides

pub returns-clause-value : goal.returns-clause-value
returns-clause-value g c =
    let model = c.args.accepted.now.model in
    let founds = c.args.accepted.now.tensors.directions in
    whole_result model c.args.work.now.sides c.in_ok-first.first c.in_ok-second.second _ c.with_sides-2.result c.requires.work.sides (counted (directions model) founds c.requires.directions)
    c.in_ok-first.ensures.value c.in_ok-second.ensures.value c.with_sides-2.ensures.value
