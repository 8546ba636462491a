use Rattle.derive_core.proofs.FirstFaults.{target_inside, dependent_is}
use Rattle.derive_core.proofs.dependence.dependent_fault.Goals as goal

pub item-target-requires : goal.item-target-requires
item-target-requires c =
    target_inside c.args.model.now c.args.directions.now c.args.targets.now c.args.place c.item-direction.result.now c.requires.targets c.requires.directions c.item-direction.ensures

pub returns : goal.returns
returns c meant stands =
    dependent_is c.args.model.now c.args.directions.now c.args.targets.now c.args.place c.item-direction.result.now c.item-target.result.now c.copy.result meant
    c.requires.targets c.requires.directions c.item-direction.ensures c.item-target.ensures c.copy.ensures stands
