use Rattle.std.proofs.Common.{◌≡◌, length, ap, ◌∙◌, arith}
use Rattle.std.specs.List.{list_all}
use Rattle.model_core.specs.Component.{slot_sizes}
use Rattle.model_core.specs.Groups.{is_between}
use Rattle.model_core.proofs.CountLaws.{slot_sizes-small, slot_sizes-few}
use Rattle.model_core.proofs.component.slot_sizes.Goals as goal

pub returns-clause-small : goal.returns-clause-small
returns-clause-small c =
    let sizes : c.push_sizes.new.sizes ≡ slot_sizes c.args.groups.now c.args.reps.now = cc in
    ap (list_all (is_between 1 6)) sizes ∙ slot_sizes-small c.args.groups.now c.args.reps.now c.requires.small

pub returns-clause-few : goal.returns-clause-few
returns-clause-few c =
    let sizes : c.push_sizes.new.sizes ≡ slot_sizes c.args.groups.now c.args.reps.now = cc in
    omega (arith, ap length sizes, slot_sizes-few c.args.groups.now c.args.reps.now)
