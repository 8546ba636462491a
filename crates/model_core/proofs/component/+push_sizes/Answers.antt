use Rattle.std.proofs.Common.{◌<◌, ◌++◌, length, rules, sym, ap, ◌∙◌}
use Rattle.std.proofs.lemmas.List.{append-nil}
use Rattle.model_core.proofs.TupleLaws.{slot_sizes-no_rep}
use Rattle.model_core.proofs.component.+push_sizes.Goals as goal

pub returns-then-this-lt1 : goal.returns-then-this-lt1
returns-then-this-lt1 t c =
    let none : length c.args.reps.now < 1 = search rules in
    sym (ap (λ s. c.args.sizes.now ++ s) (slot_sizes-no_rep c.args.groups.now c.args.reps.now none) ∙ append-nil c.args.sizes.now)
