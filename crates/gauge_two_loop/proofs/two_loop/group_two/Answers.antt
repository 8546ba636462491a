use Rattle.std.proofs.Common.{ℕ, ap₂, ◌∙◌}
use Rattle.std.proofs.lemmas.Result.{err_from_is_err_and}
use Rattle.beta_poly.specs.Polynomial.{add_poly}
use Rattle.model_core.specs.declared.group.Group.{Group}
use Rattle.gauge_two_loop.proofs.Faults.{entry_refusal, part_refusal}
use Rattle.gauge_two_loop.proofs.PieceLaws.{sum_of_parts}
use Rattle.gauge_two_loop.proofs.two_loop.group_two.Goals as goal

pub returns-in_err-right-clause-refused : goal.returns-in_err-right-clause-refused
returns-in_err-right-clause-refused c =
    let given = err_from_is_err_and c.from_residual-in_err-right.result c.from_residual-in_err-right.ensures.1 in
    rw (given.1, given.2) (entry_refusal c.args.model.now c.args.yukawa.now c.requires.yukawa c.in_err-right.field-0.0 c.in_err-right.ensures.refused)

pub returns-in_err-add-clause-refused : goal.returns-in_err-add-clause-refused
returns-in_err-add-clause-refused c =
    let given = err_from_is_err_and c.from_residual-in_err-add.result c.from_residual-in_err-add.ensures.1 in
    rw (given.1, given.2) (part_refusal c.args.model.now c.args.yukawa.now c.requires.yukawa c.in_ok-left.left c.in_ok-right.right c.in_err-add.field-0.0 c.in_ok-right.ensures.none c.in_err-add.ensures.refused)

pub returns-clause-value : goal.returns-clause-value
returns-clause-value c =
    let k : ℕ × Group = (c.args.place, c.args.group.now) in
    c.in_ok-add.ensures.value ∙ ap₂ add_poly c.in_ok-left.ensures.value c.in_ok-right.ensures.value ∙ sum_of_parts c.args.model.now k
