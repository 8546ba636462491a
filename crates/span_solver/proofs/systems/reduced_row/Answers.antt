use Rattle.std.proofs.Common.{◌∙◌, ap, ap₂, get_or}
use Rattle.span_solver.specs.Elimination.{reduced}
use Rattle.span_solver.proofs.SystemSteps.{reduced_row-is}
use Rattle.span_solver.proofs.systems.reduced_row.Goals as goal

pub returns-clause-value : goal.returns-clause-value
returns-clause-value c =
    reduced_row-is c.args.pivot.now c.args.row.now c.args.j c.in_ok-entries.entries c.in_ok-value.value c.index-other-j.result c.index-own-j.result
    (c.in_ok-entries.ensures.value ∙ ap₂ (λ x y. reduced x c.args.j y) c.as_slice-other.ensures c.as_slice-own.ensures)
    c.requires.within c.requires.same
    (c.index-other-j.is ∙ ap (λ xs. get_or xs c.args.j c.index-other-j.result) c.as_slice-other.ensures)
    (c.index-own-j.is ∙ ap (λ xs. get_or xs c.args.j c.index-own-j.result) c.as_slice-own.ensures)
    c.in_ok-value.ensures.value
