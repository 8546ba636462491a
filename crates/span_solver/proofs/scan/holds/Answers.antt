use Rattle.std.proofs.Common.{◌∙◌, ap, ap₂}
use Rattle.sparse_tensor.specs.Tensor.{value}
use Rattle.span_solver.specs.Algebra.{polynomials}
use Rattle.span_solver.specs.Combine.{combine}
use Rattle.span_solver.proofs.Scans.{holds-some, holds-none}
use Rattle.span_solver.proofs.SystemSteps.{poly_step}
use Rattle.span_solver.proofs.scan.holds.Goals as goal

pub returns-in-Some-clause-value : goal.returns-in-Some-clause-value
returns-in-Some-clause-value c =
    holds-some c.args.entries.now c.args.solution.now.multiples (value c.args.tensor.now c.args.key.now) c.args.solution.now.number c.in_ok-total.total c.in_ok-rest-in-Some.rest c.is_nothing.result
    c.requires.other (c.in_ok-total.ensures.value ∙ ap (combine polynomials c.args.entries.now) c.as_slice.ensures)
    (c.in_ok-rest-in-Some.ensures.value ∙ ap₂ (λ o v. poly_step o c.in_ok-total.total c.args.solution.now.number v) c.one.ensures c.in-Some.ensures.0)
    c.is_nothing.ensures

pub returns-clause-value : goal.returns-clause-value
returns-clause-value c =
    holds-none c.args.entries.now c.args.solution.now.multiples (value c.args.tensor.now c.args.key.now) c.args.solution.now.number c.in_ok-total.total c.is_nothing-in-None.result
    c.requires.other (c.in_ok-total.ensures.value ∙ ap (combine polynomials c.args.entries.now) c.as_slice.ensures)
    c.in-None.ensures c.is_nothing-in-None.ensures
