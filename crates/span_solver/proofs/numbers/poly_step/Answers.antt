use Rattle.std.proofs.Common.{◌∙◌, ap, ap₂}
use Rattle.beta_poly.specs.Polynomial.{add_poly, scale_poly}
use Rattle.span_solver.proofs.Values.{negated_multiple}
use Rattle.span_solver.proofs.numbers.poly_step.Goals as goal

pub returns-clause-value : goal.returns-clause-value
returns-clause-value c =
    c.in_ok-all.ensures.value
    ∙ ap₂ add_poly c.in_ok-first.ensures.value (c.in_ok-second.ensures.value ∙ ap (λ a. scale_poly a c.args.w.now) c.negated.ensures ∙ negated_multiple c.args.a.now c.args.w.now)
