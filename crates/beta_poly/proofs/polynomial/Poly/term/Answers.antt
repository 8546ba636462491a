use Rattle.std.proofs.Common.{ap, ◌∙◌, ◌++◌}
use Rattle.beta_poly.specs.Polynomial.{polynomial, kept}
use Rattle.beta_poly.proofs.Views.{kept-term}
use Rattle.beta_poly.proofs.polynomial.Poly.term.Goals as goal

pub returns : goal.returns
returns c =
    ap polynomial (c.in_ok-push_kept.ensures ∙ ap (λ r. r ++ kept c.args.mono.now c.args.value) c.new-terms.ensures.items) ∙ kept-term c.args.mono.now c.args.value
