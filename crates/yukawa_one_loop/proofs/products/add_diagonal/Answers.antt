use Rattle.std.proofs.Common.{sym, ap, ◌∙◌}
use Rattle.beta_poly.specs.Polynomial.{poly_ring, add_poly}
use Rattle.yukawa_one_loop.proofs.products.add_diagonal.Goals as goal

pub returns-in-None-clause-value : goal.returns-in-None-clause-value
returns-in-None-clause-value c = sym (poly_ring.semiring.add_zero c.args.sum) ∙ ap (add_poly c.args.sum) (sym c.in-None.ensures)
