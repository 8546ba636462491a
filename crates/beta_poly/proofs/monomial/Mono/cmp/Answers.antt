use Rattle.std.proofs.Common.{ap₂, ◌∙◌}
use Rattle.beta_poly.specs.Monomial.{powers_cmp}
use Rattle.beta_poly.proofs.Views.{powers_are}
use Rattle.beta_poly.proofs.monomial.Mono.cmp.Goals as goal

pub returns : goal.returns
returns c =
    c.compare.ensures ∙ ap₂ powers_cmp (c.as_slice.ensures ∙ powers_are c.self.inside.powers.items c.args.self.now c.self.invariant c.self.view_is) (c.as_slice-2.ensures ∙ powers_are c.other.inside.powers.items c.args.other.now c.other.invariant c.other.view_is)
