use Rattle.std.proofs.Common.{◌<◌, length, slice_get, subst, sym, ap, ◌∙◌}
use Rattle.beta_poly.proofs.Views.{powers_are}
use Rattle.beta_poly.proofs.monomial.Mono.item.Goals as goal

pub power_at-requires : goal.power_at-requires
power_at-requires c =
    let same = c.as_slice.ensures ∙ powers_are c.self.inside.powers.items c.args.self.now c.self.invariant c.self.view_is in
    subst (λ p. c.args.place < length p) (sym same) c.requires

pub returns : goal.returns
returns c =
    let same = c.as_slice.ensures ∙ powers_are c.self.inside.powers.items c.args.self.now c.self.invariant c.self.view_is in
    ap (λ p. slice_get p c.args.place) (sym same) ∙ c.power_at.ensures
